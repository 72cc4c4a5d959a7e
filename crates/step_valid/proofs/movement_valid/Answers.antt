-- A record that is not idle.
use Rattle.std.proofs.Common.{sym, ◌∙◌, arith}
use Rattle.std.proofs.lemmas.Grind.{common_steps}
use Rattle.step_valid.proofs.Records.{busy_valid}
use Rattle.step_valid.proofs.movement_valid.Goals as goal

pub returns-then-not-holding : goal.returns-then-not-holding
returns-then-not-holding c =
    let busy = busy_valid c.args.of_phase c.args.interval c.args.movement (sym c.is_idle.ensures ∙ c.if-is_idle.false) in
    grind (arith, common_steps, busy)

pub returns-else-not-holding : goal.returns-else-not-holding
returns-else-not-holding c =
    let busy = busy_valid c.args.of_phase c.args.interval c.args.movement (sym c.is_idle.ensures ∙ c.if-is_idle.false) in
    grind (arith, common_steps, busy)
