-- The first field that is refused is the answer.
use Rattle.std.proofs.Common.{arith, sym, ◌∙◌}
use Rattle.rules.specs.Personality.{times_at}
use Rattle.rules.proofs.Checks.{row_stopped}
use Rattle.read_time_records.proofs.times_at.Goals as goal

pub returns-in_err-time_at : goal.returns-in_err-time_at
unfolding times_at
returns-in_err-time_at c =
    grind (arith, row_stopped _ _ _ c.loop-f-test.true c.loop-f.invariant (sym c.time_at.ensures ∙ c.in_err-time_at.was))
