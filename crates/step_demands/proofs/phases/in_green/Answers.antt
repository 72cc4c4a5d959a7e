-- The bit of the phase where it is in minimum green or running, and no bit else.
use Rattle.std.proofs.Common.{eqb, sym, ◌∙◌, arith}
use mathlib.Core.Bool.{and-true}
use Rattle.rules.specs.Demands.{in_green}
use Rattle.laws.proofs.Bits.{bit-blank}
use Rattle.laws.proofs.Booleans.{and-false-right}
use Rattle.laws.proofs.ByteSets.{set_same, set_told}
use Rattle.step_demands.proofs.phases.in_green.Goals as goal

pub returns-then-is_green : goal.returns-then-is_green
unfolding in_green
returns-then-is_green c =
    let green = sym c.is_green.ensures ∙ c.if-is_green.true in
    c.with.ensures ∙ set_same _ _ (λ p l. rw (bit-blank p, green) (sym (and-true (eqb p c.args.position.phase))))

pub returns-else-is_green : goal.returns-else-is_green
unfolding in_green
returns-else-is_green c =
    set_told _ 0 (omega arith)
    (λ p l. bit-blank p ∙ sym (and-false-right (eqb p c.args.position.phase) (sym c.is_green.ensures ∙ c.if-is_green.false)))
