-- Outputs past the 32nd, a buffer under 32 bytes, and its own part of the buffer.
use Prim.Native.Nat.{◌+◌, ◌-◌}
use borrow.Author.Tests.{ltb-false}
use mathlib.Core.Path.{◌≡◌, sym, ap, ◌∙◌}
use native.Mathlib.Omega.{arith}
use Rattle.board_answers.specs.Answers.{packed_verdict}
use Rattle.cabinet_records.specs.Cabinet.{past_last, outputs_of}
use Rattle.cabinet_held.proofs.Checks.{held-near, near_plain}
use Rattle.cabinet_held.proofs.Steps.{past-step, short-step, own-at}
use Rattle.cabinet_held.proofs.held_step.Goals as goal

pub packed_verdict-requires : goal.packed_verdict-requires
packed_verdict-requires c = near_plain _ c.held_checks.ensures (held-near _ _)

pub returns-then-past_last : goal.returns-then-past_last
returns-then-past_last c =
    let tested = sym ((rw c.from-start.ensures at c.past_last.ensures) ∙ ap (past_last c.args.first) c.outputs_of-count.ensures) in
    past-step _ _ _ _ _ (tested ∙ c.if-past_last.true) (c.packed_verdict.ensures ∙ ap packed_verdict c.held_checks.ensures)

pub returns-then-outputs-lt32 : goal.returns-then-outputs-lt32
returns-then-outputs-lt32 c =
    let tested = sym ((rw c.from-start.ensures at c.past_last.ensures) ∙ ap (past_last c.args.first) c.outputs_of-count.ensures) in
    short-step _ _ _ _ _ c.step.ensures (tested ∙ c.if-past_last.false) c.if-outputs-lt32.true c.step.auto.colours

pub slice_bounds-step-end-2 : goal.slice_bounds-step-end-2
unfolding past_last
slice_bounds-step-end-2 c =
    let a = c.args in
    let tested = sym ((rw c.from-start.ensures at c.past_last.ensures) ∙ ap (past_last a.first) c.outputs_of-count.ensures) in
    let within = ltb-false 32 (a.first + outputs_of a.personality.now) (tested ∙ c.if-past_last.false) in
    omega (arith, c.if-outputs-lt32.false, within, c.outputs_of-count.ensures)

pub returns : goal.returns
returns c =
    let count = c.outputs_of-count in
    let tested = sym ((rw c.from-start.ensures at c.past_last.ensures) ∙ ap (past_last c.args.first) count.ensures) in
    let size : c.from-start.result + c.from.result - c.from-start.result ≡ outputs_of c.args.personality.now = omega (arith, count.ensures) in
    own-at _ _ _ _ _ _ _ c.from-start.ensures size c.step-2.ensures (tested ∙ c.if-past_last.false) c.if-outputs-lt32.false c.step-2.auto.colours
