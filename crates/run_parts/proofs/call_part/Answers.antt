-- An answer with a number is a refusal. Otherwise the call is accepted: the bytes are a state, and the colours of the groups are at the start of
-- the buffer.
use Prim.Native.Nat.{ℕ, ◌%◌, ◌≤◌}
use mathlib.Core.Path.{◌≡◌, refl, sym, ap, ◌∙◌}
use native.Mathlib.Omega.{arith}
use lib.ListN.{length-take}
use lib.Seq.{length-take-le}
use Rattle.rules.specs.Personality.{group_count}
use Rattle.state_timed.specs.TimedLayout.{is_timed}
use Rattle.state_timed.proofs.TimedLaws.{timed-known}
use Rattle.board_step.specs.StepCall.{step_answer}
use Rattle.run_parts.proofs.Parts.{state-timed, few-groups, call-refused, call-accepted, line-told}
use Rattle.run_parts.proofs.call_part.Goals as goal

pub returns-then-number-ne0 : goal.returns-then-number-ne0
returns-then-number-ne0 c =
    let a = c.args in (
      rw (call-refused a.personality.now a.state.now a.step a.inputs c.step-answer.ensures.0 c.if-number-ne0.true) c.refuse.ensures,
      c.step-answer.ensures.1,
    )

pub read-kept-requires : goal.read-kept-requires
read-kept-requires c =
    let a = c.args in
    let accepted : step_answer a.personality.now a.state.now a.inputs 32 % 256 ≡ 0 = ap (λ (r : ℕ). r % 256) (sym c.step-answer.ensures.0) ∙ c.if-number-ne0.false in
    let told = timed-known _ (ap is_timed c.step-answer.ensures.1 ∙ state-timed a.personality.now a.state.now a.inputs 32 accepted) in
    (omega (arith, told.size), told.kept-known)

pub slice_bounds-colours-end : goal.slice_bounds-colours-end
unfolding group_count
slice_bounds-colours-end c =
    let a = c.args in
    let accepted : step_answer a.personality.now a.state.now a.inputs 32 % 256 ≡ 0 = ap (λ (r : ℕ). r % 256) (sym c.step-answer.ensures.0) ∙ c.if-number-ne0.false in
    omega (arith, few-groups a.personality.now a.state.now a.inputs 32 accepted)

pub slice_bounds-put_step-end : goal.slice_bounds-put_step-end
unfolding group_count
slice_bounds-put_step-end c =
    let a = c.args in
    let accepted : step_answer a.personality.now a.state.now a.inputs 32 % 256 ≡ 0 = ap (λ (r : ℕ). r % 256) (sym c.step-answer.ensures.0) ∙ c.if-number-ne0.false in
    sym (length-take-le c.from-groups.result _ (omega (arith, few-groups a.personality.now a.state.now a.inputs 32 accepted)))

pub put_step-length-requires : goal.put_step-length-requires
unfolding group_count
put_step-length-requires c =
    let a = c.args in
    let accepted : step_answer a.personality.now a.state.now a.inputs 32 % 256 ≡ 0 = ap (λ (r : ℕ). r % 256) (sym c.step-answer.ensures.0) ∙ c.if-number-ne0.false in
    (simp length-take (omega (arith, few-groups a.personality.now a.state.now a.inputs 32 accepted)), omega arith)

pub returns : goal.returns
returns c =
    let a = c.args in
    let line =
    line-told a.personality.now a.state.now a.step a.inputs c.read-kept.ensures c.step-answer.ensures.1 (c.from-groups.ensures ∙ c.byte_at.ensures)
    c.step-answer.ensures.2 in (
      rw (call-accepted a.personality.now a.state.now a.step a.inputs c.step-answer.ensures.0 c.if-number-ne0.false)
          (record { text = rw (← line) c.put_step-length.ensures; more = refl }),
      c.step-answer.ensures.1,
    )
