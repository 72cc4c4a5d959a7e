-- A step on a held personality, in its three cases: outputs past the 32nd, a buffer under 32 bytes, and its own part of the buffer.
use Rattle.std.specs.Prelude.{Ok, Err}
use Prim.Native.Nat.{ℕ, ◌+◌, ◌≤◌, ◌<◌}
use mathlib.Core.Bool.{true, false}
use mathlib.Core.List.{List, ◌++◌}
use mathlib.Core.Path.{◌≡◌, refl, sym, ◌∙◌}
use native.Mathlib.Omega.{arith}
use borrow.Author.Tests.{lt-ltb, le-ltb, ltb-false}
use lib.ListN.{length, take, drop, length-take, length-drop}
use Rattle.rules.specs.Verdicts.{Verdict}
use Rattle.rules.specs.Verdicts.{Refused}
use Rattle.rules.specs.Personality.{verdict_of}
use Rattle.rules.specs.Verdicts.{◌or_else◌, refuse_if}
use Rattle.board_answers.specs.Answers.{packed_verdict}
use Rattle.board_step.proofs.StepCalls.{Answers, refused}
use Rattle.cabinet_records.specs.Cabinet.{outputs_of, past_last, is_short, outputs_in, written_at}
use Rattle.cabinet_records.proofs.Outputs.{written_none}
use Rattle.cabinet_held.specs.Held.{held_checks, held_step_for, held_stepped, held_step}
use Rattle.cabinet_held.proofs.Bytes.{none_of, part-back, part-kept}

module _ (b : List ℕ) (first : ℕ) (old : List ℕ) (inputs : ℕ) (out : List ℕ) where
  -- ── Past the 32nd output ──

  past-for :
      (v : Verdict) →
      verdict_of b ≡ v →
      past_last first (outputs_of b) ≡ true →
      record { answer = packed_verdict (held_checks b first); state = old; outputs = out } ≡ held_step b first old inputs out
  unfolding held_step held_step_for held_checks ◌or_else◌ refuse_if
  past-for (Ok _) e past = rw (e, past)
  past-for (Err r) e past = rw e

  pub past-step :
      {r : ℕ} →
      past_last first (outputs_of b) ≡ true →
      r ≡ packed_verdict (held_checks b first) →
      record { answer = r; state = old; outputs = out } ≡ held_step b first old inputs out
  past-step {r} past e = rw e (past-for (verdict_of b) refl past)

  -- ── A step on a part of the buffer ──

  -- the step call's answer, the new state, and the buffer as it becomes
  own-for :
      (part : List ℕ) {r : ℕ} {new shown all : List ℕ} →
      Answers b old inputs part r new shown →
      past_last first (outputs_of b) ≡ false →
      part ≡ outputs_in out first (outputs_of b) →
      all ≡ written_at out first shown →
      (shown ≡ part → all ≡ out) →
      (v : Verdict) →
      verdict_of b ≡ v →
      record { answer = r; state = new; outputs = all } ≡ held_step b first old inputs out
  unfolding held_step held_step_for held_stepped held_checks ◌or_else◌ refuse_if packed_verdict
  own-for part steps within own stored kept (Ok _) e = rw (e, within, stored, ← own, steps.0, steps.1, steps.2)
  own-for part steps within own stored kept (Err r) e =
      let same = refused b old inputs part (packed_verdict (Refused r.number r.place)) e refl in
      rw (e, steps.0, ← same.0, steps.1, ← same.1, kept (steps.2 ∙ sym same.2))

  -- a buffer under 32 bytes lends nothing
  pub short-step :
      {r : ℕ} {new shown : List ℕ} →
      Answers b old inputs (take 0 out) r new shown →
      past_last first (outputs_of b) ≡ false →
      length out < 32 →
      length shown ≡ length (take 0 out) →
      record { answer = r; state = new; outputs = shown ++ out } ≡ held_step b first old inputs out
  unfolding outputs_in is_short
  short-step {shown = shown} steps within l same =
      let empty = none_of shown (omega (arith, same, length-take 0 out)) in
      own-for (take 0 out) steps within (none_of (take 0 out) (omega (arith, length-take 0 out)) ∙ rw (lt-ltb (length out) 32 l)) (rw empty (sym (written_none out first))) (λ e. rw empty) (verdict_of b) refl

  -- any other buffer lends the record's own outputs
  pub own-step :
      {r : ℕ} {new shown : List ℕ} (count : ℕ) →
      count ≡ outputs_of b →
      Answers b old inputs (take count (drop first out)) r new shown →
      past_last first (outputs_of b) ≡ false →
      32 ≤ length out →
      length shown ≡ length (take count (drop first out)) →
      record { answer = r; state = new; outputs = take first out ++ (shown ++ drop count (drop first out)) } ≡ held_step b first old inputs out
  unfolding outputs_in is_short past_last
  own-step {shown = shown} count e steps within l same =
      let size : length shown ≡ count = omega (arith, ltb-false 32 (first + outputs_of b) within, same, length-take count (drop first out), length-drop first out) in
      own-for (take count (drop first out)) steps within (rw (le-ltb (length out) 32 l, e)) (part-back out first count shown size)
      (λ kept. rw kept (part-kept out first count))
      (verdict_of b)
      refl

  -- the same, where the code has the first output as another number
  pub own-at :
      {r : ℕ} {new shown : List ℕ} (start count : ℕ) →
      start ≡ first →
      count ≡ outputs_of b →
      Answers b old inputs (take count (drop start out)) r new shown →
      past_last first (outputs_of b) ≡ false →
      32 ≤ length out →
      length shown ≡ length (take count (drop start out)) →
      record { answer = r; state = new; outputs = take start out ++ (shown ++ drop count (drop start out)) } ≡ held_step b first old inputs out
  own-at start count h e steps within l same = rw h (own-step count e (rw h at steps) within l (rw h at same))
