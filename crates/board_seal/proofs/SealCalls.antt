-- Sealing and resuming, check by check: each decides the verdict once the checks before it have passed, and the verdict decides the answer and
-- what becomes of the buffer.
use Prim.Native.Nat.{ℕ}
use mathlib.Core.Bool.{true, false, not}
use mathlib.Core.List.{List}
use mathlib.Core.Path.{◌≡◌, refl, ◌∙◌}
use lib.ListN.{length}
use borrow.Author.Tests.{eq-eqb, not-false}
use Rattle.laws.proofs.Booleans.{and_left}
use Rattle.std.specs.Prelude.{Err}
use Rattle.rules.specs.declared.answer.Refusal.{Refusal}
use Rattle.rules.specs.Verdicts.{Verdict, Accepted, Refused}
use Rattle.rules.specs.Verdicts.{◌or_else◌, refuse_if}
use Rattle.rules.specs.Personality.{verdict_of}
use Rattle.rules.specs.Call.{handed_back}
use Rattle.rules.proofs.Verdicts.{or-first, or_later, refuse-passed}
use Rattle.proof_acceptance.proofs.Refusals.{Refusals, if-refusals, or-refusals}
use Rattle.state_timed.specs.TimedLayout.{timed_bytes, is_timed}
use Rattle.state_timed.proofs.TimedLaws.{timed-known}
use Rattle.state_sealed.specs.Sealed.{sealed_bytes, sealed_of, other_version, damaged, other_personality, state_in}
use Rattle.state_valid.specs.StateOf.{is_state_of}
use Rattle.board_answers.specs.Answers.{packed}
use Rattle.board_answers.proofs.Answers.{Near, near_if, near_or, read-accepted, read-refused}
use Rattle.board_seal.specs.SealCall.{seal_verdict, seal_answer, seal_after, record_verdict, resume_verdict, resume_answer, resume_after}

-- a valid state has the length of one
pub state-long : (b state : List ℕ) → is_state_of b state ≡ true → length state ≡ timed_bytes
unfolding is_state_of
state-long b state e = (timed-known state (and_left (is_timed state) _ e)).size

-- ── Sealing ──

-- what a call answers, with the buffer as it returns
abbrev pub Seals : List ℕ → List ℕ → List ℕ → ℕ → List ℕ → Type 0
Seals b state old r new = (r ≡ seal_answer b state old) × (new ≡ seal_after b state old)

module _ (b state old : List ℕ) where
  module _ (accepted : verdict_of b ≡ Accepted) where
    module _ (valid : is_state_of b state ≡ true) where
      pub seals : (new : List ℕ) → length old ≡ sealed_bytes → new ≡ sealed_of b state → Seals b state old 0 new
      unfolding seal_verdict seal_answer seal_after ◌or_else◌ refuse_if handed_back
      seals new e written =
          let room = eq-eqb (length old) sealed_bytes e in
          (read-accepted (seal_verdict b state old) _ refl (rw (accepted, valid, room)), rw (accepted, valid, room, written))

-- ── The checks of a record ──

-- what their acceptance tells
pub record Passed (b sealed : List ℕ) : Type 0 where
  pub version : other_version sealed ≡ false
  pub whole : damaged sealed ≡ false
  pub personality : other_personality b sealed ≡ false
  pub valid : is_state_of b (state_in sealed) ≡ true

module _ (b sealed : List ℕ) where
  pub record-passed : record_verdict b sealed ≡ Accepted → Passed b sealed
  unfolding record_verdict
  record-passed e =
      let second = or_later (refuse_if (other_version sealed) 27 0) _ e in
      let third = or_later (refuse_if (damaged sealed) 28 0) _ second in
      record {
        version = refuse-passed (other_version sealed) 27 0 (or-first _ _ e);
        whole = refuse-passed (damaged sealed) 28 0 (or-first _ _ second);
        personality = refuse-passed (other_personality b sealed) 29 0 (or-first _ _ third);
        valid = not-false (is_state_of b (state_in sealed)) (refuse-passed _ 13 0 (or_later (refuse_if (other_personality b sealed) 29 0) _ third));
      }

  -- its refusals
  pub record-refusals :
      (Allowed : ℕ → ℕ → Type 0) → Allowed 27 0 → Allowed 28 0 → Allowed 29 0 → Allowed 13 0 → Refusals Allowed (record_verdict b sealed)
  unfolding record_verdict
  record-refusals Allowed version whole personality valid =
      or-refusals Allowed _ _ (if-refusals Allowed _ 27 0 version)
      (λ e. or-refusals Allowed _ _ (if-refusals Allowed _ 28 0 whole)
      (λ e. or-refusals Allowed _ _ (if-refusals Allowed _ 29 0 personality) (λ e. if-refusals Allowed _ 13 0 valid)))

  pub near_record : Near (record_verdict b sealed)
  unfolding record_verdict
  near_record = near_or _ _ (near_if _ 27) (near_or _ _ (near_if _ 28) (near_or _ _ (near_if _ 29) (near_if _ 13)))

  -- the verdict by what each check gave: the first refusal, and the last check if the others pass
  module _ {version : Verdict} (first : version ≡ refuse_if (other_version sealed) 27 0) where
    pub by-version : {r : Refusal} → version ≡ Err r → record_verdict b sealed ≡ Err r
    unfolding record_verdict ◌or_else◌
    by-version e = rw (← first, e)

    module _ (known : version ≡ Accepted) {damage : Verdict} (second : damage ≡ refuse_if (damaged sealed) 28 0) where
      pub by-damage : {r : Refusal} → damage ≡ Err r → record_verdict b sealed ≡ Err r
      unfolding record_verdict ◌or_else◌
      by-damage e = rw (← first, known, ← second, e)

      module _ (whole : damage ≡ Accepted) {own : Verdict} (third : own ≡ refuse_if (other_personality b sealed) 29 0) where
        pub by-personality : {r : Refusal} → own ≡ Err r → record_verdict b sealed ≡ Err r
        unfolding record_verdict ◌or_else◌
        by-personality e = rw (← first, known, ← second, whole, ← third, e)

        pub by-state : own ≡ Accepted → record_verdict b sealed ≡ refuse_if (not (is_state_of b (state_in sealed))) 13 0
        unfolding record_verdict ◌or_else◌
        by-state e = rw (← first, known, ← second, whole, ← third, e)

-- ── Resuming ──

abbrev pub Resumes : List ℕ → List ℕ → List ℕ → ℕ → List ℕ → Type 0
Resumes b sealed old r new = (r ≡ resume_answer b sealed old) × (new ≡ resume_after b sealed old)

module _ (b sealed old : List ℕ) where
  stays : (r : ℕ) {number place : ℕ} → resume_verdict b sealed old ≡ Refused number place → r ≡ packed number place → Resumes b sealed old r old
  unfolding resume_answer resume_after handed_back
  stays r e p = (read-refused (resume_verdict b sealed old) _ r refl e p, rw e)

  module _ (accepted : verdict_of b ≡ Accepted) where
    module _ (room : length old ≡ timed_bytes) where
      pub record-decides : resume_verdict b sealed old ≡ record_verdict b sealed
      unfolding resume_verdict ◌or_else◌ refuse_if
      record-decides = rw (accepted, eq-eqb (length old) timed_bytes room)

      pub record-refused :
          (r : ℕ) {number place : ℕ} →
          record_verdict b sealed ≡ Refused number place →
          r ≡ packed number place →
          Resumes b sealed old r old
      record-refused r e p = stays r (record-decides ∙ e) p

      pub resumes : (new : List ℕ) → record_verdict b sealed ≡ Accepted → new ≡ state_in sealed → Resumes b sealed old 0 new
      unfolding resume_answer resume_after handed_back
      resumes new e written =
          (read-accepted (resume_verdict b sealed old) _ refl (record-decides ∙ e), rw (record-decides, e, written))
