-- The answers of sealing and resuming, by one walk over the checks of each. The number of a refusal is not 0, so an answer of 0 is acceptance.
use Rattle.std.specs.Prelude.{Ok, Err}
use Prim.Native.Nat.{ℕ, ◌≤◌}
use mathlib.Core.List.{List}
use mathlib.Core.Logic.{inl, inr}
use mathlib.Core.Path.{◌≡◌, refl}
use native.Mathlib.Omega.{arith}
use Rattle.rules.specs.Verdicts.{Verdict}
use Rattle.rules.specs.Verdicts.{Accepted, Refused}
use Rattle.rules.specs.Personality.{verdict_of}
use Rattle.rules.specs.Call.{handed_back}
use Rattle.rules.proofs.Verdicts.{or_later}
use Rattle.proof_acceptance.proofs.Places.{personality-named}
use Rattle.proof_acceptance.proofs.Refusals.{Refusals, if-refusals, or-refusals, personality-refusals}
use Rattle.board_answers.specs.Answers.{packed, packed_verdict}
use Rattle.board_seal.specs.SealCall.{seal_verdict, seal_answer, seal_after, record_verdict, resume_verdict, resume_answer, resume_after}
use Rattle.board_seal.proofs.SealCalls.{record-refusals}
use Rattle.proof_seal.specs.SealAnswers.{SealRefusalIsWritten, ResumeRefusalIsWritten, RefusalLeaves}

-- ── The checks ──

module _ (Allowed : ℕ → ℕ → Type 0) (b : List ℕ) (reading : Refusals Allowed (verdict_of b)) (no-state : Allowed 13 0) where
  seal-refusals : Allowed 14 0 → (state room : List ℕ) → Refusals Allowed (seal_verdict b state room)
  unfolding seal_verdict
  seal-refusals no_room state room =
      or-refusals Allowed _ _ reading (λ e. or-refusals Allowed _ _ (if-refusals Allowed _ 13 0 no-state) (λ e. if-refusals Allowed _ 14 0 no_room))

  resume-refusals : Allowed 27 0 → Allowed 28 0 → Allowed 29 0 → (sealed old : List ℕ) → Refusals Allowed (resume_verdict b sealed old)
  unfolding resume_verdict
  resume-refusals version whole personality sealed old =
      or-refusals Allowed _ _ reading
      (λ e. or-refusals Allowed _ _ (if-refusals Allowed _ 13 0 no-state)
      (λ e. record-refusals b sealed Allowed version whole personality no-state))

-- ── Written numbers ──

pub seal-refusal-is-written : SealRefusalIsWritten
unfolding SealRefusalIsWritten
seal-refusal-is-written b state room =
    seal-refusals _ b (personality-refusals b _ (λ number place known near. inl (known, near))) (inr (refl, refl)) (inr (refl, refl)) state room

pub resume-refusal-is-written : ResumeRefusalIsWritten
unfolding ResumeRefusalIsWritten
resume-refusal-is-written b sealed old =
    resume-refusals _ b (personality-refusals b _ (λ number place known near. inl (known, near)))
    (inr (refl, refl)) (inr (refl, refl)) (inr (refl, refl)) (inr (refl, refl)) sealed old

-- ── An answer of 0 ──

answer-accepted : (v : Verdict) → Refusals (λ number place. 1 ≤ number) v → packed_verdict v ≡ 0 → v ≡ Accepted
unfolding packed_verdict packed
answer-accepted (Ok _) named e = refl
answer-accepted (Err r) named e = absurd (omega (arith, named r.number r.place refl, e))

-- all checks have passed, those of the record among them
pub resume-accepted :
    (b sealed old : List ℕ) → resume_answer b sealed old ≡ 0 → (resume_verdict b sealed old ≡ Accepted) × (record_verdict b sealed ≡ Accepted)
unfolding resume_answer resume_verdict
resume-accepted b sealed old e =
    let passed =
    answer-accepted (resume_verdict b sealed old)
    (resume-refusals (λ number place. 1 ≤ number) b (λ number place f. (personality-named b number place f).0)
    (omega arith) (omega arith) (omega arith) (omega arith) sealed old)
    e in
    (passed, or_later _ (record_verdict b sealed) (or_later (verdict_of b) _ passed))

-- ── Nothing is written ──

leaves : (v : Verdict) (new old : List ℕ) → (packed_verdict v ≡ 0 → ⊥) → handed_back v new old ≡ old
unfolding packed_verdict packed handed_back
leaves (Ok _) new old refused = absurd (refused refl)
leaves (Err r) new old refused = refl

pub refusal-leaves : RefusalLeaves
unfolding RefusalLeaves seal_answer seal_after resume_answer resume_after
refusal-leaves = (λ b state room e. leaves (seal_verdict b state room) _ room e, λ b sealed old e. leaves (resume_verdict b sealed old) _ old e)
