-- Answers by cases: acceptance or a refusal, each packed. A refusal has a place that fits beside its number.
use Rattle.std.specs.Prelude.{Ok, Err, IfErr}
use Prim.Native.Nat.{ℕ, ◌≤◌}
use mathlib.Core.Bool.{Bool}
use mathlib.Core.List.{List}
use mathlib.Core.Logic.{⊎_elim}
use mathlib.Core.Path.{◌≡◌, refl, sym, ◌∙◌}
use native.Mathlib.Omega.{arith}
use Rattle.rules.specs.Verdicts.{Outcome}
use Rattle.rules.specs.Verdicts.{Stepped, StepRefused}
use Rattle.rules.specs.Verdicts.{Verdict}
use Rattle.rules.specs.Verdicts.{Accepted, Refused}
use Rattle.rules.specs.Verdicts.{◌or_else◌, refuse_if}
use Rattle.rules.specs.Personality.{verdict_of}
use Rattle.rules.specs.Site.{site_of}
use Rattle.rules.specs.WaitBound.{wait_bound}
use Rattle.rules.specs.Call.{bound_for, bound_of}
use Rattle.board_answers.specs.Answers.{packed, packed_verdict, packed_outcome}
use Rattle.rules.proofs.Verdicts.{refuse-failed, or-refused}
use Rattle.proof_acceptance.proofs.Places.{last_place, personality-named}

-- ── One verdict ──

pub refused-near : (b : List ℕ) (v : Verdict) {number place : ℕ} → v ≡ verdict_of b → v ≡ Refused number place → place ≤ last_place
refused-near b v {number} {place} e f = (personality-named b number place (sym e ∙ f)).1

pub read-accepted : (v w : Verdict) → w ≡ v → w ≡ Accepted → 0 ≡ packed_verdict v
unfolding packed_verdict packed
read-accepted v w e f = rw (sym e ∙ f)

pub read-refused : (v w : Verdict) (r : ℕ) {number place : ℕ} → w ≡ v → w ≡ Refused number place → r ≡ packed number place → r ≡ packed_verdict v
unfolding packed_verdict
read-refused v w r e f p = rw (sym e ∙ f, p)

-- ── One outcome ──

pub outcome-stepped : (o q : Outcome) (r : ℕ) {wait : ℕ} → o ≡ q → o ≡ Stepped wait → r ≡ packed 0 wait → r ≡ packed_outcome q
unfolding packed_outcome
outcome-stepped o q r e f p = rw (sym e ∙ f, p)

pub outcome-declined :
    (o q : Outcome) (r : ℕ) {number place : ℕ} →
    o ≡ q →
    o ≡ StepRefused number place →
    r ≡ packed number place →
    r ≡ packed_outcome q
unfolding packed_outcome
outcome-declined o q r e f p = rw (sym e ∙ f, p)

-- ── A call that is tried ──

-- no refusal has a place above the length of the longest personality
pub record Near (v : Verdict) : Type 0 where
  pub told : (number place : ℕ) → v ≡ Refused number place → place ≤ last_place

pub near_read : (b : List ℕ) → Near (verdict_of b)
near_read b = record { told = λ number place e. (personality-named b number place e).1 }

pub near_if : (t : Bool) (n : ℕ) → Near (refuse_if t n 0)
near_if t n = record { told = λ number place e. let same = refuse-failed t n 0 e in omega (arith, same.2) }

pub near_or : (v w : Verdict) → Near v → Near w → Near (v or_else w)
near_or v w first later =
    record {
      told =
          λ number place e.
          ⊎_elim
          (λ (own : v ≡ Refused number place). first.told number place own)
          (λ (own : (v ≡ Accepted) × (w ≡ Refused number place)). later.told number place own.1)
          (or-refused v w e);
    }

pub near_outcome : {o : Outcome} (v : Verdict) (wait : ℕ) → o ≡ bound_for v wait → Near v → IfErr o (λ r. r.place ≤ last_place)
unfolding bound_for
near_outcome (Ok _) wait e near = rw e tt
near_outcome (Err r) wait e near = rw e (near.told r.number r.place refl)

-- a call without a result
pub packed_plain : (v : Verdict) → packed_outcome (bound_for v 0) ≡ packed_verdict v
unfolding packed_outcome packed_verdict bound_for
packed_plain (Ok _) = refl
packed_plain (Err r) = refl
