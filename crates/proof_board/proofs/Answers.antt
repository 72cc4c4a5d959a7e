-- An answer reads back as the outcome or the verdict that it was packed from: the number of a refusal is not 0 and fits its byte.
use Rattle.std.specs.Prelude.{Ok, Err}
use Prim.Native.Nat.{ℕ, ◌/◌, ◌%◌, ◌≤◌, ◌<◌}
use mathlib.Core.Bool.{true}
use mathlib.Core.List.{List}
use mathlib.Core.Logic.{inl, inr, ⊎_elim}
use mathlib.Core.Path.{◌≡◌, refl}
use native.Mathlib.Omega.{arith}
use borrow.Author.Tests.{eqb-true, ne_eqb}
use lib.Dec.{eqb}
use Rattle.rules.specs.Verdicts.{Stepped, StepRefused}
use Rattle.rules.specs.Verdicts.{Verdict}
use Rattle.rules.specs.Verdicts.{Accepted, Refused}
use Rattle.rules.specs.Personality.{verdict_of}
use Rattle.rules.specs.Site.{site_of}
use Rattle.rules.specs.Timed.{TimedState, timed_valid}
use Rattle.rules.specs.Call.{bound_for, checks_by}
use Rattle.rules.specs.TimedCall.{timed_verdict, retime_verdict}
use Rattle.rules.specs.TimedLaws.{retime_number}
use Rattle.laws.proofs.Booleans.{or_cases}
use Rattle.board_answers.specs.Answers.{packed, packed_verdict, packed_outcome}
use Rattle.proof_acceptance.proofs.Places.{number_fits}
use Rattle.proof_acceptance.proofs.Refusals.{Refusals, personality-refusals, call-refusals, retime-refusals}
use Rattle.proof_board.specs.BoardRuns.{outcome_in, verdict_in}

-- ── Packed answers ──

-- the two parts of a packed answer
module _ (number value : ℕ) (small : number < 256) where
  low_part : packed number value % 256 ≡ number
  unfolding packed
  low_part = omega arith

  high_part : packed number value / 256 ≡ value
  unfolding packed
  high_part = omega arith

abbrev pub Fits : ℕ → ℕ → Type 0
Fits number place = (1 ≤ number) × (number < 256)

-- a refusal reads back
module _ (number place : ℕ) (fits : Fits number place) where
  outcome-refused : outcome_in (packed number place) ≡ StepRefused number place
  unfolding outcome_in
  outcome-refused = rw (low_part number place fits.1, high_part number place fits.1, ne_eqb number 0 (λ e. omega (arith, fits.0)))

  verdict-refused : verdict_in (packed number place) ≡ Refused number place
  unfolding verdict_in
  verdict-refused = rw (low_part number place fits.1, high_part number place fits.1, ne_eqb number 0 (λ e. omega (arith, fits.0)))

-- a wait bound reads back
outcome-stepped : (wait : ℕ) → outcome_in (packed 0 wait) ≡ Stepped wait
unfolding outcome_in
outcome-stepped wait = rw (low_part 0 wait (omega arith), high_part 0 wait (omega arith))

outcome-for : (v : Verdict) (wait : ℕ) → Refusals Fits v → outcome_in (packed_outcome (bound_for v wait)) ≡ bound_for v wait
unfolding bound_for packed_outcome
outcome-for (Ok _) wait fits = outcome-stepped wait
outcome-for (Err r) wait fits = outcome-refused r.number r.place (fits r.number r.place refl)

verdict-for : (v : Verdict) → Refusals Fits v → verdict_in (packed_verdict v) ≡ v
unfolding packed_verdict packed verdict_in
verdict-for (Ok _) fits = refl
verdict-for (Err r) fits = verdict-refused r.number r.place (fits r.number r.place refl)

-- ── The answers of the calls ──

pub retime-number-fits : (number : ℕ) → retime_number number ≡ true → Fits number 0
retime-number-fits number known =
    ⊎_elim (λ e. omega (arith, eqb-true number 13 e)) (λ e. omega (arith, eqb-true number 26 e)) (or_cases (eqb number 13) (eqb number 26) known)

module _ (b : List ℕ) where
  pub read_back : verdict_in (packed_verdict (verdict_of b)) ≡ verdict_of b
  read_back = verdict-for (verdict_of b) (personality-refusals b Fits (λ number place known l. number_fits b number place (inl (known, l))))

  pub outcome-back :
      (s : TimedState) (inputs room wait : ℕ) →
      outcome_in (packed_outcome (bound_for (timed_verdict b s inputs room) wait)) ≡ bound_for (timed_verdict b s inputs room) wait
  unfolding checks_by
  outcome-back s inputs room wait =
      outcome-for (timed_verdict b s inputs room) wait
      (call-refusals b Fits (λ number place known l. number_fits b number place (inl (known, l))) (timed_valid (site_of b) s) inputs room
      (λ number known. number_fits b number 0 (inr (known, refl))))

  pub retime-back : (s : TimedState) (new : List ℕ) → verdict_in (packed_verdict (retime_verdict b s new)) ≡ retime_verdict b s new
  retime-back s new =
      verdict-for (retime_verdict b s new)
      (retime-refusals b new Fits
      (λ number place known l. number_fits b number place (inl (known, l)))
      (λ number place known l. number_fits new number place (inl (known, l)))
      retime-number-fits
      s)
