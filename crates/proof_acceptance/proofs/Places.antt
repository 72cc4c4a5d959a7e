-- Every refusal has a number of one byte that is not 0, and a place that is no further on than the longest personality goes, so that both
-- fit one answer beside each other: the walk over the checks, for a step call and a lookup too.
use Prim.Native.Nat.{ℕ, ◌≤◌, ◌<◌}
use mathlib.Core.Bool.{Bool, true, ◌&&◌, ◌||◌}
use mathlib.Core.List.{List}
use mathlib.Core.Logic.{⊎_elim}
use mathlib.Core.Path.{◌≡◌}
use lib.Dec.{leb, eqb}
use native.Mathlib.Omega.{arith}
use borrow.Author.Tests.{eqb-true}
use Rattle.rules.specs.Verdicts.{Verdict}
use Rattle.rules.specs.Personality.{verdict_of}
use Rattle.rules.specs.Site.{site_of}
use Rattle.rules.specs.Timed.{TimedState, timed_valid}
use Rattle.rules.specs.Call.{checks_by}
use Rattle.rules.specs.TimedCall.{timed_verdict, retime_verdict}
use Rattle.rules.specs.Lookup.{lookup_verdict}
use Rattle.rules.specs.Laws.{reading_number, step_number, greatest_length, PlaceIn, Written}
use Rattle.rules.specs.TimedLaws.{retime_number}
use Rattle.laws.proofs.Booleans.{or_cases}
use Rattle.laws.proofs.Indices.{in-range}
use Rattle.proof_acceptance.proofs.Refusals.{Refusals, if-refusals, or-refusals, personality-refusals, call-refusals, retime-refusals}

-- ── Numbers ──

-- one number more
or-fits :
    (test : Bool) (n number : ℕ) →
    (test ≡ true → (1 ≤ number) × (number < 256)) →
    (1 ≤ n) × (n < 256) →
    (test || eqb number n) ≡ true →
    (1 ≤ number) × (number < 256)
or-fits test n number others own known = ⊎_elim others (λ e. omega (arith, own, eqb-true number n e)) (or_cases test (eqb number n) known)

reading-fits : (number : ℕ) → reading_number number ≡ true → (1 ≤ number) × (number < 256)
reading-fits number =
    or-fits _ 21 number
    (or-fits _ 18 number
    (or-fits _ 17 number (λ (sections : (leb 1 number && leb number 12) ≡ true). omega (arith, in-range 1 12 number sections)) (omega arith))
    (omega arith))
    (omega arith)

step_fits : (number : ℕ) → step_number number ≡ true → (1 ≤ number) × (number < 256)
step_fits number known = omega (arith, in-range 13 15 number known)

retime-fits : (number : ℕ) → retime_number number ≡ true → 1 ≤ number
retime-fits number known =
    ⊎_elim (λ e. omega (arith, eqb-true number 13 e)) (λ e. omega (arith, eqb-true number 26 e)) (or_cases (eqb number 13) (eqb number 26) known)

pub number_fits : (b : List ℕ) (number place : ℕ) → Written b number place → (1 ≤ number) × (number < 256)
number_fits b number place =
    ⊎_elim
    (λ (w : (reading_number number ≡ true) × PlaceIn b place). reading-fits number w.0)
    (λ (w : (step_number number ≡ true) × (place ≡ 0)). step_fits number w.0)

-- ── Places ──

abbrev pub last_place : ℕ
last_place = greatest_length

abbrev Near : ℕ → ℕ → Type 0
Near number place = (1 ≤ number) × (place ≤ last_place)

abbrev pub Named : Verdict → Type 0
Named = Refusals Near

module _ (b : List ℕ) where
  near : (number place : ℕ) → reading_number number ≡ true → PlaceIn b place → Near number place
  near number place known l = ((reading-fits number known).0, l.1)

  pub personality-named : Named (verdict_of b)
  personality-named = personality-refusals b Near near

  pub call-named : (s : TimedState) (inputs room : ℕ) → Named (timed_verdict b s inputs room)
  unfolding checks_by
  call-named s inputs room =
      call-refusals b Near near (timed_valid (site_of b) s) inputs room (λ number known. ((step_fits number known).0, omega arith))

  pub retime-named : (s : TimedState) (new : List ℕ) → Named (retime_verdict b s new)
  retime-named s new =
      retime-refusals b new Near near (λ number place known l. ((reading-fits number known).0, l.1))
      (λ number known. (retime-fits number known, omega arith))
      s

  pub lookup-named : (kind : ℕ) → Named (lookup_verdict b kind)
  unfolding lookup_verdict
  lookup-named kind = or-refusals Near _ _ personality-named (λ e. if-refusals Near _ 2 0 (omega arith))
