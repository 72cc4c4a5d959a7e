-- A run in parts: the calls of a later part are taken from the state that the earlier ones lead to. So a run may be computed part by part.
use Prim.Native.Nat.{ℕ, zero, suc, ◌+◌}
use mathlib.Core.Bool.{Bool, true, false}
use mathlib.Core.List.{List, [], ◌∷◌, ◌++◌}
use mathlib.Core.Path.{◌≡◌, refl, ap, ◌∙◌}
use native.Mathlib.Omega.{arith}
use lib.ListN.{length, drop}
use Rattle.rules.specs.Runs.{Controller, Call, Step, taken_from, left_by, accepted_steps}
use Rattle.rules.specs.DemandThree.{some_step}
use Rattle.laws.proofs.Booleans.{or_right, or-false-left, or-false-right, never_both}
use Rattle.proof_runs.proofs.Parts.{taken-on, accepted-on}
use Rattle.proof_wait_cases.specs.WaitCases.{passing, first_passes}

-- ── Calls ──

module _ {S : Type 0} (controller : Controller S) (b : List ℕ) where
  -- the accepted steps of the calls from a state
  unfoldable pub steps_of : S → List Call → List Step
  steps_of s calls = accepted_steps (taken_from controller b s calls)

  pub steps-append : (s : S) (calls more : List Call) → steps_of s (calls ++ more) ≡ steps_of s calls ++ steps_of (left_by controller b s calls) more
  unfolding steps_of
  steps-append s calls more = ap accepted_steps (taken-on controller b s calls more) ∙ accepted-on (taken_from controller b s calls) _

-- ── Lists ──

pub drop-part : {A : Type 0} (n : ℕ) (l more : List A) → length l ≡ n → drop n (l ++ more) ≡ more
drop-part zero [] more e = refl
drop-part zero (x ∷ l) more e = absurd (omega arith)
drop-part (suc n) [] more e = absurd (omega arith)
drop-part (suc n) (x ∷ l) more e = drop-part n l more (omega arith)

pub first_part : (test : Step → Bool) (l more : List Step) → first_passes test l ≡ true → first_passes test (l ++ more) ≡ true
unfolding first_passes
first_part test [] more h = absurd (never_both h refl)
first_part test (step ∷ l) more h = h

pub passing-part :
    (event : Step → Bool) (l more : List Step) → some_step event l ≡ false → passing event (l ++ more) ≡ length l + passing event more
unfolding passing some_step
passing-part event [] more none = omega arith
passing-part event (step ∷ l) more none =
    rw (or-false-left (event step) (some_step event l) none)
    (omega (arith, passing-part event l more (or-false-right (event step) (some_step event l) none)))

pub some-part : (event : Step → Bool) (l more : List Step) → some_step event more ≡ true → some_step event (l ++ more) ≡ true
unfolding some_step
some-part event [] more h = h
some-part event (step ∷ l) more h = or_right (event step) (some-part event l more h)
