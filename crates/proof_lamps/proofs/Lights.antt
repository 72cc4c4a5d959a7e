-- Lists of steps and a light that shows whenever a test of the step passes: it shows in the steps that pass, and one that has not been seen with an event
-- shows that the event has not come.
use Prim.Native.Nat.{ℕ, zero, suc}
use mathlib.Core.Bool.{Bool, true, false, ◌&&◌}
use mathlib.Core.List.{List, [], ◌∷◌, ◌++◌}
use mathlib.Core.Path.{◌≡◌, refl}
use lib.ListN.{take, drop}
use Rattle.rules.specs.Runs.{Step}
use Rattle.rules.specs.DemandThree.{some_step}
use Rattle.rules.specs.PhaseWaits.{every_step}
use Rattle.laws.proofs.Booleans.{and_left, and_right, and_both, or-false-left, or-false-right, or-false-both, not-true-false, never_both}
use Rattle.proof_runs.proofs.Each.{Each}

-- in each of the steps the light shows if the test passes
abbrev pub Lights : (Step → Bool) → (Step → Bool) → List Step → Type 0
Lights test light = Each (λ (step : Step) later. test step ≡ true → light step ≡ true)

pub lit-throughout :
    (test light : Step → Bool) (n : ℕ) (steps : List Step) →
    Lights test light steps →
    every_step test (take n steps) ≡ true →
    every_step light (take n steps) ≡ true
unfolding every_step
lit-throughout test light zero [] lights all = refl
lit-throughout test light zero (step ∷ later) lights all = refl
lit-throughout test light (suc n) [] lights all = refl
lit-throughout test light (suc n) (step ∷ later) lights all =
    and_both (lights.0 (and_left (test step) _ all)) (lit-throughout test light n later lights.1 (and_right (test step) _ all))

-- through n steps of one test and the next step of another
pub lit-through-both :
    (first second light : Step → Bool) (n : ℕ) (steps : List Step) →
    Lights first light steps →
    Lights second light steps →
    every_step first (take n steps) ≡ true →
    every_step second (take 1 (drop n steps)) ≡ true →
    every_step light (take (suc n) steps) ≡ true
unfolding every_step
lit-through-both first second light zero [] one two all next = refl
lit-through-both first second light zero (step ∷ later) one two all next = and_both (two.0 (and_left (second step) _ next)) refl
lit-through-both first second light (suc n) [] one two all next = refl
lit-through-both first second light (suc n) (step ∷ later) one two all next =
    and_both (one.0 (and_left (first step) _ all))
    (lit-through-both first second light n later one.1 two.1 (and_right (first step) _ all) next)

-- an event that has not been seen by light has not come
pub unseen :
    (event light : Step → Bool) (steps later : List Step) →
    Lights event light (steps ++ later) →
    some_step (λ step. event step && light step) steps ≡ false →
    some_step event steps ≡ false
unfolding some_step
unseen event light [] later lights none = refl
unseen event light (step ∷ steps) later lights none =
    or-false-both
    (not-true-false (event step)
    (λ h. never_both (and_both h (lights.0 h)) (or-false-left (event step && light step) (some_step (λ step. event step && light step) steps) none)))
    (unseen event light steps later lights.1 (or-false-right (event step && light step) (some_step (λ step. event step && light step) steps) none))
