-- A demand of either kind. Each step meets it, or leaves it standing with one step less to wait. What stands is said of a state alone, and
-- what is left by the times of the site.
use Prim.Native.Nat.{ℕ, suc}
use mathlib.Core.Bool.{Bool, true}
use mathlib.Core.Logic.{◌⊎◌, inl, inr}
use mathlib.Core.Path.{◌≡◌}
use Rattle.rules.specs.declared.state.State.{State}
use Rattle.rules.specs.Runs.{Step}

-- the demand stands after the step, and one step less is left of its wait
pub record Waits (Stands : State → Type 0) (Left : ℕ → State → Type 0) (s : State) (step : Step) : Type 0 where
  pub stands : Stands step.after
  pub falls : (n : ℕ) → Left (suc n) s → Left n step.after

-- what is left standing by a step that does not meet the demand
pub standing_on :
    {met : Bool} {Stands : State → Type 0} {Left : ℕ → State → Type 0} {s : State} {step : Step} →
    (met ≡ true) ⊎ Waits Stands Left s step →
    (met ≡ true) ⊎ Stands step.after
standing_on (inl e) = inl e
standing_on (inr waits) = inr waits.stands

-- and how many steps are left
pub waits-on :
    {met : Bool} {Stands : State → Type 0} {Left : ℕ → State → Type 0} {s : State} {step : Step} (n : ℕ) →
    Left (suc n) s →
    (met ≡ true) ⊎ Waits Stands Left s step →
    (met ≡ true) ⊎ (Stands step.after × Left n step.after)
waits-on n left (inl e) = inl e
waits-on n left (inr waits) = inr (waits.stands, waits.falls n left)
