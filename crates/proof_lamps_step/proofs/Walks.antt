-- A walk in one step: it begins at age 1, and it goes on while its age is below W.
use Prim.Native.Nat.{ℕ, ◌+◌, ◌≤◌, ◌<◌}
use native.Mathlib.Omega.{arith}
use mathlib.Core.Bool.{Bool, true, false}
use mathlib.Core.Logic.{⊎_elim}
use mathlib.Core.Path.{◌≡◌, refl, ap}
use Rattle.rules.specs.declared.site.Site.{Site}
use Rattle.rules.specs.declared.site.WalkTimes.{WalkTimes}
use Rattle.rules.specs.declared.state.Movement.{Movement}
use Rattle.rules.specs.declared.state.Stage.{Stage}
use Rattle.rules.specs.declared.state.Stage.TheVariants.{Idle, Walk, ClearanceOne, ClearanceTwo}
use Rattle.rules.specs.declared.state.State.{State}
use Rattle.rules.specs.Site.{walk_times}
use Rattle.rules.specs.IntervalTable.{is_walk}
use Rattle.rules.specs.State.{movement}
use Rattle.rules.specs.Movements.{older, advanced}
use Rattle.rules.specs.Runs.{Step}
use Rattle.rules.specs.DemandThree.{in_walk}
use Rattle.laws.proofs.Booleans.{decided, never_both}
use Rattle.proof_runs.proofs.Chains.{ValidLink}
use Rattle.proof_runs.proofs.Lasting.{lasting-cases}
use Rattle.proof_runs.proofs.Steps.{may_end, moved, begun, movement-of}

-- the movement is in walk, after so many steps of it at most
pub record Walking (steps : ℕ) (m : Movement) : Type 0 where
  pub walks : m.stage ≡ Walk
  pub age : m.age ≤ steps

pub in-walk : (k steps : ℕ) (s : State) → Walking steps (movement s k) → in_walk s k ≡ true
unfolding in_walk
in-walk k steps s here = ap is_walk here.walks

-- ── Part 2 of a step ──

-- a movement that is not in walk is not after it
stays_out : (may : Bool) (stage : Stage) (times : WalkTimes) (age : ℕ) → is_walk stage ≡ false → is_walk (advanced may stage times age).stage ≡ false
unfolding advanced
stays_out may Idle times age h = refl
stays_out may Walk times age h = absurd (never_both refl h)
stays_out may ClearanceOne times age h =
    lasting-cases (λ (m : Movement). is_walk m.stage ≡ false) true times.first ClearanceOne ClearanceTwo age (λ over. refl) (λ still. refl)
stays_out may ClearanceTwo times age h =
    lasting-cases (λ (m : Movement). is_walk m.stage ≡ false) true times.second ClearanceTwo Idle age (λ over. refl) (λ still. refl)

-- a walk of fewer than W steps is one after it
stays-in :
    (may : Bool) (times : WalkTimes) (steps : ℕ) (m : Movement) →
    Walking steps m →
    steps < times.walk →
    Walking (steps + 1) (advanced may m.stage times m.age)
unfolding advanced older
stays-in may times steps m here l =
    rw here.walks
    (lasting-cases (Walking (steps + 1)) may _ Walk ClearanceOne m.age (λ over. absurd (omega (arith, here.age)))
    (λ still. record { walks = refl; age = omega (arith, here.age) }))

-- ── The step ──

module _ (site : Site) (s : State) (step : Step) (link : ValidLink site s step) (k : ℕ) (room : k < 8) where
  -- what is so of a walk that begins, and of the movement after part 2, is so of the movement
  by-begun :
      (P : Movement → Type 0) →
      P (record { stage = Walk; age = 1 }) →
      (begun site s step.inputs k ≡ false → P (moved site s step.inputs k)) →
      P (movement step.after k)
  by-begun P starts other =
      rw link.taken.after
      (rw (movement-of site s step.inputs k room)
      (⊎_elim (λ (h : begun site s step.inputs k ≡ true). rw h starts) (λ (h : begun site s step.inputs k ≡ false). rw h (other h))
      (decided (begun site s step.inputs k))))

  pub begins : in_walk step.after k ≡ true → in_walk s k ≡ false → Walking 1 (movement step.after k)
  unfolding in_walk moved
  begins h was =
      by-begun (λ (m : Movement). is_walk m.stage ≡ true → Walking 1 m) (λ seen. record { walks = refl; age = omega arith })
      (λ none seen.
      absurd (never_both seen (stays_out (may_end site s step.inputs) (movement s k).stage (walk_times site.times k) (movement s k).age was)))
      h

  pub goes_on : (steps : ℕ) → Walking steps (movement s k) → steps < (walk_times site.times k).walk → Walking (steps + 1) (movement step.after k)
  unfolding moved
  goes_on steps here l =
      by-begun (Walking (steps + 1)) (record { walks = refl; age = omega arith })
      (λ none. stays-in (may_end site s step.inputs) (walk_times site.times k) steps (movement s k) here l)
