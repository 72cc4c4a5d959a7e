-- A pedestrian movement from walk to idle, step by step. The number of flashing steps still to come is C1 + C2 in walk, and falls
-- by one with each step that does not show green; after the last of them the movement is idle.
use Prim.Native.Nat.{ℕ, suc, ◌+◌, ◌≤◌, ◌<◌}
use native.Mathlib.Omega.{arith}
use mathlib.Core.Bool.{Bool, true, false, ◌&&◌}
use mathlib.Core.Logic.{⊎_elim}
use mathlib.Core.Path.{◌≡◌, refl, ap, ◌∙◌}
use lib.Dec.{leb}
use borrow.Author.Tests.{leb-true, leb-false, lt-leb, le-leb}
use Rattle.rules.specs.declared.site.Site.{Site}
use Rattle.rules.specs.declared.site.WalkTimes.{WalkTimes}
use Rattle.rules.specs.declared.state.Movement.{Movement}
use Rattle.rules.specs.declared.state.Stage.TheVariants.{Idle, Walk, ClearanceOne, ClearanceTwo}
use Rattle.rules.specs.declared.state.State.{State}
use Rattle.rules.specs.Site.{walk_times}
use Rattle.rules.specs.IntervalTable.{is_idle}
use Rattle.rules.specs.State.{movement}
use Rattle.rules.specs.Movements.{older, lasting, advanced}
use Rattle.rules.specs.Colours.{green, flashing, movement_colour}
use Rattle.rules.specs.Runs.{Step}
use Rattle.laws.proofs.Booleans.{decided}
use Rattle.rules.proofs.Settings.{Reached}
use Rattle.proof_runs.proofs.Steps.{may_end, moved, begun, movement-of}
use Rattle.proof_runs.proofs.Chains.{Link}

-- ── Flashing steps still to come ──

-- Movement m has n flashing steps still to come.
pub data FlashesLeft (times : WalkTimes) (n : ℕ) (m : Movement) : Type 0 where
  in-walk : m.stage ≡ Walk → n ≡ times.first + times.second → FlashesLeft times n m
  in-first : m.stage ≡ ClearanceOne → m.age ≤ times.first → m.age + n ≡ times.first + times.second → FlashesLeft times n m
  in-second : m.stage ≡ ClearanceTwo → m.age + n ≡ times.second → FlashesLeft times n m

-- a movement with flashing steps to come is not idle
pub flashes-busy : (times : WalkTimes) (n : ℕ) (m : Movement) → FlashesLeft times n m → is_idle m.stage ≡ false
flashes-busy times n m (in-walk e c) = rw e
flashes-busy times n m (in-first e l c) = rw e
flashes-busy times n m (in-second e c) = rw e

-- the movement after part 2 of a step, by whether a walk may end in it
abbrev pub next : Bool → WalkTimes → Movement → Movement
next may_end times m = advanced may_end m.stage times m.age

module _ (times : WalkTimes) (reached : Reached times) where
  -- a step that does not show green is one of the flashing ones
  pub flashes-fall :
      (may_end : Bool) (n : ℕ) (m : Movement) →
      FlashesLeft times (suc n) m →
      (movement_colour (next may_end times m).stage ≡ green → ⊥) →
      FlashesLeft times n (next may_end times m) × (movement_colour (next may_end times m).stage ≡ flashing)
  unfolding advanced lasting movement_colour older
  flashes-fall may_end n m (in-walk e c) other =
      ⊎_elim
      (λ (h : (may_end && leb times.walk m.age) ≡ true). rw (e, h) (in-first refl (omega arith) (omega arith), refl))
      (λ (h : (may_end && leb times.walk m.age) ≡ false). absurd (other (rw (e, h))))
      (decided (may_end && leb times.walk m.age))
  flashes-fall may_end n m (in-first e l c) other =
      ⊎_elim
      (λ (h : leb times.first m.age ≡ true). rw (e, h) (in-second refl (omega (arith, leb-true)), refl))
      (λ (h : leb times.first m.age ≡ false).
      rw (e, h) (in-first refl (omega (arith, leb-false)) (omega (arith, leb-false)), refl))
      (decided (leb times.first m.age))
  flashes-fall may_end n m (in-second e c) other =
      rw (e, lt-leb times.second m.age (omega arith)) (in-second refl (omega arith), refl)

  -- after the last flashing step the movement is idle
  pub flashes-over : (m : Movement) → FlashesLeft times 0 m → (may_end : Bool) → (next may_end times m).stage ≡ Idle
  unfolding advanced lasting
  flashes-over m (in-walk e c) may_end = absurd (omega arith)
  flashes-over m (in-first e l c) may_end = absurd (omega arith)
  flashes-over m (in-second e c) may_end = rw (e, le-leb times.second m.age (omega arith))

-- an idle movement stays idle in part 2
pub idle-stays : (times : WalkTimes) (m : Movement) → m.stage ≡ Idle → (may_end : Bool) → (next may_end times m).stage ≡ Idle
unfolding advanced
idle-stays times m e may_end = rw e

-- ── Steps ──

module _ (site : Site) (s : State) (step : Step) (link : Link site s step) (k : ℕ) (room : k < 8) where
  -- where no walk begins, the movement is the one after part 2
  pub movement-after :
      (movement_colour (movement step.after k).stage ≡ green → ⊥) →
      movement step.after k ≡ next (may_end site s step.inputs) (walk_times site.times k) (movement s k)
  unfolding moved movement_colour
  movement-after other =
      let here = ap (λ (t : State). movement t k) link.after ∙ movement-of site s step.inputs k room in
      ⊎_elim
      (λ (h : begun site s step.inputs k ≡ true). absurd (other (rw (here, h))))
      (λ (h : begun site s step.inputs k ≡ false). rw (here, h))
      (decided (begun site s step.inputs k))
