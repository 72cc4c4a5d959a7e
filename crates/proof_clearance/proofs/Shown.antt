-- What a group shows, by its kind: a vehicle group's colour is read off the position, a pedestrian group's off its movement's stage.
use Prim.Native.Nat.{ℕ, ◌<◌}
use native.Mathlib.Omega.{arith}
use mathlib.Core.Bool.{Bool, true, false}
use mathlib.Core.Path.{◌≡◌, refl, ◌∙◌}
use lib.Dec.{eqb}
use Rattle.rules.specs.declared.site.Site.{Site}
use Rattle.rules.specs.declared.state.Position.{Position}
use Rattle.rules.specs.declared.state.Stage.{Stage}
use Rattle.rules.specs.declared.state.Stage.TheVariants.{Idle, Walk, ClearanceOne, ClearanceTwo}
use Rattle.rules.specs.declared.state.State.{State}
use Rattle.std.specs.Prelude.{if◌then◌else◌, Option}
use Rattle.rules.specs.Site.{group_of, in_phase, is_pedestrian, movement_of}
use Rattle.rules.specs.IntervalTable.{held_in}
use Rattle.rules.specs.State.{movement}
use Rattle.rules.specs.Colours.{red, green, closing, vehicle_colour, movement_colour, vehicle_shown, colour_of, shown_in}
use Rattle.rules.specs.Runs.{Step}
use Rattle.rules.specs.DemandThree.{shows}
use Rattle.proof_runs.proofs.Chains.{Link}

-- group g has the phase held in its set
abbrev pub keeps : Site → ℕ → Option ℕ → Bool
keeps site g held = held_in held (group_of site.groups g).phases

abbrev pub stops_early : Site → ℕ → Bool
stops_early site g = eqb (group_of site.groups g).mark 3

-- the colour of a vehicle group at a position, by whether groups that stop early are closing
abbrev pub vehicle_by : Site → ℕ → Bool → Position → ℕ
vehicle_by site g closes position =
    if in_phase site.groups g position.phase
    then vehicle_colour position.interval closes position.previous position.target (group_of site.groups g)
    else red

abbrev pub vehicle_at : Site → ℕ → Position → ℕ
vehicle_at site g position = vehicle_by site g (closing site.times position) position

-- ── In a state ──

module _ (site : Site) (s : State) (g : ℕ) where
  pub vehicle-colour : is_pedestrian site.groups g ≡ false → shown_in site s g ≡ vehicle_at site g s.position
  unfolding shown_in colour_of vehicle_shown in_phase
  vehicle-colour kind = rw kind

  pub pedestrian-colour : is_pedestrian site.groups g ≡ true → shown_in site s g ≡ movement_colour (movement s (movement_of site.groups g)).stage
  unfolding shown_in colour_of movement
  pedestrian-colour kind = rw kind

-- ── After an accepted step ──

module _ (site : Site) (s : State) (step : Step) (link : Link site s step) (g : ℕ) (within : g < site.size.groups) where
  pub vehicle-shows : is_pedestrian site.groups g ≡ false → shows step g ≡ vehicle_at site g step.after.position
  vehicle-shows kind = link.shown g within ∙ vehicle-colour site step.after g kind

  pub pedestrian-shows : is_pedestrian site.groups g ≡ true → shows step g ≡ movement_colour (movement step.after (movement_of site.groups g)).stage
  pedestrian-shows kind = link.shown g within ∙ pedestrian-colour site step.after g kind

-- ── Where green is shown ──

-- a vehicle group that shows green is of the phase
pub green-of-phase : (of_phase : Bool) (colour : ℕ) → (if of_phase then colour else red) ≡ green → of_phase ≡ true
green-of-phase true colour e = refl
green-of-phase false colour e = absurd (omega arith)

-- a movement that shows green is in walk
pub green-walks : (stage : Stage) → movement_colour stage ≡ green → stage ≡ Walk
unfolding movement_colour
green-walks Idle e = absurd (omega arith)
green-walks Walk e = refl
green-walks ClearanceOne e = absurd (omega arith)
green-walks ClearanceTwo e = absurd (omega arith)
