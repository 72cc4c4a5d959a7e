-- The colours of a step are those of the state after it. In minimum green and running a vehicle group of the phase is green whatever its mark, and the
-- group of a movement in walk is green.
use Rattle.std.specs.Prelude.{Option}
use Prim.Native.Nat.{ℕ, ◌<◌}
use mathlib.Core.Bool.{Bool, true, false, ◌&&◌, ◌||◌, false≢true}
use mathlib.Core.Path.{◌≡◌, refl, ◌∙◌}
use lib.Dec.{eqb, ltb}
use borrow.Author.Tests.{ltb-true, eqb-true, eq-eqb, not-true}
use Rattle.rules.specs.declared.site.Group.{Group}
use Rattle.rules.specs.declared.site.Site.{Site}
use Rattle.rules.specs.declared.state.Interval.{Interval}
use Rattle.rules.specs.declared.state.Interval.TheVariants.{StartRed, LateStart, MinimumGreen, Running, EarlyCutOff, Yellow, AllRed}
use Rattle.rules.specs.declared.state.Stage.{Stage}
use Rattle.rules.specs.declared.state.Stage.TheVariants.{Idle, Walk, ClearanceOne, ClearanceTwo}
use Rattle.rules.specs.declared.state.State.{State}
use Rattle.rules.specs.Site.{group_of, in_phase, is_pedestrian, movement_of}
use Rattle.rules.specs.IntervalTable.{is_minimum_green, is_running, is_walk}
use Rattle.rules.specs.State.{movement}
use Rattle.rules.specs.Colours.{green, vehicle_colour, movement_colour, vehicle_shown, colour_of, shown_in}
use Rattle.rules.specs.Runs.{Step}
use Rattle.rules.specs.DemandThree.{in_minimum_green, in_running, in_walk}
use Rattle.rules.specs.Lamps.{is_vehicle_group, is_movement_group, shows_green}
use Rattle.laws.proofs.Booleans.{and_left, and_right}
use Rattle.proof_runs.proofs.Chains.{ValidLink}

-- what the groups show after one step
pub record ShownAfter (site : Site) (step : Step) : Type 0 where
  pub vehicle :
      (p g : ℕ) →
      is_vehicle_group site p g ≡ true →
      (in_minimum_green step.after p || in_running step.after p) ≡ true →
      shows_green g step ≡ true
  pub walk : (k g : ℕ) → is_movement_group site k g ≡ true → in_walk step.after k ≡ true → shows_green g step ≡ true

-- ── Colours ──

vehicle-green :
    (i : Interval) (closes : Bool) (previous target : Option ℕ) (group : Group) →
    (is_minimum_green i || is_running i) ≡ true →
    vehicle_colour i closes previous target group ≡ green
unfolding vehicle_colour
vehicle-green StartRed closes previous target group h = absurd (false≢true h)
vehicle-green LateStart closes previous target group h = absurd (false≢true h)
vehicle-green MinimumGreen closes previous target group h = refl
vehicle-green Running closes previous target group h = refl
vehicle-green EarlyCutOff closes previous target group h = absurd (false≢true h)
vehicle-green Yellow closes previous target group h = absurd (false≢true h)
vehicle-green AllRed closes previous target group h = absurd (false≢true h)

walk-green : (stage : Stage) → is_walk stage ≡ true → movement_colour stage ≡ green
unfolding movement_colour
walk-green Idle h = absurd (false≢true h)
walk-green Walk h = refl
walk-green ClearanceOne h = absurd (false≢true h)
walk-green ClearanceTwo h = absurd (false≢true h)

-- ── Groups ──

-- the group of a movement exists, is a pedestrian group and has that movement
pub movement-group :
    (site : Site) (k g : ℕ) →
    is_movement_group site k g ≡ true →
    (g < site.size.groups) × (is_pedestrian site.groups g ≡ true) × (movement_of site.groups g ≡ k)
unfolding is_movement_group
movement-group site k g h =
    let within = ltb g site.size.groups in
    let kind = is_pedestrian site.groups g in
    let first = and_left (within && kind) _ h in
    (ltb-true g site.size.groups (and_left within kind first), and_right within kind first, eqb-true _ k (and_right (within && kind) _ h))

-- ── One step ──

shared : (a x y : Bool) → ((a && x) || (a && y)) ≡ true → (a ≡ true) × ((x || y) ≡ true)
shared true x y h = (refl, h)
shared false x y h = absurd (false≢true h)

module _ (site : Site) (s : State) (step : Step) (link : ValidLink site s step) where
  vehicle-shown :
      (p g : ℕ) →
      is_vehicle_group site p g ≡ true →
      (in_minimum_green step.after p || in_running step.after p) ≡ true →
      shows_green g step ≡ true
  unfolding is_vehicle_group in_minimum_green in_running shows_green shown_in colour_of vehicle_shown in_phase
  vehicle-shown p g h e =
      let position = step.after.position in
      let member = and_left (in_phase site.groups g p) _ h in
      let kind = not-true (is_pedestrian site.groups g) (and_right (in_phase site.groups g p) _ h) in
      let there = shared (eqb position.phase p) (is_minimum_green position.interval) (is_running position.interval) e in
      let same = eqb-true position.phase p there.0 in
      eq-eqb _ green
      (link.taken.shown g (link.sound.group_phase g p member).0
      ∙ rw (kind, same, member) (vehicle-green position.interval _ position.previous position.target (group_of site.groups g) there.1))

  walk-shown : (k g : ℕ) → is_movement_group site k g ≡ true → in_walk step.after k ≡ true → shows_green g step ≡ true
  unfolding in_walk shows_green shown_in colour_of movement
  walk-shown k g h e =
      let own = movement-group site k g h in
      eq-eqb _ green (link.taken.shown g own.0 ∙ rw (own.1, own.2) (walk-green (movement step.after k).stage e))

  pub shown-after : ShownAfter site step
  shown-after = record { vehicle = vehicle-shown; walk = walk-shown }
