-- The colours of a vehicle group from one interval to the next, with groups that stop early taken as closing: what is shown differs from
-- that only where such a group's yellow has turned to red. Red is followed by red or green; one that has the target starts it in green.
use Prim.Native.Nat.{ℕ}
use native.Mathlib.Omega.{arith}
use mathlib.Core.Bool.{Bool, true, false, not, ◌&&◌, ◌||◌, true≢false}
use mathlib.Core.Logic.{◌⊎◌, inl, inr}
use mathlib.Core.Path.{◌≡◌, refl, sym}
use lib.Dec.{eqb}
use Rattle.rules.specs.declared.site.Group.{Group}
use Rattle.rules.specs.declared.site.Site.{Site}
use Rattle.rules.specs.declared.site.Times.{Times}
use Rattle.rules.specs.declared.state.Interval.{Interval}
use Rattle.rules.specs.declared.state.Interval.TheVariants.{StartRed, LateStart, MinimumGreen, Running, EarlyCutOff, Yellow, AllRed}
use Rattle.rules.specs.declared.state.Position.{Position}
use Rattle.std.specs.Prelude.{if◌then◌else◌, Option, Some, None}
use Rattle.rules.specs.Site.{group_of, in_phase, phase_times}
use Rattle.rules.specs.IntervalTable.{held_in, phase_held}
use Rattle.rules.specs.Interval.{entering, starting, leaving, following}
use Rattle.rules.specs.Colours.{red, yellow, green, vehicle_colour}
use Rattle.proof_clearance.proofs.Shown.{keeps, stops_early, vehicle_by, vehicle_at}

-- ── Closing, and what is shown ──

-- What is shown, and what would be while closing, are the same, or red is shown in place of yellow.
pub record Fades (shown closing : ℕ) : Type 0 where
  pub was-green : shown ≡ green → closing ≡ green
  pub green : closing ≡ green → shown ≡ green
  pub red : closing ≡ red → shown ≡ red

same : {colour : ℕ} → Fades colour colour
same = record { was-green = λ e. e; green = λ e. e; red = λ e. e }

-- a group that stays green, or is yellow while it closes and then red
by-closing : (stays closes : Bool) → Fades (if stays then green else if closes then yellow else red) (if stays then green else yellow)
by-closing true closes = same
by-closing false true = same
by-closing false false =
    record { was-green = λ e. absurd (omega arith); green = λ e. absurd (omega arith); red = λ e. absurd (omega arith) }

colour-fades :
    (i : Interval) (closes : Bool) (previous target : Option ℕ) (group : Group) →
    Fades (vehicle_colour i closes previous target group) (vehicle_colour i true previous target group)
unfolding vehicle_colour
colour-fades StartRed closes previous target group = same
colour-fades LateStart closes previous target group = same
colour-fades MinimumGreen closes previous target group = same
colour-fades Running closes previous target group = same
colour-fades EarlyCutOff closes previous target group = by-closing (held_in target group.phases || not (eqb group.mark 3)) closes
colour-fades Yellow closes previous target group = by-closing (held_in target group.phases) (closes || not (eqb group.mark 3))
colour-fades AllRed closes previous target group = same

-- what group j would show while closing
abbrev pub closing_at : Site → ℕ → Position → ℕ
closing_at site j position = vehicle_by site j true position

pub shown-fades : (site : Site) (j : ℕ) (position : Position) → Fades (vehicle_at site j position) (closing_at site j position)
shown-fades site j position =
    by-phase (in_phase site.groups j position.phase)
    (colour-fades position.interval _ position.previous position.target (group_of site.groups j))
  where
    by-phase : (of_phase : Bool) {a b : ℕ} → Fades a b → Fades (if of_phase then a else red) (if of_phase then b else red)
    by-phase true fades = fades
    by-phase false fades = same

-- ── Choices of colours ──

abbrev pub RedOrGreen : ℕ → Type 0
RedOrGreen colour = (colour ≡ red) ⊎ (colour ≡ green)

chosen : (test : Bool) {a b : ℕ} → RedOrGreen a → RedOrGreen b → RedOrGreen (if test then a else b)
chosen true one other = one
chosen false one other = other

-- green where a phase is left tells that the group stays so
pub green-stays : (stays : Bool) (colour : ℕ) → (colour ≡ green → ⊥) → (if stays then green else colour) ≡ green → stays ≡ true
green-stays true colour other e = refl
green-stays false colour other e = absurd (other e)

-- red in an interval where no group of the phase is red tells that this one is none, and so it is red in the next interval too
red-outside :
    (of_phase : Bool) {here : ℕ} (there : ℕ) →
    (here ≡ red → ⊥) →
    (if of_phase then here else red) ≡ red →
    (if of_phase then there else red) ≡ red
red-outside true there other e = absurd (other e)
red-outside false there other e = refl

-- ── The start of a phase ──

abbrev first_interval : Bool → Interval
first_interval no_late = if no_late then MinimumGreen else LateStart

-- mark 1 does not wait where came-from is in its set
started-green :
    (no_late : Bool) (previous : Option ℕ) (group : Group) →
    held_in previous group.phases ≡ true →
    vehicle_colour (first_interval no_late) true previous None group ≡ green
unfolding vehicle_colour
started-green true previous group e = refl
started-green false previous group e = rw e (waits-not (eqb group.mark 1))
  where
    waits-not : (mark : Bool) → (if mark && not true then red else green) ≡ green
    waits-not true = refl
    waits-not false = refl

started-either : (no_late : Bool) (previous : Option ℕ) (group : Group) → RedOrGreen (vehicle_colour (first_interval no_late) true previous None group)
unfolding vehicle_colour
started-either true previous group = inr refl
started-either false previous group = chosen (eqb group.mark 1 && not (held_in previous group.phases)) (inl refl) (inr refl)

module _ (site : Site) (j : ℕ) (times : Times) where
  -- the target starts green where it and the phase that was left are in the set
  pub target-green :
      (p : ℕ) (target : Option ℕ) →
      in_phase site.groups j p ≡ true →
      keeps site j target ≡ true →
      closing_at site j (starting times (phase_held target) (Some p)) ≡ green
  unfolding held_in phase_held in_phase starting
  target-green p None m h = absurd (true≢false (sym h))
  target-green p (Some q) m h = rw h (started-green (eqb (phase_times times q).late 0) (Some p) (group_of site.groups j) m)

  start-either : (p : ℕ) (previous : Option ℕ) → RedOrGreen (closing_at site j (starting times p previous))
  unfolding starting
  start-either p previous =
      chosen (in_phase site.groups j p) (started-either (eqb (phase_times times p).late 0) previous (group_of site.groups j)) (inl refl)

  -- ── What follows red ──

  module _ (next : Option ℕ) (position : Position) where
    abbrev of_phase : Bool
    of_phase = in_phase site.groups j position.phase

    pub red-follows :
        (i : Interval) →
        (if of_phase then vehicle_colour i true position.previous position.target (group_of site.groups j) else red) ≡ red →
        RedOrGreen (closing_at site j (following i times next position))
    unfolding following leaving entering vehicle_colour
    red-follows StartRed e = start-either position.phase position.previous
    red-follows LateStart e = chosen of_phase (inr refl) (inl refl)
    red-follows MinimumGreen e = chosen of_phase (inr refl) (inl refl)
    red-follows Running e = inl (red-outside of_phase _ (λ (z : green ≡ red). omega arith) e)
    red-follows EarlyCutOff e = inl (red-outside of_phase _ (not-red (keeps site j position.target || not (stops_early site j))) e)
      where
        not-red : (stays : Bool) → (if stays then green else yellow) ≡ red → ⊥
        not-red true e = omega arith
        not-red false e = omega arith
    red-follows Yellow e = chosen of_phase (chosen (keeps site j position.target) (inr refl) (inl refl)) (inl refl)
    red-follows AllRed e = start-either (phase_held position.target) (Some position.phase)
