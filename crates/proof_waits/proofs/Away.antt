-- The phase of a locked demand is not in minimum green or running, and no step leads it there but by its minimum green: a phase does not start
-- with running, and running comes after minimum green only.
use Prim.Native.Nat.{ℕ}
use mathlib.Core.Bool.{Bool, true, false}
use mathlib.Core.Path.{◌≡◌, refl, sym, ap}
use lib.Dec.{eqb}
use borrow.Author.Tests.{eqb-true, eq-eqb}
use Rattle.rules.specs.declared.site.Times.{Times}
use Rattle.rules.specs.declared.state.Interval.{Interval}
use Rattle.rules.specs.declared.state.Interval.TheVariants.{StartRed, LateStart, MinimumGreen, Running, EarlyCutOff, Yellow, AllRed}
use Rattle.rules.specs.declared.state.Position.{Position}
use Rattle.rules.specs.declared.state.State.{State}
use Rattle.std.specs.Prelude.{if◌then◌else◌, Option}
use Rattle.rules.specs.Site.{phase_times}
use Rattle.rules.specs.IntervalTable.{is_green, is_minimum_green, phase_held}
use Rattle.rules.specs.Demands.{in_green}
use Rattle.rules.specs.Interval.{following, entering, starting}
use Rattle.rules.specs.DemandThree.{in_minimum_green}
use Rattle.laws.proofs.Booleans.{and_left, and_right, never_both, not-true-false}
use Rattle.proof_runs.proofs.Ends.{by-early}

-- the phase is not in minimum green or running
abbrev pub AwayAt : ℕ → Position → Type 0
AwayAt q position = position.phase ≡ q → is_green position.interval ≡ false

-- nor has its minimum green begun
abbrev pub NotBegun : ℕ → Position → Type 0
NotBegun q position = position.phase ≡ q → is_minimum_green position.interval ≡ false

-- a phase does not start with running
start-away : (b : Bool) → is_minimum_green (if b then MinimumGreen else LateStart) ≡ false → is_green (if b then MinimumGreen else LateStart) ≡ false
start-away true m = absurd (never_both refl m)
start-away false m = refl

-- running of a phase comes after its own minimum green only
pub following-away :
    (q : ℕ) (i : Interval) (times : Times) (next : Option ℕ) (position : Position) →
    position.interval ≡ i →
    AwayAt q position →
    NotBegun q (following i times next position) →
    AwayAt q (following i times next position)
unfolding following entering starting
following-away q StartRed times next position e away none same =
    start-away (eqb (phase_times times position.phase).late 0) (none same)
following-away q LateStart times next position e away none same = absurd (never_both refl (none same))
following-away q MinimumGreen times next position e away none same = absurd (never_both (ap is_green e) (away same))
following-away q Running times next position e away none same =
    by-early (λ (p : Position). is_green p.interval ≡ false) times next position (λ skipped. refl) (λ some. refl)
following-away q EarlyCutOff times next position e away none same = refl
following-away q Yellow times next position e away none same = refl
following-away q AllRed times next position e away none same =
    start-away (eqb (phase_times times (phase_held position.target)).late 0) (none same)

-- ── In a state ──

pub away-told : (s : State) (q : ℕ) → in_green s.position q ≡ false → AwayAt q s.position
unfolding in_green
away-told s q h e = rw (eq-eqb q s.position.phase (sym e)) at h

pub away-green : (s : State) (q : ℕ) → AwayAt q s.position → in_green s.position q ≡ false
unfolding in_green
away-green s q away =
    not-true-false (in_green s.position q)
    (λ h.
    never_both (and_right (eqb q s.position.phase) _ h)
    (away (sym (eqb-true q s.position.phase (and_left _ (is_green s.position.interval) h)))))

pub not-begun : (s : State) (q : ℕ) → in_minimum_green s q ≡ false → NotBegun q s.position
unfolding in_minimum_green
not-begun s q h e = rw (eq-eqb s.position.phase q e) at h
