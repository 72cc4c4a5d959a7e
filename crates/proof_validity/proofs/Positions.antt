-- The position after a step is valid. Where the interval ends, the phase stays and its next interval begins, or the target starts;
-- the target is chosen when running ends, among the other phases of the ring. Early cut-off green follows running only where its time
-- is not 0, and so only at a site with a section of kind 7. Where the interval does not end, only the age rises.
use Prim.Native.Nat.{ℕ, ◌<◌}
use mathlib.Core.Bool.{Bool, true, false, ◌||◌}
use mathlib.Core.Path.{◌≡◌, refl}
use native.Mathlib.Omega.{arith}
use lib.Dec.{eqb}
use borrow.Author.Tests.{lt-ltb, ne_eqb}
use Rattle.rules.specs.declared.site.Site.{Site}
use Rattle.rules.specs.declared.site.Times.{Times}
use Rattle.rules.specs.declared.state.Interval.{Interval}
use Rattle.rules.specs.declared.state.Interval.TheVariants.{StartRed, LateStart, MinimumGreen, Running, EarlyCutOff, Yellow, AllRed}
use Rattle.rules.specs.declared.state.Position.{Position}
use Rattle.rules.specs.declared.state.State.{State}
use Rattle.std.specs.Prelude.{if◌then◌else◌, Option, Some, None}
use Rattle.rules.specs.Site.{phase_times, ring}
use Rattle.rules.specs.IntervalTable.{is_start_red, is_leaving, is_held, phase_held}
use Rattle.rules.specs.State.{interval_valid, target_valid, previous_valid}
use Rattle.rules.specs.Demands.{demanded, first_in, next_after, next_demanded}
use Rattle.rules.specs.Movements.{older}
use Rattle.rules.specs.Interval.{entering, starting, following, staying}
use Rattle.rules.specs.Laws.{Sound}
use Rattle.laws.proofs.Booleans.{and_both, or_left, or_right, not-false-true}
use Rattle.proof_runs.proofs.ValidStates.{Aged, ValidState, target_below}
use Rattle.proof_runs.proofs.Steps.{another, now}
use Rattle.proof_runs.proofs.Ends.{by-early, by_end, running-ends}
use Rattle.proof_ring.proofs.Turns.{turn}
use Rattle.proof_ring.proofs.Ring.{found-other}
use Rattle.proof_ring.proofs.RunningOrder.{ring_of}

-- what the clauses of a valid state tell of its position
pub record ValidPosition (early : Bool) (count : ℕ) (position : Position) : Type 0 where
  pub phase : position.phase < count
  pub interval : interval_valid early position.interval ≡ true
  pub target : target_valid count position.phase (is_leaving position.interval) position.target ≡ true
  pub previous : previous_valid count position.previous ≡ true
  pub age : Aged position.age

position-told : (site : Site) (s : State) → ValidState site s → ValidPosition site.early site.size.phases s.position
position-told site s v = record { phase = v.phase; interval = v.interval; target = v.target; previous = v.previous; age = v.age }

-- ── Ages ──

pub older-aged : (age : ℕ) → Aged age → Aged (older age)
unfolding older
older-aged age h = (omega arith, omega arith)

pub new-aged : Aged 1
new-aged = (omega arith, omega arith)

-- ── The phase held as a target ──

module _ (count phase : ℕ) where
  -- a phase may be held as the target: it exists, and is unlike the phase that is left
  held-valid : (t : ℕ) → t < count → (t ≡ phase → ⊥) → target_valid count phase true (Some t) ≡ true
  unfolding target_valid
  held-valid t h u = and_both (lt-ltb t count h) (rw (ne_eqb t phase u))

-- the next demanded phase, if another phase is demanded, may be held as the target
next-valid :
    (site : Site) →
    Sound site →
    (s : State) (inputs : ℕ) →
    target_valid site.size.phases s.position.phase (another site s inputs) (next_demanded site s inputs) ≡ true
unfolding next_demanded next_after another is_held target_valid turn
next-valid site sound s inputs = step (first_in (demanded site s inputs) (turn (ring site.order site.size.phases) s.position.phase)) refl
  where
    step :
        (next : Option ℕ) →
        first_in (demanded site s inputs) (turn (ring site.order site.size.phases) s.position.phase) ≡ next →
        target_valid site.size.phases s.position.phase (is_held next) next ≡ true
    step None e = refl
    step (Some t) e =
        let other = found-other (ring_of site sound) (demanded site s inputs) e in
        held-valid site.size.phases s.position.phase t other.0 other.1

-- ── The interval ends, or it stays ──

-- neither start red nor one that leaves the phase: movements of the phase may walk
abbrev pub Open : Interval → Type 0
Open interval = (is_start_red interval ≡ false) × (is_leaving interval ≡ false)

-- the interval with which a phase starts
by-late :
    (P : Interval → Type 0) → P MinimumGreen → P LateStart → (times : Times) (p : ℕ) (previous : Option ℕ) → P (starting times p previous).interval
unfolding starting
by-late P none some times p previous = step (eqb (phase_times times p).late 0)
  where
    step : (t : Bool) → P (if t then MinimumGreen else LateStart)
    step true = none
    step false = some

-- it is open
pub start-open : (times : Times) (p : ℕ) (previous : Option ℕ) → Open (starting times p previous).interval
start-open = by-late Open (refl, refl) (refl, refl)

module _
    (early : Bool) (count : ℕ) (times : Times) (next : Option ℕ) (position : Position) (valid : ValidPosition early count position) where
  -- another interval of the same phase, with a target that fits it
  entering-valid :
      (interval : Interval) (target : Option ℕ) →
      interval_valid early interval ≡ true →
      target_valid count position.phase (is_leaving interval) target ≡ true →
      ValidPosition early count (entering interval target position)
  unfolding entering
  entering-valid interval target i h = record { phase = valid.phase; interval = i; target = h; previous = valid.previous; age = new-aged }

  -- a phase that exists starts
  starting-valid : (p : ℕ) (previous : Option ℕ) → p < count → previous_valid count previous ≡ true → ValidPosition early count (starting times p previous)
  unfolding starting target_valid interval_valid
  starting-valid p previous h c =
      record {
        phase = h;
        interval = by-late (λ (i : Interval). interval_valid early i ≡ true) plain plain times p previous;
        target = rw (start-open times p previous).1;
        previous = c;
        age = new-aged;
      }
    where
      plain : (early || true) ≡ true
      plain = or_right early refl

  following-valid :
      (interval : Interval) →
      position.interval ≡ interval →
      (interval ≡ Running → target_valid count position.phase true next ≡ true) →
      (((phase_times times position.phase).early ≡ 0 → ⊥) → early ≡ true) →
      ValidPosition early count (following interval times next position)
  unfolding following target_valid previous_valid interval_valid
  following-valid StartRed e h section = starting-valid position.phase position.previous valid.phase valid.previous
  following-valid LateStart e h section = entering-valid MinimumGreen None (or_right early refl) refl
  following-valid MinimumGreen e h section = entering-valid Running None (or_right early refl) refl
  following-valid Running e h section =
      by-early (ValidPosition early count) times next position
      (λ none. entering-valid Yellow next (or_right early refl) (h refl))
      (λ some. entering-valid EarlyCutOff next (or_left false (section some)) (h refl))
  following-valid EarlyCutOff e h section = entering-valid Yellow position.target (or_right early refl) (rw e at valid.target)
  following-valid Yellow e h section = entering-valid AllRed position.target (or_right early refl) (rw e at valid.target)
  following-valid AllRed e h section =
      starting-valid
      (phase_held position.target)
      (Some position.phase)
      (target_below count position.phase position.target (rw e at valid.target))
      (lt-ltb position.phase count valid.phase)

  staying-valid : ValidPosition early count (staying position)
  unfolding staying
  staying-valid =
      record {
        phase = valid.phase;
        interval = valid.interval;
        target = valid.target;
        previous = valid.previous;
        age = older-aged position.age valid.age;
      }

pub next-position :
    (site : Site) →
    Sound site →
    (s : State) (inputs : ℕ) →
    ValidState site s →
    ValidPosition site.early site.size.phases (now site s inputs)
next-position site sound s inputs v =
    let count = site.size.phases in
    let next = next_demanded site s inputs in
    let told = position-told site s v in
    by_end site s inputs (ValidPosition site.early count)
    (λ over.
    following-valid site.early count site.times next s.position told s.position.interval refl
    (λ e. rw (running-ends site s inputs e over) at (next-valid site sound s inputs))
    (λ some. not-false-true site.early (λ without. some (sound.no_early_time s.position.phase v.phase without))))
    (λ still. staying-valid site.early count site.times next s.position told)
