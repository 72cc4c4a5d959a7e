-- A wait for every approach and every crossing, beside demand 3: statements about every list of step and retiming calls on an accepted
-- personality. Some of the calls may be refused.
use Rattle.std.specs.Prelude.{ℕ, ◌+◌, ◌≤◌, ◌<◌, max, Bool, true, false, not, ◌&&◌, ◌||◌, List, [], ◌∷◌, ◌++◌, ◌≡◌, eqb, length}
use Rattle.rules.specs.Types.{Accepted, Site, Times, State}
use Rattle.rules.specs.Personality.{verdict_of}
use Rattle.rules.specs.Site.{site_of, phase_times, crosses}
use Rattle.rules.specs.SiteTimes.{under}
use Rattle.rules.specs.IntervalTable.{is_before_start, is_leaving}
use Rattle.rules.specs.Demands.{demanded}
use Rattle.rules.specs.WaitBound.{wait_bound}
use Rattle.rules.specs.Waits.{turn_of, phase_wait_by, movement_wait_by, phase_wait, movement_wait, phase_of_movement}
use Rattle.rules.specs.Runs.{Step, Controller, by_rules, accepted_steps, site_after, OfEveryRun}
use Rattle.rules.specs.DemandThree.{minimum_green_begins, walk_begins, some_step, changed_waits, registers_locked, registers_pressed, in_minimum_green, in_running}

-- ── A demand that lasts ──

-- the phase has started and is not being left
unfoldable pub has_started : State → ℕ → Bool
has_started s q = eqb s.position.phase q && not (is_before_start s.position.interval || is_leaving s.position.interval)

-- the phase is demanded in the step, by a lock, a call without lock or a button; once it has started it need not be
unfoldable pub demanded_in : Site → ℕ → Step → Bool
demanded_in site q step = demanded site step.before step.inputs q || has_started step.before q

unfoldable pub every_step : (Step → Bool) → List Step → Bool
every_step test [] = true
every_step test (step ∷ later) = test step && every_step test later

-- ── The waits through changes of times ──

-- the greatest of a number by the times that rule after each of the steps
unfoldable pub greatest_among : (Times → ℕ) → List Step → ℕ
greatest_among number [] = 0
greatest_among number (step ∷ later) = max (number step.ruling) (greatest_among number later)

-- From a step through those between: the greatest turns among the times that rule meanwhile, and the greatest late start of the phase. What
-- comes first is by the times that rule after the step.
module _ (site : Site) (step : Step) (between : List Step) where
  unfoldable pub turn_through : ℕ → ℕ
  turn_through p = greatest_among (λ times. turn_of (under site times) p) (step ∷ between)

  unfoldable pub late_through : ℕ → ℕ
  late_through q = greatest_among (λ times. (phase_times times q).late) (step ∷ between)

  abbrev pub phase_wait_through : ℕ → ℕ
  phase_wait_through q = phase_wait_by (site_after site step) (late_through q) turn_through q

  -- of movement m of phase q
  abbrev pub movement_wait_through : (q m : ℕ) → ℕ
  movement_wait_through q m = movement_wait_by (site_after site step) turn_through q m

-- no step is a change
unfoldable pub none_changes : List Step → Bool
none_changes [] = true
none_changes (step ∷ later) = not step.changed && none_changes later

-- ── Every demand ──

-- While the event has come in none of the steps, these are fewer than the wait: it comes in the first or in fewer than that many further ones.
unfoldable pub ComesBefore : ℕ → (Step → Bool) → List Step → Type 0
ComesBefore wait event steps = some_step event steps ≡ false → length steps < wait

-- A claim about each demand, from a step through those between.
pub record OfEveryDemand
    (OfPhase : (q : ℕ) → Step → List Step → Type 0) (OfMovement : (q m : ℕ) → Step → List Step → Type 0)
    (site : Site) (steps : List Step) : Type 0 where
  -- a phase that is demanded in each of these steps until it starts, in whatever ways; the state handed in has it not in minimum green or running
  pub lasting :
      (earlier between later : List Step) (step : Step) →
      steps ≡ earlier ++ step ∷ (between ++ later) →
      (q : ℕ) →
      q < site.size.phases →
      (in_minimum_green step.before q || in_running step.before q) ≡ false →
      every_step (demanded_in site q) (step ∷ between) ≡ true →
      OfPhase q step between
  -- a locked demand that the step registers
  pub locks :
      (earlier between later : List Step) (step : Step) →
      steps ≡ earlier ++ step ∷ (between ++ later) →
      (q : ℕ) →
      registers_locked site step q ≡ true →
      OfPhase q step between
  -- a button demand that the step registers, of movement m of phase q
  pub buttons :
      (earlier between later : List Step) (step : Step) →
      steps ≡ earlier ++ step ∷ (between ++ later) →
      (q m : ℕ) →
      m < site.size.movements →
      crosses site.crossings m q ≡ true →
      registers_pressed step m ≡ true →
      OfMovement q m step between

-- Minimum green of the phase begins, or the walk of the movement does, in the step or in fewer than its wait further ones, through changes of
-- times too.
unfoldable pub WaitsMet : Site → List Step → Type 0
WaitsMet site =
    OfEveryDemand (λ q step between. ComesBefore (phase_wait_through site step between q) (minimum_green_begins q) (step ∷ between))
    (λ q m step between. ComesBefore (movement_wait_through site step between q m) (walk_begins m) (step ∷ between))
    site

-- Through no change the waits are those of the times that rule after the step.
unfoldable pub PlainWaitsMet : Site → List Step → Type 0
PlainWaitsMet site =
    OfEveryDemand
    (λ q step between. none_changes between ≡ true → ComesBefore (phase_wait (site_after site step) q) (minimum_green_begins q) (step ∷ between))
    (λ q m step between. none_changes between ≡ true → ComesBefore (movement_wait (site_after site step) q m) (walk_begins m) (step ∷ between))
    site

-- ── The promises ──

-- Of every list of step and retiming calls on every accepted personality, from its fresh state.
unfoldable pub EveryWaitMetOf : {S : Type 0} → Controller S → Type 0
EveryWaitMetOf controller = OfEveryRun controller (λ b calls. WaitsMet (site_of b) (accepted_steps calls))

unfoldable pub EveryWaitMet : Type 0
EveryWaitMet = EveryWaitMetOf by_rules

unfoldable pub EveryPlainWaitMetOf : {S : Type 0} → Controller S → Type 0
EveryPlainWaitMetOf controller = OfEveryRun controller (λ b calls. PlainWaitsMet (site_of b) (accepted_steps calls))

unfoldable pub EveryPlainWaitMet : Type 0
EveryPlainWaitMet = EveryPlainWaitMetOf by_rules

-- `waits_of` lists a movement with the phase that it is of
unfoldable pub PhaseIsTold : Type 0
PhaseIsTold =
    (b : List ℕ) →
    verdict_of b ≡ Accepted →
    (q m : ℕ) →
    m < (site_of b).size.movements →
    crosses (site_of b).crossings m q ≡ true →
    phase_of_movement (site_of b) m ≡ q

-- ── At most the paper's bound ──

-- The waits of an accepted personality are at most its wait bound.
unfoldable pub WaitsWithinBound : Type 0
WaitsWithinBound =
    (b : List ℕ) →
    verdict_of b ≡ Accepted →
    (q : ℕ) →
    q < (site_of b).size.phases →
    (phase_wait (site_of b) q ≤ wait_bound (site_of b))
    × ((m : ℕ) →
    m < (site_of b).size.movements →
    crosses (site_of b).crossings m q ≡ true →
    movement_wait (site_of b) q m ≤ wait_bound (site_of b))

-- Through changes they are at most the wait bound of the times that rule after the step, plus that of each change.
unfoldable pub WithinSum : Site → List Step → Type 0
WithinSum site steps =
    (earlier between later : List Step) (step : Step) →
    steps ≡ earlier ++ step ∷ (between ++ later) →
    (q : ℕ) →
    q < site.size.phases →
    (phase_wait_through site step between q ≤ wait_bound (site_after site step) + changed_waits site between)
    × ((m : ℕ) →
    m < site.size.movements →
    crosses site.crossings m q ≡ true →
    movement_wait_through site step between q m ≤ wait_bound (site_after site step) + changed_waits site between)

unfoldable pub EveryWaitWithinSum : Type 0
EveryWaitWithinSum = OfEveryRun by_rules (λ b calls. WithinSum (site_of b) (accepted_steps calls))
