-- Demand 3 as one statement about every run: every list of step and retiming calls on an accepted personality. Some of the calls may be refused.
use Rattle.std.specs.Prelude.{cond, ℕ, ◌+◌, ◌≤◌, ◌<◌, Bool, true, false, not, ◌&&◌, ◌||◌, List, [], ◌∷◌, ◌++◌, map, ◌≡◌, eqb, ltb, length, get_or, replicate, if◌then◌else◌}
use Rattle.rules.specs.Types.{Verdict, Site, State}
use Rattle.rules.specs.Verdicts.{◌or_else◌, refuse_if}
use Rattle.rules.specs.Site.{site_of, phase_times, walk_times, is_pedestrian, movement_of, conflict}
use Rattle.rules.specs.IntervalTable.{is_minimum_green, is_running, is_walk}
use Rattle.rules.specs.State.{movement}
use Rattle.rules.specs.Demands.{pressed, locking, detected}
use Rattle.rules.specs.Colours.{red, yellow, green, flashing}
use Rattle.rules.specs.WaitBound.{wait_bound}
use Rattle.rules.specs.Call.{stray_input, bound_for}
use Rattle.rules.specs.TimedCall.{differs_elsewhere}
use Rattle.rules.specs.Runs.{Controller, by_rules, Step, Taken, step_taken, retime_taken, accepted_steps, site_after, OfEveryRun}

-- ── Colours ──

-- what a group shows after a step: its byte in the buffer when the call returns
unfoldable pub shows : Step → ℕ → ℕ
shows step g = get_or step.shown g 0

unfoldable pub shown_by : ℕ → List Step → List ℕ
shown_by g steps = map (λ (step : Step). shows step g) steps

-- the group shows green after none of the steps
abbrev pub NeverGreen : ℕ → List Step → Type 0
NeverGreen g [] = Unit {0}
NeverGreen g (step ∷ later) = (shows step g ≡ green → ⊥) × NeverGreen g later

-- whether the group shows green after the last of the steps; the value given if there is no step
unfoldable pub last_green : Bool → ℕ → List Step → Bool
last_green none g [] = none
last_green none g (step ∷ later) = last_green (eqb (shows step g) green) g later

-- A group starts a green at a step if it shows green after this step, and did not after the step before. In the first step every green is a
-- start.
unfoldable pub StartsGreen : ℕ → List Step → Step → Type 0
StartsGreen g earlier step = (shows step g ≡ green) × (last_green false g earlier ≡ false)

-- ── Part a: after no accepted step do conflicting groups show green together ──

unfoldable pub NoConflictingGreens : Site → List Step → Type 0
NoConflictingGreens site steps =
    (earlier later : List Step) (step : Step) →
    steps ≡ earlier ++ step ∷ later →
    (g j : ℕ) →
    conflict site g j ≡ true →
    shows step g ≡ green →
    shows step j ≡ green →
    ⊥

-- ── Part b: no group starts a green before every conflicting group that was green has been cleared ──

-- A vehicle group shows yellow for exactly Y steps, and then only red, for R steps or more. Y and R are those of the phase that the state
-- has after the last green step.
unfoldable pub VehicleCleared : Site → ℕ → Step → List Step → Type 0
VehicleCleared site g last since =
    let times = phase_times site.times last.after.position.phase in
    (n : ℕ) × (times.red ≤ n) × (shown_by g since ≡ replicate times.yellow yellow ++ replicate n red)

-- A pedestrian group shows flashing red for exactly C1 + C2 steps, and then only red.
unfoldable pub PedestrianCleared : Site → ℕ → List Step → Type 0
PedestrianCleared site g since =
    let times = walk_times site.times (movement_of site.groups g) in
    (n : ℕ) × (shown_by g since ≡ replicate (times.first + times.second) flashing ++ replicate n red)

unfoldable pub Cleared : Site → ℕ → Step → List Step → Type 0
Cleared site g last since = cond (is_pedestrian site.groups g) (PedestrianCleared site g since) (VehicleCleared site g last since)

-- Group g starts a green at `start`, and the conflicting group j was green for the last time after `last`. `by` gives the site whose times its
-- clearance goes by.
unfoldable pub FullClearances : (Step → Site) → Site → List Step → Type 0
FullClearances by site steps =
    (earlier since later : List Step) (last start : Step) →
    steps ≡ (earlier ++ last ∷ since) ++ start ∷ later →
    (g j : ℕ) →
    conflict site g j ≡ true →
    StartsGreen g (earlier ++ last ∷ since) start →
    shows last j ≡ green →
    NeverGreen j since →
    Cleared (by last) j last since

-- ── Part c: every demand that a step registers is met in time ──

unfoldable pub in_minimum_green : State → ℕ → Bool
in_minimum_green s p = eqb s.position.phase p && is_minimum_green s.position.interval

unfoldable pub in_walk : State → ℕ → Bool
in_walk s k = is_walk (movement s k).stage

unfoldable pub in_running : State → ℕ → Bool
in_running s p = eqb s.position.phase p && is_running s.position.interval

-- A step registers a locked demand of a phase if one of its locking detectors is occupied. Exception: in the state handed in the phase is
-- in minimum green or running.
unfoldable pub registers_locked : Site → Step → ℕ → Bool
registers_locked site step p =
    detected locking site step.inputs p && not (in_minimum_green step.before p || in_running step.before p)

-- A step registers a button demand if the button is pressed. Exception: in the state handed in the movement is in walk.
unfoldable pub registers_pressed : Step → ℕ → Bool
registers_pressed step k = pressed step.inputs k && not (in_walk step.before k)

-- minimum green of phase p begins in the step; an interval that begins was another one before
unfoldable pub minimum_green_begins : ℕ → Step → Bool
minimum_green_begins p step = in_minimum_green step.after p && not (in_minimum_green step.before p)

-- the walk of movement k begins in the step
unfoldable pub walk_begins : ℕ → Step → Bool
walk_begins k step = in_walk step.after k && not (in_walk step.before k)

unfoldable pub some_step : (Step → Bool) → List Step → Bool
some_step event [] = false
some_step event (step ∷ later) = event step || some_step event later

-- the waits of the times that took over in these steps, one for each change
unfoldable pub changed_waits : Site → List Step → ℕ
changed_waits site [] = 0
changed_waits site (step ∷ later) = (if step.changed then wait_bound (site_after site step) else 0) + changed_waits site later

-- While the event has come neither in the step nor in the steps between, these are fewer than the wait of the times that rule after the step,
-- plus the wait of each change among them. Through no change that is the wait that the step reports.
unfoldable pub MetInTime : Site → (Step → Bool) → Step → List Step → Type 0
MetInTime site event step between =
    some_step event (step ∷ between) ≡ false →
    length between < wait_bound (site_after site step) + changed_waits site between

-- A locked demand is met if minimum green of its phase begins, a button demand if the walk of its movement does.
unfoldable pub DemandsMet : Site → List Step → Type 0
DemandsMet site steps =
    (earlier between later : List Step) (step : Step) →
    steps ≡ earlier ++ step ∷ (between ++ later) →
    ((p : ℕ) → registers_locked site step p ≡ true → MetInTime site (minimum_green_begins p) step between)
    × ((k : ℕ) → k < site.size.movements → registers_pressed step k ≡ true → MetInTime site (walk_begins k) step between)

-- ── Part d: no call is refused for the state that the calls before it left ──

-- what a step call itself may be refused for: a stray input, with 15 at 0; else a buffer shorter than N, with 14 at 0
abbrev pub own_verdict : Site → Step → Verdict
own_verdict site step = refuse_if (stray_input site step.inputs) 15 0 or_else refuse_if (ltb step.room site.size.groups) 14 0

-- Every other step call is accepted, and its answer has the wait of the times that rule after it. A retiming call is refused as `read` refuses its
-- new personality, else with 26 at 0 if this differs elsewhere; every other one is accepted. `read` is the controller's own verdict on bytes.
unfoldable pub AnswersOwn : (List ℕ → Verdict) → List ℕ → Taken → Type 0
AnswersOwn read b (step_taken step) = step.outcome ≡ bound_for (own_verdict (site_of b) step) (wait_bound (site_after (site_of b) step))
AnswersOwn read b (retime_taken new verdict) = verdict ≡ (read new or_else refuse_if (differs_elsewhere b new) 26 0)

unfoldable pub NoDeadEnd : (List ℕ → Verdict) → List ℕ → List Taken → Type 0
NoDeadEnd read b calls = (earlier later : List Taken) (call : Taken) → calls ≡ earlier ++ call ∷ later → AnswersOwn read b call

-- ── The demand ──

pub record SafeRun (read : List ℕ → Verdict) (b : List ℕ) (calls : List Taken) : Type 0 where
  pub no_conflicting_greens : NoConflictingGreens (site_of b) (accepted_steps calls)
  -- by the times that rule after the group's last green step
  pub full_clearances : FullClearances (site_after (site_of b)) (site_of b) (accepted_steps calls)
  pub demands_met : DemandsMet (site_of b) (accepted_steps calls)
  pub no_dead_end : NoDeadEnd read b calls

unfoldable pub DemandThreeOf : {S : Type 0} → Controller S → Type 0
DemandThreeOf controller = OfEveryRun controller (SafeRun controller.verdict)

unfoldable pub DemandThree : Type 0
DemandThree = DemandThreeOf by_rules

-- ── Its parts, each for itself ──

unfoldable pub RunsHaveNoConflictingGreens : Type 0
RunsHaveNoConflictingGreens = OfEveryRun by_rules (λ b calls. NoConflictingGreens (site_of b) (accepted_steps calls))

unfoldable pub RunsHaveFullClearances : Type 0
RunsHaveFullClearances = OfEveryRun by_rules (λ b calls. FullClearances (site_after (site_of b)) (site_of b) (accepted_steps calls))

unfoldable pub RunsMeetDemands : Type 0
RunsMeetDemands = OfEveryRun by_rules (λ b calls. DemandsMet (site_of b) (accepted_steps calls))

unfoldable pub RunsHaveNoDeadEnd : Type 0
RunsHaveNoDeadEnd = OfEveryRun by_rules (NoDeadEnd by_rules.verdict)
