-- Demand 3 for lists of step calls alone. The personality's own times rule in such a run, and no step is a change. It follows from demand 3.
use Rattle.std.specs.Prelude.{ℕ, ◌≤◌, ◌<◌, Bool, true, List, ◌∷◌, ◌++◌, map, ◌≡◌, length, take}
use Rattle.rules.specs.Types.{Accepted, Site}
use Rattle.rules.specs.Site.{site_of}
use Rattle.rules.specs.WaitBound.{wait_bound}
use Rattle.rules.specs.Call.{bound_for}
use Rattle.rules.specs.Runs.{Controller, by_rules, StepCall, step_call, Step, Taken, step_taken, taken_from, accepted_steps}
use Rattle.rules.specs.DemandThree.{NoConflictingGreens, FullClearances, minimum_green_begins, walk_begins, some_step, own_verdict, DemandThree, registers_locked, registers_pressed}

-- ── Part c: every demand that a step registers is met within the wait bound ──

-- the event comes in the step or within n of the later ones
unfoldable pub comes_within : ℕ → (Step → Bool) → Step → List Step → Bool
comes_within n event step later = some_step event (step ∷ take n later)

-- If a step registers a locked demand, minimum green of the phase begins in this step or in one of the next `wait` steps; if it registers
-- a button demand, the walk of the movement does. This holds if the list has `wait` more steps.
unfoldable pub MetWithin : Site → ℕ → List Step → Type 0
MetWithin site wait steps =
    (earlier later : List Step) (step : Step) →
    steps ≡ earlier ++ step ∷ later →
    wait ≤ length later →
    ((p : ℕ) → registers_locked site step p ≡ true → comes_within wait (minimum_green_begins p) step later ≡ true)
    × ((k : ℕ) → k < site.size.movements → registers_pressed step k ≡ true → comes_within wait (walk_begins k) step later ≡ true)

-- ── Part d: no call is refused for the state that the calls before it left ──

-- Every step call that is not refused for its own inputs or buffer is accepted, and its answer has the wait bound.
unfoldable pub AnswersBound : Site → List Taken → Type 0
AnswersBound site calls =
    (earlier later : List Taken) (step : Step) →
    calls ≡ earlier ++ step_taken step ∷ later →
    step.outcome ≡ bound_for (own_verdict site step) (wait_bound site)

-- ── The demand ──

pub record SafeStepRun (site : Site) (calls : List Taken) : Type 0 where
  pub no_conflicting_greens : NoConflictingGreens site (accepted_steps calls)
  -- by the site's own times
  pub full_clearances : FullClearances (λ last. site) site (accepted_steps calls)
  pub demands_met : MetWithin site (wait_bound site) (accepted_steps calls)
  pub no_dead_end : AnswersBound site calls

-- a claim about every list of step calls on every accepted personality, from its fresh state
abbrev pub OfEveryStepRun : {S : Type 0} → Controller S → (Site → List Taken → Type 0) → Type 0
OfEveryStepRun controller Claim =
    (b : List ℕ) →
    controller.verdict b ≡ Accepted →
    (calls : List StepCall) →
    Claim (site_of b) (taken_from controller b (controller.fresh b) (map step_call calls))

unfoldable pub StepDemandThreeOf : {S : Type 0} → Controller S → Type 0
StepDemandThreeOf controller = OfEveryStepRun controller SafeStepRun

unfoldable pub StepDemandThree : Type 0
StepDemandThree = StepDemandThreeOf by_rules

-- demand 3 gives it
unfoldable pub StepDemandFollows : Type 0
StepDemandFollows = DemandThree → StepDemandThree
