-- Demand 3 read at the junction of two phases of document 01, for lists of step calls: what it says of a real site, in numbers.
use Rattle.std.specs.Prelude.{◌≤◌, ◌<◌, true, List, ◌∷◌, ◌++◌, map, ◌≡◌, length}
use Rattle.rules.specs.Verdicts.{Stepped}
use Rattle.rules.specs.Site.{site_of}
use Rattle.rules.specs.Colours.{green}
use Rattle.rules.specs.Runs.{by_rules, StepCall, step_call, Step, Taken, step_taken, taken_from, accepted_steps}
use Rattle.rules.specs.DemandThree.{shows, minimum_green_begins, registers_locked}
use Rattle.rules.specs.StepDemandThree.{comes_within}
use Rattle.rules.specs.Junctions.{junction}

-- the calls as the rules take them, from the fresh state
abbrev pub taken_at : List StepCall → List Taken
taken_at calls = taken_from by_rules junction (by_rules.fresh junction) (map step_call calls)

-- Whatever the calls: the two groups are never green together.
unfoldable pub NeverTogether : Type 0
NeverTogether =
    (calls : List StepCall) (earlier later : List Step) (step : Step) →
    accepted_steps (taken_at calls) ≡ earlier ++ step ∷ later →
    shows step 0 ≡ green →
    shows step 1 ≡ green →
    ⊥

-- Whatever the calls: where a step registers a locked demand of B, B's minimum green begins in it or within 270 further steps, 27 s.
unfoldable pub MetIn270 : Type 0
MetIn270 =
    (calls : List StepCall) (earlier later : List Step) (step : Step) →
    accepted_steps (taken_at calls) ≡ earlier ++ step ∷ later →
    270 ≤ length later →
    registers_locked (site_of junction) step 1 ≡ true →
    comes_within 270 (minimum_green_begins 1) step later ≡ true

-- Whatever the calls: one whose input bits are those of the two detectors, with a buffer of two bytes or more, is accepted, and its answer
-- has the wait bound of 270.
unfoldable pub AlwaysAnswered : Type 0
AlwaysAnswered =
    (calls : List StepCall) (earlier later : List Taken) (step : Step) →
    taken_at calls ≡ earlier ++ step_taken step ∷ later →
    step.inputs < 4 →
    2 ≤ step.room →
    step.outcome ≡ Stepped 270
