-- Parts a and b of demand 3: each controller that breaks one is refuted by one list of calls on one personality.
-- The facts at which it fails are computed, once. What follows the calls are the places of steps in the list, counted from 0, and the phase,
-- movement or groups.
use mathlib.Core.Path.{refl}
use lib.ListN.{set}
use Rattle.rules.specs.declared.state.Interval.TheVariants.{Yellow, AllRed}
use Rattle.rules.specs.Personality.{verdict_of}
use Rattle.rules.specs.Site.{site_of}
use Rattle.rules.specs.Colours.{red, yellow, flashing}
use Rattle.rules.specs.WaitBound.{wait_bound}
use Rattle.rules.specs.Junctions.{junction, slower}
use Rattle.rules.specs.DemandThree.{DemandThreeOf}
use Rattle.rules.specs.StepDemandThree.{StepDemandThreeOf}
use Rattle.proof_refutations.specs.Faults.{scanned, faulty, passes_ten, ends_on_timer, shortens, shortens_clearance, chooses_again, chooses_early_again, painting, ruled_now, retiming}
use Rattle.proof_refutations.specs.Refutations.{RulesAtOnceFails}
use Rattle.proof_refutations.proofs.Violations.{refuted-by-greens, refuted-by-clearance, refuted-by-flashing, refuted-by-yellow, refuted-by-red, steps-refuted-by-red, refuted-by-other-than-red, refuted-by-other-than-stop}
use Rattle.proof_refutations.proofs.Quickly.{ends-on-timer-keeps, shortens-keeps, shortens-clearance-keeps, chooses-again-keeps, chooses-early-again-keeps, ruled-now-takes, faulty-quickly, retiming-quickly}
use Rattle.proof_refutations.proofs.Witnesses.{calls_from, small, small_crossings, crossings, shared, shared_arrow, at_once, walk_then_b, later_b, back_to_a, pressed_twice, steps_from, retimed_in_yellow}
use Rattle.proof_refutations.proofs.Computing.{computing}

-- Group 1 of the junction is made one of A too: both groups are green in step 10.
pub passes-ten : ¬ DemandThreeOf (faulty passes_ten scanned wait_bound)
unfolding computing
passes-ten = refuted-by-greens (faulty passes_ten scanned wait_bound) (set junction 42 3) refl (steps_from at_once 2 1 10) refl 9 0 1 refl

-- B starts its green in step 120. The crossing was green in step 29 for the last time, and 90 steps are less than 50 + 50.
pub ends-on-timer : ¬ DemandThreeOf (faulty verdict_of ends_on_timer wait_bound)
unfolding computing
ends-on-timer =
    let calls = steps_from walk_then_b 4 1 120 in
    refuted-by-clearance (faulty verdict_of ends_on_timer wait_bound) (crossings 50) refl calls
    (faulty-quickly (crossings 50) refl calls refl verdict_of ends_on_timer wait_bound (λ none. ends-on-timer-keeps (site_of (crossings 50)) none))
    28
    119
    1
    2
    refl
    refl

-- A's group stays green in yellow for C, up to step 60; then the target is B, the group goes to red, and B starts in step 71.
pub chooses-again : ¬ DemandThreeOf (faulty verdict_of chooses_again wait_bound)
unfolding computing
chooses-again =
    let calls = steps_from later_b 2 1 71 in
    refuted-by-yellow (faulty verdict_of chooses_again wait_bound) (shared 0) refl calls
    (faulty-quickly (shared 0) refl calls refl verdict_of chooses_again wait_bound (λ none. chooses-again-keeps (site_of (shared 0)) none))
    59
    70
    1
    0
    0
    refl
    refl

-- The arrow stays green in early cut-off green for C, up to step 60; then the target is B, and it goes to red with no yellow, since its Y
-- steps would be over. B starts in step 101.
pub chooses-early-again : ¬ DemandThreeOf (faulty verdict_of chooses_early_again wait_bound)
unfolding computing
chooses-early-again =
    let calls = steps_from later_b 2 1 101 in
    refuted-by-yellow (faulty verdict_of chooses_early_again wait_bound) shared_arrow refl calls
    (faulty-quickly shared_arrow refl calls refl verdict_of chooses_early_again wait_bound (λ none. chooses-early-again-keeps (site_of shared_arrow) none))
    59
    100
    1
    0
    0
    refl
    refl

-- B's group is green in step 70 for the last time, and A's starts its second green in step 110: 39 steps are less than 30 + 10.
pub short-red : ¬ DemandThreeOf (faulty verdict_of (shortens AllRed) wait_bound)
unfolding computing
short-red =
    let calls = steps_from back_to_a 2 1 110 in
    refuted-by-red (faulty verdict_of (shortens AllRed) wait_bound) small refl calls
    (faulty-quickly small refl calls refl verdict_of (shortens AllRed) wait_bound (λ none. shortens-keeps (site_of small) none AllRed))
    69
    109
    0
    1
    refl
    refl

pub steps-short-red : ¬ StepDemandThreeOf (faulty verdict_of (shortens AllRed) wait_bound)
unfolding computing
steps-short-red =
    let calls = steps_from back_to_a 2 1 110 in
    steps-refuted-by-red (faulty verdict_of (shortens AllRed) wait_bound) small refl calls
    (faulty-quickly small refl calls refl verdict_of (shortens AllRed) wait_bound (λ none. shortens-keeps (site_of small) none AllRed))
    (calls_from back_to_a 2 1 110)
    refl
    69
    109
    0
    1
    refl
    refl

-- A's group is green in step 20 for the last time, and red in step 50 already, the 30th since. B starts its green in step 60.
pub short-yellow : ¬ DemandThreeOf (faulty verdict_of (shortens Yellow) wait_bound)
unfolding computing
short-yellow =
    let calls = steps_from at_once 2 1 60 in
    refuted-by-yellow (faulty verdict_of (shortens Yellow) wait_bound) small refl calls
    (faulty-quickly small refl calls refl verdict_of (shortens Yellow) wait_bound (λ none. shortens-keeps (site_of small) none Yellow))
    19
    59
    1
    0
    29
    refl
    refl

-- The crossing is green in step 20 for the last time, and red in step 23 already: the third since, and C1 + C2 is 3. B starts its green in step 62.
pub short-clearance : ¬ DemandThreeOf (faulty verdict_of shortens_clearance wait_bound)
unfolding computing
short-clearance =
    let calls = steps_from pressed_twice 4 1 62 in
    refuted-by-flashing (faulty verdict_of shortens_clearance wait_bound) small_crossings refl calls
    (faulty-quickly small_crossings refl calls refl verdict_of shortens_clearance wait_bound
    (λ none. shortens-clearance-keeps (site_of small_crossings) none))
    19
    61
    1
    2
    2
    refl
    refl

-- A's group is green in step 20 for the last time, and shows yellow in step 51, the 31st since. B starts its green in step 61.
pub yellow-for-red : ¬ DemandThreeOf (painting red yellow)
unfolding computing
yellow-for-red = refuted-by-other-than-red (painting red yellow) small refl (steps_from at_once 2 1 61) refl 19 60 1 0 30 refl refl

-- The crossing is green in step 20 for the last time, and shows flashing red in step 24, the fourth since. B starts its green in step 62.
pub flashing-for-red : ¬ DemandThreeOf (painting red flashing)
unfolding computing
flashing-for-red =
    refuted-by-other-than-stop (painting red flashing) small_crossings refl (steps_from pressed_twice 4 1 62) refl 19 61 1 2 3 refl refl

-- The group of A is green in step 60 for the last time, and Y is then 40. In step 80 the junction's times rule, whose Y is 30: the group is red from
-- step 91 on, the 31st step since, and B starts its green in step 101.
pub ruled-at-once : RulesAtOnceFails
unfolding computing RulesAtOnceFails
ruled-at-once =
    refuted-by-yellow (retiming ruled_now) slower refl retimed_in_yellow
    (retiming-quickly slower refl retimed_in_yellow refl ruled_now (ruled-now-takes (site_of slower)))
    59
    100
    1
    0
    30
    refl
    refl
