-- Part d of demand 3: each controller that breaks it is refuted by one list of calls on one personality.
-- What a call answers and what it must answer are computed, once. What follows the calls is the place of the call in the list, counted from 0.
use mathlib.Core.List.{[], ◌∷◌}
use mathlib.Core.Path.{refl}
use Rattle.rules.specs.Personality.{verdict_of}
use Rattle.rules.specs.WaitBound.{wait_bound}
use Rattle.rules.specs.Junctions.{put_two, junction}
use Rattle.rules.specs.Runs.{retime_call}
use Rattle.rules.specs.DemandThree.{DemandThreeOf}
use Rattle.rules.specs.StepDemandThree.{StepDemandThreeOf}
use Rattle.proof_refutations.specs.Faults.{scanned, faulty, leaves_the_site, invented_bound, small_bound, answering, mistells, own_bound}
use Rattle.proof_refutations.proofs.Violations.{refuted-by-refusal, refuted-by-bound, refuted-by-number, steps-refuted-by-bound}
use Rattle.proof_refutations.proofs.Witnesses.{calls_from, shortest, small, crossings, at_once, walk_then_b, steps_from, retimed_first, short_buffer}
use Rattle.proof_refutations.proofs.Computing.{computing}

-- The second call is refused with 13.
pub leaves-the-site : ¬ DemandThreeOf (faulty verdict_of leaves_the_site wait_bound)
unfolding computing
leaves-the-site = refuted-by-refusal (faulty verdict_of leaves_the_site wait_bound) junction refl (steps_from at_once 2 1 2) refl 1 13 0 270 refl

-- The first call at the junction reports 600 steps, not 270.
pub reports-invented : ¬ DemandThreeOf (faulty verdict_of scanned invented_bound)
unfolding computing
reports-invented = refuted-by-bound (faulty verdict_of scanned invented_bound) junction refl (steps_from at_once 2 1 1) refl 0 600 270 refl refl

-- The first call reports 420 steps, not 630.
pub reports-small : ¬ DemandThreeOf (faulty verdict_of scanned small_bound)
unfolding computing
reports-small = refuted-by-bound (faulty verdict_of scanned small_bound) (crossings 100) refl (steps_from walk_then_b 4 1 1) refl 0 420 630 refl refl

pub steps-report-invented : ¬ StepDemandThreeOf (faulty verdict_of scanned invented_bound)
unfolding computing
steps-report-invented =
    steps-refuted-by-bound (faulty verdict_of scanned invented_bound) junction refl (steps_from at_once 2 1 1) refl (calls_from at_once 2 1 1) refl _ [] 600 270
    refl
    refl
    refl
    refl

-- Times with a wait bound of 211 rule from step 10 on, the tenth call after the retiming. It reports 210.
pub reports-own : ¬ DemandThreeOf (answering own_bound (λ verdict. verdict))
unfolding computing
reports-own = refuted-by-bound (answering own_bound (λ verdict. verdict)) small refl retimed_first refl 10 210 211 refl refl

-- Detector 2 is not one of the site, and the buffer is too short: the first of the two counts.
pub stray-number : ¬ DemandThreeOf (mistells 15 14 0)
unfolding computing
stray-number = refuted-by-number (mistells 15 14 0) small refl (short_buffer 4) refl 0 14 0 15 0 refl refl

pub stray-place : ¬ DemandThreeOf (mistells 15 15 1)
unfolding computing
stray-place = refuted-by-number (mistells 15 15 1) small refl (short_buffer 4) refl 0 15 1 15 0 refl refl

-- The buffer is one byte too short.
pub buffer-number : ¬ DemandThreeOf (mistells 14 15 0)
unfolding computing
buffer-number = refuted-by-number (mistells 14 15 0) small refl (short_buffer 2) refl 0 15 0 14 0 refl refl

pub buffer-place : ¬ DemandThreeOf (mistells 14 14 1)
unfolding computing
buffer-place = refuted-by-number (mistells 14 14 1) small refl (short_buffer 2) refl 0 14 1 14 0 refl refl

-- L of A is out of range, and B's detector has another mode: the first of the two counts.
pub read_number : ¬ DemandThreeOf (mistells 5 26 0)
unfolding computing
read_number = refuted-by-number (mistells 5 26 0) small refl (retime_call (put_two (shortest 2 6) 12 300) ∷ []) refl 0 26 0 5 12 refl refl

-- B's detector has another mode.
pub elsewhere-number : ¬ DemandThreeOf (mistells 26 13 0)
unfolding computing
elsewhere-number = refuted-by-number (mistells 26 13 0) small refl (retime_call (shortest 2 6) ∷ []) refl 0 13 0 26 0 refl refl

pub elsewhere-place : ¬ DemandThreeOf (mistells 26 26 1)
unfolding computing
elsewhere-place = refuted-by-number (mistells 26 26 1) small refl (retime_call (shortest 2 6) ∷ []) refl 0 26 1 26 0 refl refl
