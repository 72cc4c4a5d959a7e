-- Part c of demand 3, at controllers that stand in start red: each is refuted by one list of calls on one personality.
-- The facts at which it fails are computed, once. What follows the calls are the places of steps in the list, counted from 0, and the phase,
-- movement or groups.
use Prim.Native.Nat.{◌+◌}
use mathlib.Core.Path.{refl}
use Rattle.rules.specs.Personality.{verdict_of}
use Rattle.rules.specs.Site.{site_of}
use Rattle.rules.specs.WaitBound.{wait_bound}
use Rattle.rules.specs.DemandThree.{DemandThreeOf}
use Rattle.rules.specs.StepDemandThree.{StepDemandThreeOf}
use Rattle.proof_refutations.specs.Faults.{faulty, ages_only, never_alters, dawdles}
use Rattle.proof_refutations.proofs.Violations.{refuted-by-lock, steps-refuted-by-lock}
use Rattle.proof_refutations.proofs.Quickly.{ages-only-keeps, never-alters-keeps, dawdles-keeps, faulty-quickly}
use Rattle.proof_refutations.proofs.Witnesses.{calls_from, small, at_once, first_step, steps_from}
use Rattle.proof_refutations.proofs.Computing.{computing}

-- B's detector in the first step: the bound is 210, and B does not start in 210 further steps.
pub ages-only : ¬ DemandThreeOf (faulty verdict_of ages_only wait_bound)
unfolding computing
ages-only =
    let calls = steps_from at_once 2 1 211 in
    refuted-by-lock (faulty verdict_of ages_only wait_bound) small refl calls
    (faulty-quickly small refl calls refl verdict_of ages_only wait_bound (λ none. ages-only-keeps (site_of small) none))
    0
    1
    refl

pub never-alters : ¬ DemandThreeOf (faulty verdict_of never_alters wait_bound)
unfolding computing
never-alters =
    let calls = steps_from at_once 2 1 211 in
    refuted-by-lock (faulty verdict_of never_alters wait_bound) small refl calls
    (faulty-quickly small refl calls refl verdict_of never_alters wait_bound (λ none. never-alters-keeps (site_of small) none))
    0
    1
    refl

-- A's detector in the first step: A starts in step 212, so after 211 further steps.
pub one-step-late : ¬ DemandThreeOf (faulty verdict_of (dawdles (λ site. wait_bound site + 1)) wait_bound)
unfolding computing
one-step-late =
    let calls = steps_from (first_step 1) 2 1 211 in
    refuted-by-lock (faulty verdict_of (dawdles (λ site. wait_bound site + 1)) wait_bound) small refl calls
    (faulty-quickly small refl calls refl verdict_of (dawdles (λ site. wait_bound site + 1)) wait_bound (λ none. dawdles-keeps (site_of small) none (λ site. wait_bound site + 1)))
    0
    0
    refl

pub steps-one-step-late : ¬ StepDemandThreeOf (faulty verdict_of (dawdles (λ site. wait_bound site + 1)) wait_bound)
unfolding computing
steps-one-step-late =
    let calls = steps_from (first_step 1) 2 1 211 in
    steps-refuted-by-lock (faulty verdict_of (dawdles (λ site. wait_bound site + 1)) wait_bound) small refl calls
    (faulty-quickly small refl calls refl verdict_of (dawdles (λ site. wait_bound site + 1)) wait_bound
    (λ none. dawdles-keeps (site_of small) none (λ site. wait_bound site + 1)))
    (calls_from (first_step 1) 2 1 211)
    refl
    0
    0
    refl
