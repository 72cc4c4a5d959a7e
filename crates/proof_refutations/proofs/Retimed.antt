-- Part c of demand 3 through two changes of times: the controller is refuted by one list of calls on one personality.
-- The facts at which it fails are computed, once. What follows the calls are the places of steps in the list, counted from 0, and the phase,
-- movement or groups.
use mathlib.Core.Path.{refl}
use Rattle.rules.specs.Personality.{verdict_of}
use Rattle.rules.specs.Site.{site_of}
use Rattle.rules.specs.WaitBound.{wait_bound}
use Rattle.rules.specs.DemandThree.{DemandThreeOf}
use Rattle.proof_refutations.specs.Faults.{faulty, only_retimes}
use Rattle.proof_refutations.proofs.Violations.{refuted-by-lock}
use Rattle.proof_refutations.proofs.Quickly.{only-retimes-keeps, faulty-quickly}
use Rattle.proof_refutations.proofs.Witnesses.{small, retimed_twice}
use Rattle.proof_refutations.proofs.Computing.{computing}

-- B's detector in the first step; times change in the second and in the third. The three bounds are 210, 211 and 212, and B does not start in as many
-- further steps as they are together.
pub only-retimes : ¬ DemandThreeOf (faulty verdict_of only_retimes wait_bound)
unfolding computing
only-retimes =
    refuted-by-lock (faulty verdict_of only_retimes wait_bound) small refl retimed_twice
    (faulty-quickly small refl retimed_twice refl verdict_of only_retimes wait_bound (λ none. only-retimes-keeps (site_of small) none))
    0
    1
    refl
