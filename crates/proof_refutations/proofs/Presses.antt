-- Part c of demand 3, at a controller that misses a button demand: it is refuted by one list of calls on one personality.
-- The facts at which it fails are computed, once. What follows the calls are the places of steps in the list, counted from 0, and the phase,
-- movement or groups.
use mathlib.Core.Path.{refl}
use Rattle.rules.specs.Personality.{verdict_of}
use Rattle.rules.specs.Site.{site_of}
use Rattle.rules.specs.WaitBound.{wait_bound}
use Rattle.rules.specs.DemandThree.{DemandThreeOf}
use Rattle.proof_refutations.specs.Faults.{faulty, drops_presses}
use Rattle.proof_refutations.proofs.Violations.{refuted-by-button}
use Rattle.proof_refutations.proofs.Quickly.{drops-presses-keeps, faulty-quickly}
use Rattle.proof_refutations.proofs.Witnesses.{small_crossings, pressed_twice, steps_from}
use Rattle.proof_refutations.proofs.Computing.{computing}

-- The press in step 22 is dropped; the bound is 236, and the walk does not begin in 236 further steps. That of the other crossing does.
pub drops-presses : ¬ DemandThreeOf (faulty verdict_of drops_presses wait_bound)
unfolding computing
drops-presses =
    let calls = steps_from pressed_twice 4 1 258 in
    refuted-by-button (faulty verdict_of drops_presses wait_bound) small_crossings refl calls
    (faulty-quickly small_crossings refl calls refl verdict_of drops_presses wait_bound (λ none. drops-presses-keeps (site_of small_crossings) none))
    21
    0
    refl
    refl
