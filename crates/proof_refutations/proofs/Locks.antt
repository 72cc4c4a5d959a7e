-- Part c of demand 3, at controllers that miss a locked demand: each is refuted by one list of calls on one personality.
-- The facts at which it fails are computed, once. What follows the calls are the places of steps in the list, counted from 0, and the phase,
-- movement or groups.
use mathlib.Core.Path.{refl}
use Rattle.rules.specs.Personality.{verdict_of}
use Rattle.rules.specs.Site.{site_of}
use Rattle.rules.specs.WaitBound.{wait_bound}
use Rattle.rules.specs.DemandThree.{DemandThreeOf}
use Rattle.rules.specs.Scanning.{stepped_finding, finding}
use Rattle.proof_quick_runs.proofs.QuickRuns.{finding-keeps}
use Rattle.proof_refutations.specs.Faults.{faulty, registers_none, drops_locks, unread}
use Rattle.proof_refutations.proofs.Violations.{refuted-by-lock}
use Rattle.proof_refutations.proofs.Quickly.{registers-none-keeps, drops-locks-keeps, faulty-quickly}
use Rattle.proof_refutations.proofs.Witnesses.{small, at_once, back_to_a, steps_from}
use Rattle.proof_refutations.proofs.Computing.{computing}

pub registers-none : ¬ DemandThreeOf (faulty verdict_of registers_none wait_bound)
unfolding computing
registers-none =
    let calls = steps_from at_once 2 1 211 in
    refuted-by-lock (faulty verdict_of registers_none wait_bound) small refl calls
    (faulty-quickly small refl calls refl verdict_of registers_none wait_bound (λ none. registers-none-keeps (site_of small) none))
    0
    1
    refl

pub unread-fails : ¬ DemandThreeOf (finding unread)
unfolding computing
unread-fails =
    let calls = steps_from at_once 2 1 211 in
    refuted-by-lock (finding unread) small refl calls
    (faulty-quickly small refl calls refl verdict_of (stepped_finding unread) wait_bound (λ none. finding-keeps (site_of small) none unread))
    0
    1
    refl

-- A's detector in step 30 is not seen, since A is being left.
pub drops-locks : ¬ DemandThreeOf (faulty verdict_of drops_locks wait_bound)
unfolding computing
drops-locks =
    let calls = steps_from back_to_a 2 1 240 in
    refuted-by-lock (faulty verdict_of drops_locks wait_bound) small refl calls
    (faulty-quickly small refl calls refl verdict_of drops_locks wait_bound (λ none. drops-locks-keeps (site_of small) none))
    29
    0
    refl
