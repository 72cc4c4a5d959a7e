-- The waits: each controller that breaks one is refuted by one list of calls on one personality.
-- The facts at which it fails are computed, once. What follows the calls are the places of steps in the list, counted from 0, and the phase,
-- movement or groups.
use Prim.Native.Nat.{◌^◌}
use mathlib.Core.Path.{refl}
use Rattle.rules.specs.Personality.{verdict_of}
use Rattle.rules.specs.Site.{site_of}
use Rattle.rules.specs.WaitBound.{wait_bound}
use Rattle.rules.specs.Waits.{phase_wait}
use Rattle.rules.specs.PhaseWaits.{EveryPlainWaitMetOf, EveryWaitMetOf}
use Rattle.proof_refutations.specs.Faults.{faulty, never_alters, dawdles, stays_late, only_retimes}
use Rattle.proof_refutations.specs.Refutations.{WaitsBroken}
use Rattle.proof_refutations.proofs.Violations.{refuted-by-late-lock, refuted-by-call, refuted-through-changes, refuted-by-walk-through}
use Rattle.proof_refutations.proofs.Quickly.{never-alters-keeps, dawdles-keeps, stays-late-keeps, only-retimes-keeps, faulty-quickly}
use Rattle.proof_refutations.proofs.Witnesses.{small, small_late, small_crossings, first_step, until_ten, steps_from, retimed_once}
use Rattle.proof_refutations.proofs.Computing.{computing}

-- The wait of A is 100. Its detector in the first step: A starts in step 101.
late-lock : ¬ EveryPlainWaitMetOf (faulty verdict_of (dawdles (λ site. phase_wait site 0)) wait_bound)
unfolding computing
late-lock =
    let calls = steps_from (first_step 1) 2 1 100 in
    refuted-by-late-lock (faulty verdict_of (dawdles (λ site. phase_wait site 0)) wait_bound) small refl calls
    (faulty-quickly small refl calls refl verdict_of (dawdles (λ site. phase_wait site 0)) wait_bound
    (λ none. dawdles-keeps (site_of small) none (λ site. phase_wait site 0)))
    0
    0
    refl

-- A's detector, which calls without lock, is occupied until A starts, in step 10, with a late start. The wait of A is 105.
stays-late : ¬ EveryPlainWaitMetOf (faulty verdict_of stays_late wait_bound)
unfolding computing
stays-late =
    let calls = steps_from until_ten 2 1 105 in
    refuted-by-call (faulty verdict_of stays_late wait_bound) small_late refl calls
    (faulty-quickly small_late refl calls refl verdict_of stays_late wait_bound (λ none. stays-late-keeps (site_of small_late) none))
    0
    0
    refl

-- B's detector in the first step. From step 2 on A has a turn of 70, and B a late start of 5: with the 40 in which A may be left they are 115.
through-a-change : ¬ EveryWaitMetOf (faulty verdict_of only_retimes wait_bound)
unfolding computing
through-a-change =
    refuted-through-changes (faulty verdict_of only_retimes wait_bound) small refl retimed_once
    (faulty-quickly small refl retimed_once refl verdict_of only_retimes wait_bound (λ none. only-retimes-keeps (site_of small) none))
    0
    1
    refl

-- The first crossing is pressed in step 1, and its wait is 122.
never-walks : ¬ EveryWaitMetOf (faulty verdict_of never_alters wait_bound)
unfolding computing
never-walks =
    let calls = steps_from (first_step (2 ^ 48)) 4 1 122 in
    refuted-by-walk-through (faulty verdict_of never_alters wait_bound) small_crossings refl calls
    (faulty-quickly small_crossings refl calls refl verdict_of never_alters wait_bound (λ none. never-alters-keeps (site_of small_crossings) none))
    0
    0
    0
    refl

pub waits : WaitsBroken
waits = record { one_step_late = late-lock; stays_late = stays-late; only_retimes = through-a-change; never_alters = never-walks }
