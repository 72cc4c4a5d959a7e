-- Two longer runs at crossings: the bound with A and C counted once is too small for the rules, and a controller that sets the maximum count back lets a
-- button wait too long.
use mathlib.Core.List.{map}
use mathlib.Core.Path.{refl}
use Rattle.rules.specs.Personality.{verdict_of}
use Rattle.rules.specs.Site.{site_of}
use Rattle.rules.specs.WaitBound.{wait_bound}
use Rattle.rules.specs.Runs.{step_call}
use Rattle.proof_quick_runs.proofs.QuickRuns.{rules-quickly}
use Rattle.proof_refutations.specs.Faults.{faulty, sets_back}
use Rattle.proof_refutations.specs.Refutations.{SmallBoundFails, SettingBackFails}
use Rattle.proof_refutations.proofs.Violations.{refuted-by-walk, unmet-by-button}
use Rattle.proof_refutations.proofs.Quickly.{sets-back-keeps, faulty-quickly}
use Rattle.proof_refutations.proofs.Witnesses.{calls_from, crossings, long_clearance, longest_wait, called_again, steps_from}
use Rattle.proof_refutations.proofs.Computing.{computing}

-- The press in step 31 waits for its own movement's clearances, then for the walk and clearances of the other crossing, then for B: 468
-- further steps, where the smaller bound says 420. (The bound itself says 630.)
pub small-bound : SmallBoundFails
unfolding computing SmallBoundFails
small-bound holds =
    let calls = calls_from longest_wait 4 1 451 in
    unmet-by-button (crossings 100) (rules-quickly (crossings 100) refl (map step_call calls) refl) 420 30 0 refl refl (holds (crossings 100) refl calls)

-- The crossing is pressed in step 31, in the first step of its clearances. B's call of step 30 has dropped away, and comes again when the crossing is idle
-- again, in step 330: then A goes on for its whole maximum green, and no walk begins in steps 31 to 430, as many as the wait.
pub set_back : SettingBackFails
unfolding computing SettingBackFails
set_back =
    let calls = steps_from called_again 3 1 430 in
    refuted-by-walk (faulty verdict_of sets_back wait_bound) long_clearance refl calls
    (faulty-quickly long_clearance refl calls refl verdict_of sets_back wait_bound (λ none. sets-back-keeps (site_of long_clearance) none))
    30
    0
    0
    refl
