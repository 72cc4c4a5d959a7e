-- Once each: each controller under which a phase starts twice while a demand waits is refuted by one list of calls on one personality.
-- The facts at which it fails are computed, once. What follows the calls are the places of steps in the list, counted from 0, and the phase,
-- movement or groups.
use Prim.Native.Nat.{◌+◌, ◌^◌}
use mathlib.Core.Path.{refl}
use Rattle.rules.specs.Personality.{verdict_of}
use Rattle.rules.specs.Site.{site_of}
use Rattle.rules.specs.WaitBound.{wait_bound}
use Rattle.rules.specs.OnceEach.{OnceEachOf}
use Rattle.rules.specs.Scanning.{stepped_finding, finding}
use Rattle.proof_quick_runs.proofs.QuickRuns.{finding-keeps}
use Rattle.proof_refutations.specs.Faults.{faulty, forgets_walk, from_the_beginning, goes_back}
use Rattle.proof_refutations.specs.Refutations.{StartsTwice}
use Rattle.proof_refutations.proofs.Violations.{refuted-by-start, refuted-by-other, refuted-by-many, refuted-by-pressed-start}
use Rattle.proof_refutations.proofs.Quickly.{forgets-walk-keeps, faulty-quickly}
use Rattle.proof_refutations.proofs.Witnesses.{small_crossings, three_and_crossing, then_a, first_step, steps_from}
use Rattle.proof_refutations.proofs.Computing.{computing}

-- The first crossing waits from step 1 on. A starts in step 10 without it, B in step 61, and A again in step 112, where the walk begins.
forgets-walk : ¬ OnceEachOf (faulty verdict_of forgets_walk wait_bound)
unfolding computing
forgets-walk =
    let calls = steps_from (first_step (1 + 2 ^ 48)) 4 1 112 in
    refuted-by-pressed-start (faulty verdict_of forgets_walk wait_bound) small_crossings refl calls
    (faulty-quickly small_crossings refl calls refl verdict_of forgets_walk wait_bound (λ none. forgets-walk-keeps (site_of small_crossings) none))
    0
    0
    0
    0
    refl

-- C and its crossing wait from step 1 on. A starts in step 10, B in step 62, and A again in step 113.
pub twice-started : StartsTwice
unfolding computing
twice-started =
    let calls = steps_from then_a 4 1 113 in
    let same =
    faulty-quickly three_and_crossing refl calls refl verdict_of (stepped_finding from_the_beginning) wait_bound
    (λ none. finding-keeps (site_of three_and_crossing) none from_the_beginning) in
    record {
      others_twice = refuted-by-other (finding from_the_beginning) three_and_crossing refl calls same 0 2 0 refl;
      many_others = refuted-by-many (finding from_the_beginning) three_and_crossing refl calls same 0 2 0 refl;
      from_the_beginning = refuted-by-start (finding from_the_beginning) three_and_crossing refl calls same 0 2 0 refl;
      goes_back =
          refuted-by-pressed-start (finding goes_back) three_and_crossing refl calls
          (faulty-quickly three_and_crossing refl calls refl verdict_of (stepped_finding goes_back) wait_bound
          (λ none. finding-keeps (site_of three_and_crossing) none goes_back))
          0
          0
          2
          0
          refl;
      forgets_walk = forgets-walk;
    }
