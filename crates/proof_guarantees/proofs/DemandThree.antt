-- Demand 3 over lists of step and retiming calls. An accepted personality gives a sound site, and the accepted steps of every such list from the
-- fresh state are linked; parts a, b and c hold of them. Part d is about the calls themselves.
use Rattle.rules.specs.Site.{site_of}
use Rattle.rules.specs.Timed.{fresh_timed}
use Rattle.rules.specs.Laws.{AcceptedIsSound}
use Rattle.rules.specs.TimedLaws.{FreshIsValid}
use Rattle.rules.specs.Runs.{by_rules, taken_from, accepted_steps}
use Rattle.rules.specs.DemandThree.{DemandThreeOf, DemandThree, RunsHaveNoConflictingGreens, RunsHaveFullClearances, RunsMeetDemands, RunsHaveNoDeadEnd}
use Rattle.rules.specs.PhaseWaits.{EveryWaitMet, EveryWaitMetOf, EveryWaitWithinSum}
use Rattle.proof_acceptance.proofs.Acceptance.{accepted-is-sound}
use Rattle.proof_timed.proofs.Runs.{timed-run}
use Rattle.proof_timed.proofs.Greens.{timed-greens}
use Rattle.proof_timed.proofs.Clearances.{timed-clearances}
use Rattle.proof_timed.proofs.Demands.{timed-demands-met}
use Rattle.proof_guarantees.proofs.PhaseWaits.{every-wait-met, every-wait-within-sum}
use Rattle.proof_guarantees.proofs.Accepted.{fresh-is-valid}
use Rattle.proof_guarantees.proofs.DeadEnds.{no-dead-end}

pub runs-have-no-conflicting-greens : RunsHaveNoConflictingGreens
unfolding RunsHaveNoConflictingGreens by_rules AcceptedIsSound
runs-have-no-conflicting-greens b known calls =
    let s = fresh_timed (site_of b) in
    timed-greens (site_of b) s.core s.ruling (accepted_steps (taken_from by_rules b s calls)) (timed-run b (accepted-is-sound b known) calls s)

pub runs-have-full-clearances : RunsHaveFullClearances
unfolding RunsHaveFullClearances by_rules AcceptedIsSound
runs-have-full-clearances b known calls =
    let s = fresh_timed (site_of b) in
    timed-clearances (site_of b) s.core s.ruling (accepted_steps (taken_from by_rules b s calls)) (timed-run b (accepted-is-sound b known) calls s)

pub runs-meet-demands : RunsMeetDemands
unfolding RunsMeetDemands EveryWaitMet EveryWaitMetOf EveryWaitWithinSum by_rules AcceptedIsSound
runs-meet-demands b known calls =
    timed-demands-met (site_of b) (accepted-is-sound b known) (accepted_steps (taken_from by_rules b (fresh_timed (site_of b)) calls)) (every-wait-met b known calls)
    (every-wait-within-sum b known calls)

pub runs-have-no-dead-end : RunsHaveNoDeadEnd
unfolding RunsHaveNoDeadEnd by_rules FreshIsValid
runs-have-no-dead-end b known calls = no-dead-end b known calls (fresh_timed (site_of b)) (fresh-is-valid b known)

pub demand-three : DemandThree
unfolding DemandThree DemandThreeOf RunsHaveNoConflictingGreens RunsHaveFullClearances RunsMeetDemands RunsHaveNoDeadEnd
demand-three b known calls =
    record {
      no_conflicting_greens = runs-have-no-conflicting-greens b known calls;
      full_clearances = runs-have-full-clearances b known calls;
      demands_met = runs-meet-demands b known calls;
      no_dead_end = runs-have-no-dead-end b known calls;
    }
