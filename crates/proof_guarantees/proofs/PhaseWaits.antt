-- A wait for every approach and every crossing, over lists of step and retiming calls: every demand is met within the wait of its phase or movement,
-- and the waits are at most the paper's bound.
use Rattle.rules.specs.Site.{site_of}
use Rattle.rules.specs.Timed.{fresh_timed}
use Rattle.rules.specs.Laws.{AcceptedIsSound}
use Rattle.rules.specs.Runs.{by_rules, taken_from, accepted_steps}
use Rattle.rules.specs.PhaseWaits.{EveryWaitMetOf, EveryWaitMet, EveryPlainWaitMetOf, EveryPlainWaitMet, PhaseIsTold, WaitsWithinBound, EveryWaitWithinSum}
use Rattle.proof_acceptance.proofs.Acceptance.{accepted-is-sound}
use Rattle.proof_waits.proofs.WithinBound.{phase-wait-within, movement-wait-within, phase-of-movement}
use Rattle.proof_timed.proofs.Runs.{timed-run}
use Rattle.proof_timed.proofs.TurnsAcross.{kept_fresh}
use Rattle.proof_timed.proofs.PhaseWaits.{waits-met}
use Rattle.proof_timed.proofs.WaitSums.{waits-within-sum, plain-waits-met}

pub every-wait-met : EveryWaitMet
unfolding EveryWaitMet EveryWaitMetOf by_rules AcceptedIsSound
every-wait-met b known calls =
    let s = fresh_timed (site_of b) in
    let sound = accepted-is-sound b known in
    waits-met (site_of b) sound s.core s.ruling (accepted_steps (taken_from by_rules b s calls)) (kept_fresh (site_of b)) (timed-run b sound calls s)

pub every-plain-wait-met : EveryPlainWaitMet
unfolding EveryPlainWaitMet EveryPlainWaitMetOf EveryWaitMet EveryWaitMetOf by_rules AcceptedIsSound
every-plain-wait-met b known calls =
    let s = fresh_timed (site_of b) in
    plain-waits-met (site_of b) s.core s.ruling (accepted_steps (taken_from by_rules b s calls)) (timed-run b (accepted-is-sound b known) calls s)
    (every-wait-met b known calls)

pub waits-within-bound : WaitsWithinBound
unfolding WaitsWithinBound AcceptedIsSound
waits-within-bound b known q below =
    let sound = accepted-is-sound b known in
    (phase-wait-within (site_of b) sound q below, movement-wait-within (site_of b) sound q below)

pub every-wait-within-sum : EveryWaitWithinSum
unfolding EveryWaitWithinSum by_rules AcceptedIsSound
every-wait-within-sum b known calls =
    let s = fresh_timed (site_of b) in
    waits-within-sum (site_of b) s.core s.ruling (accepted_steps (taken_from by_rules b s calls)) (timed-run b (accepted-is-sound b known) calls s)

pub phase-is-told : PhaseIsTold
unfolding PhaseIsTold AcceptedIsSound
phase-is-told b known q m exists crossing = phase-of-movement (site_of b) (accepted-is-sound b known) q m exists crossing
