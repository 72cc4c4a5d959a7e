-- What holds of the states of every sound site, said of accepted personalities.
use mathlib.Core.Bool.{not}
use Rattle.rules.specs.Verdicts.{◌or_else◌, refuse_if}
use Rattle.rules.specs.Personality.{verdict_of}
use Rattle.rules.specs.Site.{site_of, times_in}
use Rattle.rules.specs.Kept.{kept_stepped}
use Rattle.rules.specs.Timed.{ruled_site, waiting_valid, timed_valid, ruling_next, timed_stepped}
use Rattle.rules.specs.Demands.{detected, registers_lock, calls, locks_after, demands_after, demanded}
use Rattle.rules.specs.Call.{wired, stray_input}
use Rattle.rules.specs.TimedCall.{differs_elsewhere, retime_checks_by, retimed}
use Rattle.rules.specs.Laws.{AcceptedIsSound, PhasesCanBeCalled}
use Rattle.rules.specs.TimedLaws.{ChangeIsStep, ReadyIsValid, OtherwisePlain, TakesOverAtStart, FreshIsValid, StepKeepsValid, RetimeKeepsValid, StepForgets, AcceptedIsAdmitted, RetimedIsAdmitted}
use Rattle.rules.proofs.Verdicts.{or-first, or_later, refuse-passed}
use Rattle.proof_acceptance.proofs.Acceptance.{accepted-is-sound}
use Rattle.proof_change.proofs.Timed.{timed-told, timed-holds, old-sound, core-valid, fresh-timed-valid, change-step, ready-timed, timed-stepped-valid, timed-forgets, over-at-start}
use Rattle.proof_validity.proofs.Callers.{phase-called}
use Rattle.proof_time_bytes.proofs.Elsewhere.{accepted-is-admitted, retimed-is-admitted}

-- ── A change is a step under the new times ──

pub change-is-step : ChangeIsStep
unfolding ChangeIsStep AcceptedIsSound timed_stepped ruling_next
change-is-step b known s v over inputs = rw over (change-step (site_of b) (accepted-is-sound b known) s v over inputs)

pub ready-is-valid : ReadyIsValid
unfolding ReadyIsValid AcceptedIsSound
ready-is-valid b known s v = ready-timed (site_of b) (accepted-is-sound b known) s v

pub otherwise-plain : OtherwisePlain
unfolding OtherwisePlain timed_stepped ruling_next kept_stepped
otherwise-plain b known s v still inputs = rw still

pub takes-over-at-start : TakesOverAtStart
unfolding TakesOverAtStart AcceptedIsSound
takes-over-at-start b known s v = over-at-start (site_of b) (accepted-is-sound b known) s v

-- ── Valid states ──

pub fresh-is-valid : FreshIsValid
unfolding FreshIsValid AcceptedIsSound AcceptedIsAdmitted
fresh-is-valid b known = fresh-timed-valid (site_of b) (accepted-is-sound b known) (accepted-is-admitted b known)

pub step-keeps-valid : StepKeepsValid
unfolding StepKeepsValid AcceptedIsSound
step-keeps-valid b known s v = timed-stepped-valid (site_of b) (accepted-is-sound b known) s v

pub retime-keeps-valid : RetimeKeepsValid
unfolding RetimeKeepsValid RetimedIsAdmitted retime_checks_by retimed waiting_valid
retime-keeps-valid b known s v new e =
    let valid = refuse_if (not (timed_valid (site_of b) s)) 13 0 in
    let last = refuse_if (differs_elsewhere b new) 26 0 in
    let later = or_later valid (verdict_of new or_else last) (or_later (verdict_of b) (valid or_else verdict_of new or_else last) e) in
    let fine = retimed-is-admitted b new (or-first (verdict_of new) last later) (refuse-passed (differs_elsewhere b new) 26 0 (or_later (verdict_of new) last later)) in
    let told = timed-told (site_of b) s v in
    timed-holds (site_of b) (retimed s (times_in new)) (record { ruling = told.ruling; waiting = fine.0; rest = told.rest })

-- ── Callers ──

pub phases-can-be-called : PhasesCanBeCalled
unfolding PhasesCanBeCalled AcceptedIsSound stray_input wired demanded demands_after calls locks_after detected registers_lock
phases-can-be-called b known s v =
    let site = ruled_site (site_of b) s in
    phase-called site (old-sound (site_of b) (accepted-is-sound b known) s v) s.core (core-valid (site_of b) (accepted-is-sound b known) s v)

-- ── Forgetting the kept set ──

pub step-forgets : StepForgets
unfolding StepForgets AcceptedIsSound
step-forgets b known s v = timed-forgets (site_of b) (accepted-is-sound b known) s v
