-- States that fit the machine's types. The numbers of a valid state of a sound site are within the table of limits or below the counts, and a step
-- makes its sets and its row of movements anew, at their sizes. The times of a state are those of before, those of a personality, or none.
use Prim.Native.Nat.{ℕ, ◌≤◌, ◌<◌}
use mathlib.Core.Bool.{Bool, true, false, not, ◌&&◌}
use mathlib.Core.List.{List}
use mathlib.Core.Path.{◌≡◌, refl}
use native.Mathlib.Omega.{arith}
use borrow.Author.Tests.{ltb-true}
use lib.Dec.{ltb, eqb}
use lib.ListN.{length}
use Rattle.rules.specs.Verdicts.{Accepted}
use Rattle.rules.specs.declared.site.Site.{Site}
use Rattle.rules.specs.declared.state.KeptState.{KeptState}
use Rattle.std.specs.Prelude.{if◌then◌else◌, Option, Some, None}
use Rattle.rules.specs.Verdicts.{◌or_else◌, refuse_if}
use Rattle.rules.specs.Personality.{verdict_of}
use Rattle.rules.specs.Site.{times_in, site_of}
use Rattle.rules.specs.IntervalTable.{is_leaving, phase_held}
use Rattle.rules.specs.State.{fresh, movement, target_valid, previous_valid, valid}
use Rattle.rules.specs.Step.{stepped_into}
use Rattle.rules.specs.Kept.{fresh_kept, kept_valid}
use Rattle.rules.specs.Timed.{TimedState, kept_of, ruled_site, none_waiting, fresh_timed, timed_valid, takes_over, ruling_next, timed_stepped}
use Rattle.rules.specs.Interval.{locks_left}
use Rattle.rules.specs.Walks.{walks_begun, buttons_left}
use Rattle.rules.specs.TimedCall.{differs_elsewhere, retime_checks_by, retime_verdict, retimed}
use Rattle.rules.specs.Laws.{Sound, AcceptedIsSound}
use Rattle.rules.specs.TimedLaws.{FreshIsValid, StepKeepsValid, RetimeKeepsValid}
use Rattle.laws.proofs.Booleans.{and_left, and_right}
use Rattle.laws.proofs.Lists.{list_length}
use Rattle.laws.proofs.ByteSets.{set-small}
use Rattle.rules.proofs.Settings.{phase-timed}
use Rattle.rules.proofs.Verdicts.{or-first}
use Rattle.state_bytes.specs.Layout.{position as position_form, counts as counts_form, demands as demands_form, movements as movements_form, state as state_form}
use Rattle.state_times.specs.TimesLayout.{times as times_form}
use Rattle.state_timed.specs.TimedLayout.{waiting as waiting_form, ProperTimed}
use Rattle.proof_runs.proofs.ValidStates.{state-told}
use Rattle.proof_acceptance.proofs.Acceptance.{accepted-is-sound}
use Rattle.proof_change.proofs.Admitted.{admitted-is-sound}
use Rattle.proof_change.proofs.Timed.{timed-told, waiting-admitted}
use Rattle.proof_guarantees.proofs.Accepted.{fresh-is-valid, step-keeps-valid, retime-keeps-valid}
use Rattle.proof_board.proofs.ProperTimes.{none-fit, read-fit}
use Rattle.proof_board.specs.ProperStates.{FreshTimedIsProper, TimedStepIsProper, RetimeIsProper}

-- ── A state without its times ──

target_below :
    (count phase : ℕ) (leaving : Bool) (target : Option ℕ) →
    target_valid count phase leaving target ≡ true →
    1 ≤ count →
    phase_held target < count
unfolding target_valid phase_held
target_below count phase leaving None h some = some
target_below count phase leaving (Some t) h some =
    ltb-true t count (and_right leaving (ltb t count) (and_left (leaving && ltb t count) (not (eqb t phase)) h))

came-below : (count : ℕ) (previous : Option ℕ) → previous_valid count previous ≡ true → 1 ≤ count → phase_held previous < count
unfolding previous_valid phase_held
came-below count None h some = some
came-below count (Some q) h some = ltb-true q count h

-- a valid state fits, if its sets are bytes and its row of movements has its length
kept-fits :
    (site : Site) → Sound site →
    (s : KeptState) →
    kept_valid site s ≡ true →
    s.core.demands.locks < 256 →
    s.core.demands.buttons < 256 →
    length s.core.movements ≡ 8 →
    s.kept < 256 →
    state_form.fits s
unfolding movement kept_valid
kept-fits site sound s valid_state locks buttons movements kept =
    let told = state-told site s.core (and_left (valid site s.core) _ valid_state) in
    let place = s.core.position in
    let count = sound.phases in
    let times = phase-timed site sound place.phase told.phase in
    let previous = came-below site.size.phases place.previous told.previous (omega arith) in
    let target = target_below site.size.phases place.phase (is_leaving place.interval) place.target told.target (omega arith) in
    let position : position_form.fits place =
    ((((omega (arith, told.phase), record {}), omega (arith, told.age)), omega (arith, previous)), omega (arith, target)) in
    let counts : counts_form.fits s.core.counts = (omega (arith, told.gap, times.gap), omega (arith, told.maximum, times.maximum.1)) in
    let demands : demands_form.fits s.core.demands = (locks, buttons) in
    let records : movements_form.fits s.core.movements = (movements, λ k below. (record {}, omega (arith, (told.movements k below).age))) in
    ((((position, counts), demands), records), kept)

-- ── Timed states ──

pub fresh-timed-is-proper : FreshTimedIsProper
unfolding FreshTimedIsProper ProperTimed FreshIsValid AcceptedIsSound fresh_timed fresh_kept fresh site_of
fresh-timed-is-proper b known =
    let site = site_of b in
    let sound = accepted-is-sound b known in
    let told = timed-told site (fresh_timed site) (fresh-is-valid b known) in
    let core = kept-fits site sound fresh_kept told.rest (omega arith) (omega arith) refl (omega arith) in
    ((core, read-fit site sound b known told.ruling), none-fit)

module _ (s : TimedState) (proper : ProperTimed s) where
  ruling-fits : (t : Bool) → times_form.fits (if t then s.waiting.times else s.ruling)
  unfolding ProperTimed
  ruling-fits true = proper.1.1
  ruling-fits false = proper.0.1

  waiting-fits : (t : Bool) → waiting_form.fits (if t then none_waiting else s.waiting)
  unfolding ProperTimed
  waiting-fits true = none-fit
  waiting-fits false = proper.1

pub timed-step-is-proper : TimedStepIsProper
unfolding TimedStepIsProper ProperTimed StepKeepsValid AcceptedIsSound timed_stepped ruling_next stepped_into locks_left walks_begun buttons_left
timed-step-is-proper b known s valid_state proper inputs wired =
    let site = site_of b in
    let next = timed_stepped site s inputs in
    let told = timed-told site next (step-keeps-valid b known s valid_state inputs wired) in
    let sound = admitted-is-sound site next.ruling (accepted-is-sound b known) told.ruling in (
      (
        kept-fits (ruled_site site next) sound (kept_of next) told.rest (set-small _) (set-small _) (list_length _ 8) (set-small _),
        ruling-fits s proper (takes_over site s),
      ),
      waiting-fits s proper (takes_over site s),
    )

module _ (b : List ℕ) (known : verdict_of b ≡ Accepted) (s : TimedState) (valid_state : timed_valid (site_of b) s ≡ true) where
  -- an accepted retiming call has an accepted new personality
  new-read : (new : List ℕ) → retime_verdict b s new ≡ Accepted → verdict_of new ≡ Accepted
  unfolding retime_checks_by refuse_if ◌or_else◌
  new-read new e = or-first (verdict_of new) (refuse_if (differs_elsewhere b new) 26 0) (rw (known, valid_state) at e)

pub retime-is-proper : RetimeIsProper
unfolding RetimeIsProper ProperTimed RetimeKeepsValid AcceptedIsSound retimed
retime-is-proper b known s valid_state proper new e =
    let site = site_of b in
    let next = retimed s (times_in new) in
    let told = timed-told site next (retime-keeps-valid b known s valid_state new e) in
    let ok = waiting-admitted site next.waiting told.waiting refl in
    (proper.0, (record {}, read-fit site (accepted-is-sound b known) new (new-read b known s valid_state new e) ok))
