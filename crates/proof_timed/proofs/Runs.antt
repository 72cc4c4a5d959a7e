-- The accepted steps of every list of step and retiming calls are linked: each is a plain link under the times that rule after it.
use Prim.Native.Nat.{ℕ}
use mathlib.Core.Bool.{Bool, true, false, not, ◌&&◌}
use mathlib.Core.List.{List, [], ◌∷◌}
use mathlib.Core.Path.{◌≡◌, refl, sym, subst, ◌∙◌}
use lib.ListN.{length, drop}
use Rattle.rules.specs.Verdicts.{Verdict, Accepted, Refused}
use Rattle.rules.specs.declared.site.Site.{Site}
use Rattle.rules.specs.declared.site.Times.{Times}
use Rattle.rules.specs.declared.state.KeptState.{KeptState}
use Rattle.rules.specs.declared.state.State.{State}
use Rattle.std.specs.Prelude.{if◌then◌else◌, Option, Ok, Err}
use Rattle.rules.specs.Site.{site_of, times_in}
use Rattle.rules.specs.State.{movement, valid}
use Rattle.rules.specs.SiteTimes.{under}
use Rattle.rules.specs.Interval.{following}
use Rattle.rules.specs.Kept.{kept_valid, kept_stepped_into}
use Rattle.rules.specs.Timed.{TimedState, Waiting, kept_of, ruled_site, none_waiting, timed_valid, starts_next, takes_over, without_counts, ruling_next, timed_stepped}
use Rattle.rules.specs.WaitBound.{wait_bound}
use Rattle.rules.specs.Call.{wired, stray_input, bound_for, handed_back, buffer_for, checks_by}
use Rattle.rules.specs.TimedCall.{timed_verdict, retimed, retime_verdict}
use Rattle.rules.specs.Laws.{Sound}
use Rattle.rules.specs.TimedLaws.{ready}
use Rattle.rules.specs.Runs.{StepCall, by_rules, Call, step_call, retime_call, Step, taken_from, if_accepted, accepted_steps}
use Rattle.rules.specs.DemandThree.{shows, in_walk}
use Rattle.laws.proofs.Booleans.{and_left, never_both}
use Rattle.proof_runs.proofs.ValidStates.{ValidState, state-told}
use Rattle.proof_runs.proofs.Chains.{ValidLink, front-shown, checks-told}
use Rattle.proof_change.proofs.Change.{starts-clear, change-position}
use Rattle.proof_change.proofs.Timed.{timed-told, plain_state, over-starts, old-sound, next-sound, plain-valid, timed-stepped-valid, timed-is-scanned}
use Rattle.proof_timed.proofs.Induction.{viewed, plain_from, TimedLink, TimedRun}

-- times waited before the step and none do after it exactly if they take over
change-told : (waiting : Waiting) (starts : Bool) → (waiting.present && not (if waiting.present && starts then none_waiting else waiting).present) ≡ (waiting.present && starts)
unfolding none_waiting
change-told waiting starts = by waiting.present refl starts
  where
    by : (t : Bool) → waiting.present ≡ t → (starts : Bool) → (t && not (if t && starts then none_waiting else waiting).present) ≡ (t && starts)
    by true e true = refl
    by true e false = rw e
    by false e starts = refl

rest-valid : (site : Site) (s : KeptState) → kept_valid site s ≡ true → valid site s.core ≡ true
unfolding kept_valid
rest-valid site s v = and_left (valid site s.core) _ v

module _ (b : List ℕ) (s : TimedState) (c : StepCall) where
  abbrev next : TimedState
  next = timed_stepped (site_of b) s c.inputs

  -- a step call as it is taken if it has such a verdict
  step_for : Verdict → Step
  step_for v =
      let after = handed_back v next s in
      record {
        before = s.core;
        inputs = c.inputs;
        room = length c.buffer;
        outcome = bound_for v (wait_bound (under (site_of b) next.ruling));
        after = after.core;
        shown = buffer_for v (under (site_of b) next.ruling) next.core c.buffer;
        ruling = after.ruling;
        changed = s.waiting.present && not after.waiting.present;
      }

  module _ (sound : Sound (site_of b)) (v : timed_valid (site_of b) s ≡ true) (stray : stray_input (site_of b) c.inputs ≡ false) where
    abbrev site : Site
    site = site_of b

    abbrev entry : Step
    entry = step_for Accepted

    abbrev over : Bool
    over = takes_over site s

    changed-is : entry.changed ≡ over
    unfolding step_for handed_back timed_stepped takes_over
    changed-is = change-told s.waiting (starts_next (ruled_site site s) s.core)

    abbrev now : Site
    now = under site (ruling_next site s)

    abbrev from : State
    from = (plain_state site s).core

    -- the plain link
    plain_of : ValidLink now from (viewed from entry)
    unfolding step_for handed_back buffer_for stray_input wired shows timed_stepped
    plain_of =
        let there = timed-told site next (timed-stepped-valid site sound s v c.inputs stray) in
        record {
          sound = next-sound site sound s v;
          taken =
              record {
                before = refl;
                after = timed-is-scanned site sound s v c.inputs;
                shown = front-shown now next.core (drop site.size.groups c.buffer);
              };
          here = state-told now from (rest-valid now (plain_state site s) (plain-valid site sound s v));
          there = state-told now next.core (rest-valid now (kept_of next) there.rest);
        }

    from_is : from ≡ plain_from entry.changed s.core
    unfolding plain_state ready
    from_is = rw changed-is (by (takes_over site s))
      where
        by : (t : Bool) → (if t then ready (kept_of s) else kept_of s).core ≡ plain_from t s.core
        by true = refl
        by false = refl

    link-of : TimedLink site s.core s.ruling entry
    unfolding step_for handed_back in_walk movement timed_stepped ruling_next
    link-of =
        let is-over : entry.changed ≡ true → takes_over site s ≡ true = λ e. sym changed-is ∙ e in
        record {
          before = refl;
          kept = λ e. same (takes_over site s) (sym changed-is ∙ e);
          plain = subst (λ (f : State). ValidLink now f (viewed f entry)) from_is plain_of;
          still = λ e k l. (starts-clear (ruled_site site s) (old-sound site sound s v) s.core was (over-starts site sound s v (is-over e)) k l).still;
          sane = was;
          over = λ e. over-starts site sound s v (is-over e);
          begun = λ e. began (takes_over site s) (is-over e) (over-starts site sound s v (is-over e));
        }
      where
        was : ValidState (ruled_site site s) s.core
        was = state-told (ruled_site site s) s.core (rest-valid (ruled_site site s) (kept_of s) (timed-told site s v).rest)

        began :
            (t : Bool) →
            t ≡ true →
            starts_next (ruled_site site s) s.core ≡ true →
            (after : Option ℕ)
            × ((kept_stepped_into (if t then s.waiting.times else s.ruling) (ruled_site site s) (if t then without_counts (kept_of s) else kept_of s) c.inputs).core.position
            ≡ following s.core.position.interval (if t then s.waiting.times else s.ruling) after s.core.position)
        began true e h = change-position (ruled_site site s) s.waiting.times (kept_of s) c.inputs h
        began false e h = absurd (never_both e refl)

        same : (t : Bool) → t ≡ false → (if t then s.waiting.times else s.ruling) ≡ s.ruling
        same true e = absurd (never_both refl e)
        same false e = refl

  -- the steps of a step call with such a verdict and of the calls after it
  step_run :
      Sound (site_of b) →
      (v : Verdict) →
      timed_verdict b s c.inputs (length c.buffer) ≡ v →
      (later : TimedState → List Step) →
      ((t : TimedState) → TimedRun (site_of b) t.core t.ruling (later t)) →
      TimedRun (site_of b) s.core s.ruling (if_accepted (step_for v).outcome (step_for v) (later (handed_back v next s)))
  unfolding if_accepted bound_for handed_back step_for checks_by
  step_run sound (Ok _) e later rest =
      let told = checks-told b c.inputs (length c.buffer) (timed_valid (site_of b) s) e in
      (link-of sound told.0 told.1, rest next)
  step_run sound (Err r) e later rest = rest s

-- a retiming call alters neither the rest of the state nor what rules
retime-run :
    (site : Site) (s : TimedState) (times : Times) (v : Verdict) (later : TimedState → List Step) →
    ((t : TimedState) → TimedRun site t.core t.ruling (later t)) →
    TimedRun site s.core s.ruling (later (handed_back v (retimed s times) s))
unfolding handed_back retimed
retime-run site s times (Ok _) later rest = rest (retimed s times)
retime-run site s times (Err r) later rest = rest s

pub timed-run :
    (b : List ℕ) →
    Sound (site_of b) →
    (calls : List Call) (s : TimedState) →
    TimedRun (site_of b) s.core s.ruling (accepted_steps (taken_from by_rules b s calls))
unfolding by_rules taken_from accepted_steps step_for
timed-run b sound [] s = tt
timed-run b sound (step_call c ∷ calls) s =
    step_run b s c sound (timed_verdict b s c.inputs (length c.buffer)) refl (λ (t : TimedState). accepted_steps (taken_from by_rules b t calls))
    (timed-run b sound calls)
timed-run b sound (retime_call new ∷ calls) s =
    retime-run (site_of b) s (times_in new) (retime_verdict b s new) (λ (t : TimedState). accepted_steps (taken_from by_rules b t calls))
    (timed-run b sound calls)
