-- Forgetting the kept set gives the runs of the scanning rules: from a valid state every list of calls is taken alike, call by call.
use Prim.Native.Nat.{ℕ}
use mathlib.Core.Bool.{Bool, true, false, not}
use mathlib.Core.List.{List}
use mathlib.Core.Path.{◌≡◌, refl, sym, ap, subst, ◌∙◌}
use lib.ListN.{length}
use Rattle.rules.specs.Verdicts.{Verdict, Accepted, Refused, ◌or_else◌, refuse_if}
use Rattle.rules.specs.declared.state.State.{State}
use Rattle.std.specs.Prelude.{if◌then◌else◌, Ok, Err}
use Rattle.rules.specs.Personality.{verdict_of}
use Rattle.rules.specs.Site.{site_of, times_in}
use Rattle.rules.specs.State.{valid}
use Rattle.rules.specs.Demands.{next_demanded}
use Rattle.rules.specs.Step.{stepped_into}
use Rattle.rules.specs.Kept.{kept_valid}
use Rattle.rules.specs.Timed.{TimedState, kept_of, ruled_site, none_waiting, timed_valid, takes_over, without_counts, ruling_next, timed_stepped}
use Rattle.rules.specs.WaitBound.{wait_bound}
use Rattle.rules.specs.Call.{step_verdict, bound_for, handed_back, buffer_for, checks_by}
use Rattle.rules.specs.TimedCall.{timed_verdict, differs_elsewhere, retime_checks_by, retime_verdict, retimed}
use Rattle.rules.specs.TimedLaws.{StepKeepsValid, RetimeKeepsValid, StepForgets}
use Rattle.rules.specs.Runs.{by_rules}
use Rattle.rules.specs.Scanning.{scan_valid, stepped_finding, scanning, RunForgets}
use Rattle.laws.proofs.Booleans.{and_left, and_both}
use Rattle.proof_runs.proofs.Chains.{checks-told}
use Rattle.proof_runs.proofs.Alike.{Alike, taken-alike}
use Rattle.proof_change.proofs.Timed.{timed-told}
use Rattle.proof_guarantees.proofs.Accepted.{step-keeps-valid, retime-keeps-valid, step-forgets}

-- the state without its kept set
abbrev forgotten : TimedState → TimedState
forgotten s = record { core = s.core; kept = 0; ruling = s.ruling; waiting = s.waiting }

module _ (b : List ℕ) (known : verdict_of b ≡ Accepted) where
  -- what a step leaves that leads to such a rest of the state
  abbrev leaving : TimedState → State → TimedState
  leaving s core =
      record {
        core = core;
        kept = 0;
        ruling = ruling_next (site_of b) s;
        waiting = if takes_over (site_of b) s then none_waiting else s.waiting;
      }

  -- a valid state, and one with another kept set
  abbrev Rest : TimedState → TimedState → Type 0
  Rest s t = (timed_valid (site_of b) s ≡ true) × (forgotten s ≡ forgotten t)

  -- the scanning test and step do not read the kept set
  scan-valid : (s : TimedState) → timed_valid (site_of b) s ≡ true → scan_valid (site_of b) (forgotten s) ≡ true
  unfolding scan_valid kept_valid
  scan-valid s v =
      let told = timed-told (site_of b) s v in
      and_both (and_both told.ruling told.waiting) (and_left (valid (ruled_site (site_of b) s) s.core) _ told.rest)

  valid-unread : (t : TimedState) → scan_valid (site_of b) (forgotten t) ≡ scan_valid (site_of b) t
  unfolding scan_valid
  valid-unread t = refl

  step-unread : (t : TimedState) (inputs : ℕ) → stepped_finding next_demanded (site_of b) (forgotten t) inputs ≡ stepped_finding next_demanded (site_of b) t inputs
  unfolding stepped_finding ruling_next takes_over
  step-unread t inputs =
      let site = ruled_site (site_of b) t in
      ap (λ (core : State). leaving t (stepped_into (ruling_next (site_of b) t) (next_demanded site t.core inputs) site core inputs))
      (unread (takes_over (site_of b) t))
    where
      unread :
          (over : Bool) →
          (if over then without_counts (kept_of (forgotten t)) else kept_of (forgotten t)).core ≡ (if over then without_counts (kept_of t) else kept_of t).core
      unread true = refl
      unread false = refl

  stepped_same :
      (s : TimedState) →
      timed_valid (site_of b) s ≡ true →
      (inputs : ℕ) →
      forgotten (timed_stepped (site_of b) s inputs) ≡ stepped_finding next_demanded (site_of b) s inputs
  unfolding stepped_finding timed_stepped StepForgets
  stepped_same s v inputs = ap (leaving s) (step-forgets b known s v inputs)

  module _ (s t : TimedState) (r : Rest s t) where
    valid_same : timed_valid (site_of b) s ≡ scan_valid (site_of b) t
    valid_same = r.0 ∙ sym (sym (valid-unread t) ∙ ap (scan_valid (site_of b)) (sym r.1) ∙ scan-valid s r.0)

    next-same : (inputs : ℕ) → forgotten (timed_stepped (site_of b) s inputs) ≡ stepped_finding next_demanded (site_of b) t inputs
    next-same inputs =
        stepped_same s r.0 inputs
        ∙ sym (step-unread s inputs)
        ∙ ap (λ (t : TimedState). stepped_finding next_demanded (site_of b) t inputs) r.1
        ∙ step-unread t inputs

    -- after a call with such a verdict
    next-rest :
        (inputs room : ℕ) (v : Verdict) →
        timed_verdict b s inputs room ≡ v →
        Rest (handed_back v (timed_stepped (site_of b) s inputs) s) (handed_back v (stepped_finding next_demanded (site_of b) t inputs) t)
    unfolding handed_back checks_by StepKeepsValid stepped_finding
    next-rest inputs room (Ok _) e = (
      step-keeps-valid b known s r.0 inputs (checks-told b inputs room (timed_valid (site_of b) s) e).1,
      next-same inputs,
    )
    next-rest inputs room (Err _) e = r

    retimed-rest :
        (new : List ℕ) (v : Verdict) →
        retime_verdict b s new ≡ v →
        Rest (handed_back v (retimed s (times_in new)) s) (handed_back v (retimed t (times_in new)) t)
    unfolding handed_back retimed RetimeKeepsValid
    retimed-rest new (Ok _) e = (retime-keeps-valid b known s r.0 new e, ap (λ (s : TimedState). retimed s (times_in new)) r.1)
    retimed-rest new (Err _) e = r

    alike : Alike by_rules scanning b Rest s t
    unfolding by_rules scanning checks_by retime_checks_by
    alike =
        let checks : (inputs room : ℕ) → timed_verdict b s inputs room ≡ checks_by verdict_of scan_valid b t inputs room =
        λ inputs room i. verdict_of b or_else step_verdict (site_of b) (valid_same i) inputs room in
        let retime_checks : (new : List ℕ) → retime_verdict b s new ≡ retime_checks_by verdict_of scan_valid b t new =
        λ new i.
        verdict_of b
        or_else refuse_if (not (valid_same i)) 13 0
        or_else verdict_of new
        or_else refuse_if (differs_elsewhere b new) 26 0 in
        record {
          seen = ap (λ (s : TimedState). s.core) r.1;
          ruling = ap (λ (s : TimedState). s.ruling) r.1;
          times_wait = ap (λ (s : TimedState). s.waiting.present) r.1;
          outcome = λ inputs room i. bound_for (checks inputs room i) (wait_bound (ruled_site (site_of b) (next-same inputs i)));
          buffer = λ inputs buffer i.
              buffer_for (checks inputs (length buffer) i) (ruled_site (site_of b) (next-same inputs i)) (next-same inputs i).core buffer;
          next = λ inputs room.
              subst
              (λ (v : Verdict). Rest (by_rules.next b s inputs room) (handed_back v (stepped_finding next_demanded (site_of b) t inputs) t))
              (checks inputs room)
              (next-rest inputs room (timed_verdict b s inputs room) refl);
          retime_verdict = retime_checks;
          retimed = λ new.
              subst (λ (v : Verdict). Rest (by_rules.retimed b s new) (handed_back v (retimed t (times_in new)) t)) (retime_checks new)
              (retimed-rest new (retime_verdict b s new) refl);
        }

pub run-forgets : RunForgets
unfolding RunForgets
run-forgets b known s v calls = taken-alike by_rules scanning b (Rest b known) (alike b known) calls s s (v, refl)
