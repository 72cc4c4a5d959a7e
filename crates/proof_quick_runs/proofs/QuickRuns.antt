-- A run may be computed without testing the times of the state in each step. If the times of the first state and those of each retiming call are times
-- that the site may have, so are the times of every later state. The test of a valid state then gives what the test of the rest of the state gives.
use Prim.Native.Nat.{ℕ}
use mathlib.Core.Bool.{Bool, true, false, not, ◌&&◌}
use mathlib.Core.List.{List, [], ◌∷◌}
use mathlib.Core.Path.{◌≡◌, refl, ap, ◌∙◌}
use lib.ListN.{length}
use Rattle.std.specs.Prelude.{if◌then◌else◌, Option, Ok, Err}
use Rattle.rules.specs.Verdicts.{Verdict, Accepted, Refused, ◌or_else◌, refuse_if}
use Rattle.rules.specs.declared.site.Site.{Site}
use Rattle.rules.specs.declared.site.Times.{Times}
use Rattle.rules.specs.declared.state.State.{State}
use Rattle.rules.specs.Personality.{verdict_of}
use Rattle.rules.specs.Kept.{kept_valid}
use Rattle.rules.specs.WaitBound.{wait_bound}
use Rattle.rules.specs.Site.{site_of, times_in}
use Rattle.rules.specs.SiteTimes.{admitted}
use Rattle.rules.specs.Timed.{TimedState, Waiting, kept_of, ruled_site, none_waiting, fresh_timed, waiting_valid, timed_valid, takes_over, ruling_next, timed_stepped}
use Rattle.rules.specs.Call.{handed_back, bound_for, buffer_for, checks_by, step_verdict}
use Rattle.rules.specs.TimedCall.{differs_elsewhere, retime_checks_by, retimed}
use Rattle.rules.specs.Runs.{Controller, controller_of, by_rules, Call, step_call, retime_call, StepCall, Step, Taken, step_taken, retime_taken, taken_from}
use Rattle.rules.specs.Scanning.{stepped_finding}
use Rattle.laws.proofs.Booleans.{and_left, and_right, and_both}

-- ── Times that fit ──

-- the times that rule and those that wait are times that the site may have
abbrev pub times_fit : Site → TimedState → Bool
times_fit site s = admitted site s.ruling && waiting_valid site s.waiting

-- the times of every retiming call are times that the site may have
unfoldable pub calls_fit : Site → List Call → Bool
calls_fit site [] = true
calls_fit site (step_call c ∷ calls) = calls_fit site calls
calls_fit site (retime_call new ∷ calls) = admitted site (times_in new) && calls_fit site calls

-- a step keeps times that fit
abbrev pub Keeps : Site → (Site → TimedState → ℕ → TimedState) → Type 0
Keeps site step = (s : TimedState) (inputs : ℕ) → times_fit site s ≡ true → times_fit site (step site s inputs) ≡ true

-- a state in which new times wait or rule has times that fit, if the new ones do
abbrev pub Takes : Site → (TimedState → Times → TimedState) → Type 0
Takes site retimed = (s : TimedState) (times : Times) → times_fit site s ≡ true → admitted site times ≡ true → times_fit site (retimed s times) ≡ true

module _ (site : Site) (none : waiting_valid site none_waiting ≡ true) where
  pub ready : (waiting : Waiting) → waiting.present ≡ true → waiting_valid site waiting ≡ true → admitted site waiting.times ≡ true
  unfolding waiting_valid
  ready waiting e fit = rw e at fit

  -- waiting times may take over
  over :
      (ruling : Times) (waiting : Waiting) (starts : Bool) →
      (admitted site ruling && waiting_valid site waiting) ≡ true →
      (admitted site (if waiting.present && starts then waiting.times else ruling)
      && waiting_valid site (if waiting.present && starts then none_waiting else waiting))
      ≡ true
  over ruling waiting starts fit = by waiting.present refl starts
    where
      by :
          (t : Bool) →
          waiting.present ≡ t →
          (starts : Bool) →
          (admitted site (if t && starts then waiting.times else ruling) && waiting_valid site (if t && starts then none_waiting else waiting)) ≡ true
      by true e true = and_both (ready waiting e (and_right (admitted site ruling) (waiting_valid site waiting) fit)) none
      by true e false = fit
      by false e starts = fit

  -- the steps of the rules and of the scanning rules
  pub timed-keeps : Keeps site timed_stepped
  unfolding timed_stepped ruling_next takes_over
  timed-keeps s inputs fit = over s.ruling s.waiting _ fit

  pub finding-keeps : (find : Site → State → ℕ → Option ℕ) → Keeps site (stepped_finding find)
  unfolding stepped_finding ruling_next takes_over
  finding-keeps find s inputs fit = over s.ruling s.waiting _ fit

  pub retimed-takes : Takes site retimed
  unfolding retimed waiting_valid
  retimed-takes s times fit ok = and_both (and_left (admitted site s.ruling) (waiting_valid site s.waiting) fit) ok

-- ── The run ──

module _
    (verdict : List ℕ → Verdict)
    (rest : Site → TimedState → Bool)
    (step : Site → TimedState → ℕ → TimedState)
    (wait : Site → ℕ)
    (retimed : TimedState → Times → TimedState)
    (b : List ℕ)
    (keeps : Keeps (site_of b) step)
    (takes : Takes (site_of b) retimed)
  where
    -- the controller whose test of a valid state has the test of the times, and the one whose test has not
    abbrev whole : Controller TimedState
    whole = controller_of verdict (λ site s. times_fit site s && rest site s) step wait retimed

    abbrev quick : Controller TimedState
    quick = controller_of verdict rest step wait retimed

    -- what a step call gives, by the verdict on it
    abbrev step_by : TimedState → StepCall → Verdict → Step
    step_by s c v =
        let new = step (site_of b) s c.inputs in
        let next = handed_back v new s in
        record {
          before = s.core;
          inputs = c.inputs;
          room = length c.buffer;
          outcome = bound_for v (wait (ruled_site (site_of b) new));
          after = next.core;
          shown = buffer_for v (ruled_site (site_of b) new) new.core c.buffer;
          ruling = next.ruling;
          changed = s.waiting.present && not next.waiting.present;
        }

    handed-fits :
        (v : Verdict) (new old : TimedState) →
        times_fit (site_of b) new ≡ true →
        times_fit (site_of b) old ≡ true →
        times_fit (site_of b) (handed_back v new old) ≡ true
    unfolding handed_back
    handed-fits (Ok _) new old after before = after
    handed-fits (Err r) new old after before = before

    test-same : (s : TimedState) → times_fit (site_of b) s ≡ true → (times_fit (site_of b) s && rest (site_of b) s) ≡ rest (site_of b) s
    test-same s fit = rw fit refl

    step_same :
        (s : TimedState) (c : StepCall) →
        times_fit (site_of b) s ≡ true →
        checks_by verdict (λ site s. times_fit site s && rest site s) b s c.inputs (length c.buffer)
        ≡ checks_by verdict rest b s c.inputs (length c.buffer)
    unfolding checks_by
    step_same s c fit =
        ap (λ (t : Bool). verdict b or_else step_verdict (site_of b) t c.inputs (length c.buffer)) (test-same s fit)

    retime-same :
        (s : TimedState) (new : List ℕ) →
        times_fit (site_of b) s ≡ true →
        retime_checks_by verdict (λ site s. times_fit site s && rest site s) b s new ≡ retime_checks_by verdict rest b s new
    unfolding retime_checks_by
    retime-same s new fit =
        ap (λ (t : Bool). verdict b or_else refuse_if (not t) 13 0 or_else verdict new or_else refuse_if (differs_elsewhere b new) 26 0)
        (test-same s fit)

    pub taken-quick :
        (s : TimedState) (calls : List Call) →
        times_fit (site_of b) s ≡ true →
        calls_fit (site_of b) calls ≡ true →
        taken_from whole b s calls ≡ taken_from quick b s calls
    unfolding taken_from calls_fit
    taken-quick s [] fit all = refl
    taken-quick s (step_call c ∷ calls) fit all =
        let new = step (site_of b) s c.inputs in
        let v = checks_by verdict rest b s c.inputs (length c.buffer) in
        ap (λ (v : Verdict). step_taken (step_by s c v) ∷ taken_from whole b (handed_back v new s) calls) (step_same s c fit)
        ∙ ap (λ (later : List Taken). step_taken (step_by s c v) ∷ later)
        (taken-quick (handed_back v new s) calls (handed-fits v new s (keeps s c.inputs fit) fit) all)
    taken-quick s (retime_call new ∷ calls) fit all =
        let next = retimed s (times_in new) in
        let v = retime_checks_by verdict rest b s new in
        let first = and_left (admitted (site_of b) (times_in new)) (calls_fit (site_of b) calls) all in
        ap (λ (v : Verdict). retime_taken new v ∷ taken_from whole b (handed_back v next s) calls) (retime-same s new fit)
        ∙ ap (λ (later : List Taken). retime_taken new v ∷ later)
        (taken-quick (handed_back v next s) calls (handed-fits v next s (takes s (times_in new) fit first) fit)
        (and_right (admitted (site_of b) (times_in new)) (calls_fit (site_of b) calls) all))

-- ── The run of the rules ──

-- the controller of the rules without the test of the times
abbrev pub quick_rules : Controller TimedState
quick_rules = controller_of verdict_of (λ site s. kept_valid (ruled_site site s) (kept_of s)) timed_stepped wait_bound retimed

pub fresh-none : (site : Site) → times_fit site (fresh_timed site) ≡ true → waiting_valid site none_waiting ≡ true
unfolding fresh_timed
fresh-none site fit = and_right (admitted site site.times) (waiting_valid site none_waiting) fit

pub rules-quickly :
    (b : List ℕ) →
    times_fit (site_of b) (fresh_timed (site_of b)) ≡ true →
    (calls : List Call) →
    calls_fit (site_of b) calls ≡ true →
    taken_from by_rules b (fresh_timed (site_of b)) calls ≡ taken_from quick_rules b (fresh_timed (site_of b)) calls
unfolding by_rules timed_valid
rules-quickly b fit calls all =
    let none = fresh-none (site_of b) fit in
    taken-quick verdict_of (λ site s. kept_valid (ruled_site site s) (kept_of s)) timed_stepped wait_bound retimed b (timed-keeps (site_of b) none)
    (retimed-takes (site_of b) none)
    (fresh_timed (site_of b))
    calls
    fit
    all
