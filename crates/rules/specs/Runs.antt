-- Runs: lists of step and retiming calls on one personality, and how a controller takes them. Some of the calls may be refused.
use Rattle.std.specs.Prelude.{ℕ, Bool, not, ◌&&◌, List, [], ◌∷◌, ◌≡◌, length, Ok, Err}
use Rattle.rules.specs.Types.{Outcome, Stepped, StepRefused, Verdict, Accepted, Site, Times, State}
use Rattle.rules.specs.Personality.{verdict_of}
use Rattle.rules.specs.Site.{site_of, times_in}
use Rattle.rules.specs.SiteTimes.{under}
use Rattle.rules.specs.Timed.{TimedState, ruled_site, fresh_timed, timed_valid, timed_stepped}
use Rattle.rules.specs.WaitBound.{wait_bound}
use Rattle.rules.specs.Call.{bound_for, handed_back, buffer_for, checks_by}
use Rattle.rules.specs.TimedCall.{retime_checks_by, retimed}

-- ── Controllers ──

-- What takes the calls. It reads personalities and has a fresh state for each. Its step call takes bytes, a state, 64 input bits and a colour buffer
-- or its length; it gives the outcome, the state handed back, and the buffer afterwards. Its retiming call takes bytes, a state and the
-- bytes of a new personality; it gives the verdict and the state handed back. States may be of any type.
pub record Controller (S : Type 0) : Type 0 where
  pub verdict : List ℕ → Verdict
  pub fresh : List ℕ → S
  pub outcome : List ℕ → S → ℕ → ℕ → Outcome
  pub next : List ℕ → S → ℕ → ℕ → S
  pub buffer : List ℕ → S → ℕ → List ℕ → List ℕ
  pub retime_verdict : List ℕ → S → List ℕ → Verdict
  pub retimed : List ℕ → S → List ℕ → S
  -- the state of document 01 that a state represents, the times that rule in it, and whether times wait in it
  pub seen : S → State
  pub ruling : S → Times
  pub times_wait : S → Bool

-- The controller on timed states by its verdict on a personality, its test of a valid state, its step, its wait of a site, and its state in
-- which new times wait. The wait and the colours are those of the times that rule after the step.
abbrev pub controller_of :
    (List ℕ → Verdict) → (Site → TimedState → Bool) → (Site → TimedState → ℕ → TimedState) → (Site → ℕ) → (TimedState → Times → TimedState) → Controller TimedState
controller_of verdict valid step wait retimed =
    record {
      verdict = verdict;
      fresh = λ b. fresh_timed (site_of b);
      outcome = λ b s inputs room.
          bound_for (checks_by verdict valid b s inputs room) (wait (ruled_site (site_of b) (step (site_of b) s inputs)));
      next = λ b s inputs room. handed_back (checks_by verdict valid b s inputs room) (step (site_of b) s inputs) s;
      buffer = λ b s inputs buffer.
          let new = step (site_of b) s inputs in
          buffer_for (checks_by verdict valid b s inputs (length buffer)) (ruled_site (site_of b) new) new.core buffer;
      retime_verdict = retime_checks_by verdict valid;
      retimed = λ b s new. handed_back (retime_checks_by verdict valid b s new) (retimed s (times_in new)) s;
      seen = λ s. s.core;
      ruling = λ s. s.ruling;
      times_wait = λ s. s.waiting.present;
    }

-- the controller of the rules
unfoldable pub by_rules : Controller TimedState
by_rules = controller_of verdict_of timed_valid timed_stepped wait_bound retimed

-- ── The list of calls ──

-- a step call: its 64 input bits and its colour buffer; both may be anything
pub record StepCall : Type 0 where
  pub inputs : ℕ
  pub buffer : List ℕ

-- one call: a step call, or a retiming call with the bytes of a new personality, which may be anything
pub data Call : Type 0 where
  step_call : StepCall → Call
  retime_call : List ℕ → Call

-- A step call as a controller took it: the state handed in, the input bits and the length of the buffer; the outcome, the state handed back, and
-- the buffer as the call returns; the times that rule in the state handed back; and whether the step is a change: times waited in the
-- state handed in, and none wait in the state handed back.
pub record Step : Type 0 where
  pub before : State
  pub inputs : ℕ
  pub room : ℕ
  pub outcome : Outcome
  pub after : State
  pub shown : List ℕ
  pub ruling : Times
  pub changed : Bool

-- A call as a controller took it. Of a retiming call it is the bytes of the new personality and the verdict.
pub data Taken : Type 0 where
  step_taken : Step → Taken
  retime_taken : List ℕ → Verdict → Taken

module _ {S : Type 0} (controller : Controller S) (b : List ℕ) where
  -- the state that a step call hands back
  abbrev pub next_of : S → StepCall → S
  next_of s c = controller.next b s c.inputs (length c.buffer)

  -- a step call, taken
  abbrev pub step_of : S → StepCall → Step
  step_of s c =
      let room = length c.buffer in
      let next = next_of s c in
      record {
        before = controller.seen s;
        inputs = c.inputs;
        room = room;
        outcome = controller.outcome b s c.inputs room;
        after = controller.seen next;
        shown = controller.buffer b s c.inputs c.buffer;
        ruling = controller.ruling next;
        changed = controller.times_wait s && not (controller.times_wait next);
      }

  -- A list of calls, in order. Each gets the same bytes and the state that the call before handed back.
  unfoldable pub taken_from : S → List Call → List Taken
  taken_from s [] = []
  taken_from s (step_call c ∷ calls) = step_taken (step_of s c) ∷ taken_from (next_of s c) calls
  taken_from s (retime_call new ∷ calls) =
      retime_taken new (controller.retime_verdict b s new) ∷ taken_from (controller.retimed b s new) calls

  -- the state that the last of them hands back
  unfoldable pub left_by : S → List Call → S
  left_by s [] = s
  left_by s (step_call c ∷ calls) = left_by (next_of s c) calls
  left_by s (retime_call new ∷ calls) = left_by (controller.retimed b s new) calls

-- a refused step call is left out: it has no colours, registers no demand and does not count as a step
unfoldable pub if_accepted : Outcome → Step → List Step → List Step
if_accepted (Ok wait) step later = step ∷ later
if_accepted (Err r) step later = later

-- the accepted steps of a list of calls
unfoldable pub accepted_steps : List Taken → List Step
accepted_steps [] = []
accepted_steps (step_taken step ∷ later) = if_accepted step.outcome step (accepted_steps later)
accepted_steps (retime_taken new verdict ∷ later) = accepted_steps later

-- the site with the times that rule after a step
abbrev pub site_after : Site → Step → Site
site_after site step = under site step.ruling

-- ── Every run ──

-- a claim about every list of calls on every accepted personality, from its fresh state
abbrev pub OfEveryRun : {S : Type 0} → Controller S → (List ℕ → List Taken → Type 0) → Type 0
OfEveryRun controller Claim =
    (b : List ℕ) →
    controller.verdict b ≡ Accepted →
    (calls : List Call) →
    Claim b (taken_from controller b (controller.fresh b) calls)
