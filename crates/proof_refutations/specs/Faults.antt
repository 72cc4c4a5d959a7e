-- Controllers that must not pass. Each but one is the controller of the scanning rules with its verdict, its step, its wait, its search for the next
-- phase, its answers or its colours replaced. For the same calls the scanning rules answer as the rules do (`RunForgets`). The one of `retiming` is the
-- controller of the rules with its retiming replaced.
use Rattle.std.specs.Prelude.{ℕ, ◌+◌, ◌-◌, ◌^◌, Bool, not, ◌&&◌, ◌||◌, List, map, eqb, leb, if◌then◌else◌, Option, Some, None, Ok, Err}
use Rattle.rules.specs.Verdicts.{Outcome, Stepped, StepRefused, Verdict, Accepted, Refused}
use Rattle.rules.specs.declared.site.Site.{Site}
use Rattle.rules.specs.declared.site.Times.{Times}
use Rattle.rules.specs.declared.state.Counts.{Counts}
use Rattle.rules.specs.declared.state.Demands.{Demands}
use Rattle.rules.specs.declared.state.Interval.{Interval}
use Rattle.rules.specs.declared.state.Interval.TheVariants.{StartRed, LateStart, EarlyCutOff, Yellow, AllRed}
use Rattle.rules.specs.declared.state.Movement.{Movement}
use Rattle.rules.specs.declared.state.Position.{Position}
use Rattle.rules.specs.declared.state.State.{State}
use Rattle.laws.specs.Folds.{sum_of}
use Rattle.rules.specs.Site.{site_of, phase_times, ring}
use Rattle.rules.specs.IntervalTable.{interval_row, is_idle, is_walk, is_second, is_start_red, is_leaving, is_held}
use Rattle.rules.specs.Personality.{verdict_of}
use Rattle.rules.specs.State.{idle, movement}
use Rattle.rules.specs.Demands.{pressed, buttons_after, demanded, first_in, next_demanded}
use Rattle.rules.specs.Interval.{entering, staying}
use Rattle.rules.specs.WaitBound.{phase_share, longest_walk, longest_clearance, wait_bound}
use Rattle.rules.specs.Timed.{TimedState, ruled_site, none_waiting, timed_valid, timed_stepped}
use Rattle.rules.specs.TimedCall.{retimed}
use Rattle.rules.specs.Runs.{Controller, controller_of}
use Rattle.rules.specs.Scanning.{scan_valid, stepped_finding, scanning}

-- the step of the scanning rules
abbrev pub scanned : Site → TimedState → ℕ → TimedState
scanned = stepped_finding next_demanded

-- `scanning` is `faulty verdict_of scanned wait_bound`
abbrev pub faulty : (List ℕ → Verdict) → (Site → TimedState → ℕ → TimedState) → (Site → ℕ) → Controller TimedState
faulty verdict step wait = controller_of verdict scan_valid step wait retimed

-- ── A verdict that is wrong ──

-- number 10 is passed over: conflicting groups may share a phase
unfoldable pub passed : Verdict → Verdict
passed (Ok _) = Accepted
passed (Err r) = if eqb r.number 10 then Accepted else Refused r.number r.place

unfoldable pub passes_ten : List ℕ → Verdict
passes_ten b = passed (verdict_of b)

-- ── Steps that are wrong: the state ──

-- a state with another position, other counts or other movements
unfoldable pub with : TimedState → Position → Counts → List Movement → TimedState
with s position counts movements =
    record {
      core = record { position = position; counts = counts; demands = s.core.demands; movements = movements };
      kept = s.kept;
      ruling = s.ruling;
      waiting = s.waiting;
    }

unfoldable pub moved : TimedState → Position → TimedState
moved s position = with s position s.core.counts s.core.movements

-- the interval is this one
unfoldable pub is : Interval → Interval → Bool
is this interval = eqb (interval_row interval).code (interval_row this).code

-- the first step truly, then only ages: no other state of its runs has start red at age 1
unfoldable pub ages_only : Site → TimedState → ℕ → TimedState
ages_only site s inputs =
    let old = s.core.position in
    if is_start_red old.interval && eqb old.age 1 then scanned site s inputs else moved s (staying old)

-- the state, and so the lights, never alter
unfoldable pub never_alters : Site → TimedState → ℕ → TimedState
never_alters site s inputs = s

-- start red goes on until it is older than the limit of the site
unfoldable pub dawdles : (Site → ℕ) → Site → TimedState → ℕ → TimedState
dawdles limit site s inputs =
    let old = s.core.position in
    if is_start_red old.interval && leb old.age (limit (ruled_site site s)) then moved s (staying old) else scanned site s inputs

-- late start never ends
unfoldable pub stays_late : Site → TimedState → ℕ → TimedState
stays_late site s inputs =
    let old = s.core.position in
    if is LateStart old.interval then moved s (staying old) else scanned site s inputs

-- to a phase that the site doesn't have; the next call then finds no valid state
unfoldable pub leaves_the_site : Site → TimedState → ℕ → TimedState
leaves_the_site site s inputs =
    moved s (record { phase = site.size.phases; interval = StartRed; age = 1; previous = None; target = None })

-- ── Steps that are wrong: part 4 ──

-- a movement in C2 is idle
unfoldable pub without_second : Movement → Movement
without_second movement = if is_second movement.stage then idle else movement

-- all-red ends on its timer, and C2 with it
unfoldable pub ends_on_timer : Site → TimedState → ℕ → TimedState
ends_on_timer site s inputs =
    let old = s.core.position in
    let over = is AllRed old.interval && leb (phase_times s.ruling old.phase).red old.age in
    scanned site (if over then with s old s.core.counts (map without_second s.core.movements) else s) inputs

-- an interval is one step short: at age 1 it goes on as if its age were 2
unfoldable pub shortens : Interval → Site → TimedState → ℕ → TimedState
shortens short site s inputs =
    let old = s.core.position in
    scanned site (if is short old.interval && eqb old.age 1 then moved s (staying old) else s) inputs

-- the same of C2
unfoldable pub hastened : Movement → Movement
hastened movement = if is_second movement.stage && eqb movement.age 1 then record { stage = movement.stage; age = 2 } else movement

unfoldable pub shortens_clearance : Site → TimedState → ℕ → TimedState
shortens_clearance site s inputs = scanned site (with s s.core.position s.core.counts (map hastened s.core.movements)) inputs

-- when an interval ends and the one that follows it is entered, the target is chosen again
unfoldable pub choosing : Interval → Interval → Site → TimedState → ℕ → TimedState
choosing last new site s inputs =
    let old = s.core.position in
    let after = scanned site s inputs in
    if is last old.interval && is new after.core.position.interval
    then moved after (entering new (next_demanded (ruled_site site s) s.core inputs) old)
    else after

-- the target is chosen again after yellow
unfoldable pub chooses_again : Site → TimedState → ℕ → TimedState
chooses_again = choosing Yellow AllRed

-- the target is chosen again after early cut-off green
unfoldable pub chooses_early_again : Site → TimedState → ℕ → TimedState
chooses_early_again = choosing EarlyCutOff Yellow

-- ── Steps that are wrong: part 1 ──

-- No lock, no button and no call is registered: the step sees no input. It sees no extension either, which alters no lights: no other phase is demanded.
unfoldable pub registers_none : Site → TimedState → ℕ → TimedState
registers_none site s inputs = scanned site s 0

-- while a phase is being left no input is seen
unfoldable pub drops_locks : Site → TimedState → ℕ → TimedState
drops_locks site s inputs = scanned site s (if is_leaving s.core.position.interval then 0 else inputs)

-- the movement is in C1 or C2
unfoldable pub clearing : State → ℕ → Bool
clearing s k = not (is_idle (movement s k).stage || is_walk (movement s k).stage)

-- a press while its movement is in clearance is dropped: its bit is taken off the inputs
unfoldable pub drops_presses : Site → TimedState → ℕ → TimedState
drops_presses site s inputs =
    scanned site s (inputs - sum_of (λ k. if pressed inputs k && clearing s.core k then 2 ^ (48 + k) else 0) site.size.movements)

-- ── A step that is wrong: part 5 ──

-- no walk begins with the phase that starts after start red; its demand stays
unfoldable pub forgets_walk : Site → TimedState → ℕ → TimedState
forgets_walk site s inputs =
    let after = scanned site s inputs in
    let demands : Demands =
    record { locks = after.core.demands.locks; buttons = buttons_after s.core.demands.buttons s.core.movements inputs } in
    let core : State =
    record { position = after.core.position; counts = after.core.counts; demands = demands; movements = s.core.movements } in
    if is_start_red s.core.position.interval
    then record { core = core; kept = after.kept; ruling = after.ruling; waiting = after.waiting }
    else after

-- ── A step that is wrong: the counts ──

-- the maximum count is set back when no other phase is demanded, so when a call without lock drops away
unfoldable pub sets_back : Site → TimedState → ℕ → TimedState
sets_back site s inputs =
    let core = s.core in
    let counts : Counts =
    if is_held (next_demanded site core inputs) then core.counts else record { gap = core.counts.gap; maximum = 0 } in
    scanned site (with s core.position counts core.movements) inputs

-- ── Wait bounds that are wrong ──

-- an invented one: a minute, whatever the settings are
unfoldable pub invented_bound : Site → ℕ
invented_bound site = 600

-- A and C once: start red plus, summed over phases, L + M + X + A + C + 2 × (E + Y + R)
unfoldable pub small_bound : Site → ℕ
small_bound site =
    let a = longest_walk site.crossings site.times.walks site.size.movements in
    let c = longest_clearance site.crossings site.times.walks site.size.movements in
    site.times.start + sum_of (λ p. phase_share (phase_times site.times p) (a p) (c p) - (a p + c p)) site.size.phases

-- ── Answers that are wrong: the state is that of the scanning rules ──

-- the answers of the step call and of the retiming call replaced; that of the step call also by the personality
abbrev pub answering : (List ℕ → Outcome → Outcome) → (Verdict → Verdict) → Controller TimedState
answering outcome verdict =
    record {
      verdict = scanning.verdict;
      fresh = scanning.fresh;
      outcome = λ b s inputs room. outcome b (scanning.outcome b s inputs room);
      next = scanning.next;
      buffer = scanning.buffer;
      retime_verdict = λ b s new. verdict (scanning.retime_verdict b s new);
      retimed = scanning.retimed;
      seen = scanning.seen;
      ruling = scanning.ruling;
      times_wait = scanning.times_wait;
    }

-- for refusals with one number: another number, and another place
module _ (number given at : ℕ) where
  unfoldable pub step_told : Outcome → Outcome
  step_told (Ok wait) = Stepped wait
  step_told (Err r) = if eqb r.number number then StepRefused given at else StepRefused r.number r.place

  unfoldable pub retime_told : Verdict → Verdict
  retime_told (Ok _) = Accepted
  retime_told (Err r) = if eqb r.number number then Refused given at else Refused r.number r.place

  abbrev pub mistells : Controller TimedState
  mistells = answering (λ b outcome. step_told outcome) retime_told

-- the wait bound of the personality, whatever times rule
unfoldable pub own_bound : List ℕ → Outcome → Outcome
own_bound b (Ok wait) = Stepped (wait_bound (site_of b))
own_bound b (Err r) = StepRefused r.number r.place

-- ── Colours that are wrong: the state is that of the scanning rules ──

-- every group that should show one colour shows another
abbrev pub painting : ℕ → ℕ → Controller TimedState
painting colour other =
    record {
      verdict = scanning.verdict;
      fresh = scanning.fresh;
      outcome = scanning.outcome;
      next = scanning.next;
      buffer = λ b s inputs buffer. map (λ shown. if eqb shown colour then other else shown) (scanning.buffer b s inputs buffer);
      retime_verdict = scanning.retime_verdict;
      retimed = scanning.retimed;
      seen = scanning.seen;
      ruling = scanning.ruling;
      times_wait = scanning.times_wait;
    }

-- ── Searches for the next phase that are wrong; `scanning` is `finding next_demanded` ──

-- none: every other demand stays unread
unfoldable pub unread : Site → State → ℕ → Option ℕ
unread site s inputs = None

-- another phase that is demanded
unfoldable pub demanded_else : Site → State → ℕ → ℕ → Bool
demanded_else site s inputs p = demanded site s inputs p && not (eqb p s.position.phase)

-- the first of the order, counted from its beginning
unfoldable pub from_the_beginning : Site → State → ℕ → Option ℕ
from_the_beginning site s inputs = first_in (demanded_else site s inputs) (ring site.order site.size.phases)

-- came-from, if that is demanded
unfoldable pub back_to : Option ℕ → Site → State → ℕ → Option ℕ
back_to None site s inputs = next_demanded site s inputs
back_to (Some p) site s inputs = if demanded_else site s inputs p then Some p else next_demanded site s inputs

unfoldable pub goes_back : Site → State → ℕ → Option ℕ
goes_back site s inputs = back_to s.position.previous site s inputs

-- ── A retiming call that is wrong ──

-- the new times rule at once, and none wait
unfoldable pub ruled_now : TimedState → Times → TimedState
ruled_now s times = record { core = s.core; kept = s.kept; ruling = times; waiting = none_waiting }

-- the controller of the rules with such a retiming; `by_rules` is `retiming retimed`
abbrev pub retiming : (TimedState → Times → TimedState) → Controller TimedState
retiming retimed = controller_of verdict_of timed_valid timed_stepped wait_bound retimed

-- ── A step that is wrong: the times ──

-- The state never alters, but for its times: those that wait rule from the next step on.
unfoldable pub only_retimes : Site → TimedState → ℕ → TimedState
only_retimes site s inputs = if s.waiting.present then ruled_now s s.waiting.times else s
