-- Controllers whose lamps do not serve: other colours than those of the rules, and greens that are a step short or long. One that is red for ever meets
-- demand 3 all the same.
use Rattle.std.specs.Prelude.{ℕ, ◌+◌, ◌-◌, Bool, ◌&&◌, map, eqb, leb, length, if◌then◌else◌}
use Rattle.laws.specs.Folds.{list_of}
use Rattle.rules.specs.declared.site.PhaseTimes.{PhaseTimes}
use Rattle.rules.specs.declared.site.Site.{Site}
use Rattle.rules.specs.declared.site.Times.{Times}
use Rattle.rules.specs.declared.site.WalkTimes.{WalkTimes}
use Rattle.rules.specs.declared.state.State.{State}
use Rattle.rules.specs.Personality.{verdict_of}
use Rattle.rules.specs.Site.{site_of, group_of, walk_times, is_pedestrian, movement_of}
use Rattle.rules.specs.State.{movement}
use Rattle.rules.specs.SiteTimes.{under}
use Rattle.rules.specs.IntervalTable.{is_minimum_green, is_running}
use Rattle.rules.specs.Colours.{red, shown_in}
use Rattle.rules.specs.WaitBound.{wait_bound}
use Rattle.rules.specs.Timed.{TimedState, timed_valid, timed_stepped}
use Rattle.rules.specs.TimedCall.{retimed}
use Rattle.rules.specs.Runs.{Controller, controller_of, by_rules, accepted_steps, OfEveryRun}
use Rattle.rules.specs.DemandThree.{DemandThreeOf}
use Rattle.rules.specs.Lamps.{GreensShown, GreensLast, MetByLight, LampsServedOf}

-- ── Other colours ──

-- a controller with other colours: each group shows what is given for it, by the site, the times that rule and the state that is handed back
unfoldable pub recoloured : {S : Type 0} → (Site → Times → State → ℕ → ℕ) → Controller S → Controller S
recoloured colour controller =
    record {
      verdict = controller.verdict;
      fresh = controller.fresh;
      outcome = controller.outcome;
      next = controller.next;
      buffer = λ b s inputs buffer.
          let next = controller.next b s inputs (length buffer) in
          list_of (colour (site_of b) (controller.ruling next) (controller.seen next)) (length buffer);
      retime_verdict = controller.retime_verdict;
      retimed = controller.retimed;
      seen = controller.seen;
      ruling = controller.ruling;
      times_wait = controller.times_wait;
    }

-- red for ever
unfoldable pub red_for_ever : {S : Type 0} → Controller S → Controller S
red_for_ever = recoloured (λ site times s g. red)

-- the rules, but a group is red if the test passes
unfoldable pub red_if : (Site → State → ℕ → Bool) → Controller TimedState
red_if test = recoloured (λ site times s g. if test site s g then red else shown_in (under site times) s g) by_rules

-- in running
unfoldable pub when_running : Site → State → ℕ → Bool
when_running site s g = is_running s.position.interval

-- a group with late start in minimum green
unfoldable pub when_late : Site → State → ℕ → Bool
when_late site s g = eqb (group_of site.groups g).mark 1 && is_minimum_green s.position.interval

-- a pedestrian group
unfoldable pub when_walking : Site → State → ℕ → Bool
when_walking site s g = is_pedestrian site.groups g

-- a pedestrian group from the last of its W steps on
unfoldable pub when_walked : Site → State → ℕ → Bool
when_walked site s g =
    let k = movement_of site.groups g in
    is_pedestrian site.groups g && leb (walk_times site.times k).walk (movement s k).age

-- ── Greens that are a step short or long ──

-- every M, and every W, by one step more or less
unfoldable pub with_minimum : (ℕ → ℕ) → Times → Times
with_minimum other times =
    record {
      start = times.start;
      phases = map (λ (own : PhaseTimes). record { late = own.late; minimum = other own.minimum; maximum = own.maximum; gap = own.gap; yellow = own.yellow; red = own.red; early = own.early }) times.phases;
      walks = times.walks;
    }

unfoldable pub with_walk : (ℕ → ℕ) → Times → Times
with_walk other times =
    record {
      start = times.start;
      phases = times.phases;
      walks = map (λ (own : WalkTimes). record { walk = other own.walk; first = own.first; second = own.second }) times.walks;
    }

-- a step by other times than those that rule; new times never take over
unfoldable pub stepped_by : (Times → Times) → Site → TimedState → ℕ → TimedState
stepped_by other site s inputs =
    let next = timed_stepped site (record { core = s.core; kept = s.kept; ruling = other s.ruling; waiting = s.waiting }) inputs in
    record { core = next.core; kept = next.kept; ruling = s.ruling; waiting = s.waiting }

abbrev pub goes_by : (Times → Times) → Controller TimedState
goes_by other = controller_of verdict_of timed_valid (stepped_by other) wait_bound retimed

abbrev pub short_minimum : Controller TimedState
short_minimum = goes_by (with_minimum (λ m. m - 1))

abbrev pub long_minimum : Controller TimedState
long_minimum = goes_by (with_minimum (λ m. m + 1))

abbrev pub short_walk : Controller TimedState
short_walk = goes_by (with_walk (λ w. w - 1))

-- ── What is shown of them ──

-- Demand 3 does not see that the lamps are red for ever: a controller that meets the demand meets it with such a buffer too.
unfoldable pub RedMeetsDemandThree : Type 1
RedMeetsDemandThree = (S : Type 0) (controller : Controller S) → DemandThreeOf controller → DemandThreeOf (red_for_ever controller)

-- Lamps are not served by the rules with such a buffer: each part of the statement is false of them.
pub record RedFails : Type 0 where
  pub shown : ¬ OfEveryRun (red_for_ever by_rules) (λ b calls. GreensShown (site_of b) (accepted_steps calls))
  pub lasting : ¬ OfEveryRun (red_for_ever by_rules) (λ b calls. GreensLast (site_of b) (accepted_steps calls))
  pub met : ¬ OfEveryRun (red_for_ever by_rules) (λ b calls. MetByLight (site_of b) (accepted_steps calls))
  pub served : ¬ LampsServedOf (red_for_ever by_rules)

-- Nor are they by the others: each is seen at one clause of a part.
pub record LampsFail : Type 0 where
  -- what is shown
  pub running_red : ¬ OfEveryRun (red_if when_running) (λ b calls. GreensShown (site_of b) (accepted_steps calls))
  pub late_red : ¬ OfEveryRun (red_if when_late) (λ b calls. GreensShown (site_of b) (accepted_steps calls))
  pub walk_red : ¬ OfEveryRun (red_if when_walking) (λ b calls. GreensShown (site_of b) (accepted_steps calls))
  -- how long: minimum green for M steps and no more, shown for M + 1; a walk for W, and shown as long
  pub minimum_short : ¬ OfEveryRun short_minimum (λ b calls. GreensLast (site_of b) (accepted_steps calls))
  pub minimum_long : ¬ OfEveryRun long_minimum (λ b calls. GreensLast (site_of b) (accepted_steps calls))
  pub green_cut : ¬ OfEveryRun (red_if when_running) (λ b calls. GreensLast (site_of b) (accepted_steps calls))
  pub walk_short : ¬ OfEveryRun short_walk (λ b calls. GreensLast (site_of b) (accepted_steps calls))
  pub walk_cut : ¬ OfEveryRun (red_if when_walked) (λ b calls. GreensLast (site_of b) (accepted_steps calls))
  -- a button is met by light
  pub walk_unlit : ¬ OfEveryRun (red_if when_walking) (λ b calls. MetByLight (site_of b) (accepted_steps calls))
