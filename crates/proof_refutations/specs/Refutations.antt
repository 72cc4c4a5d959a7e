-- What is shown of the controllers that must not pass: demand 3, or that no phase starts twice while a demand waits, or that every wait is met, is
-- false of each.
use Rattle.std.specs.Prelude.{◌+◌}
use Rattle.rules.specs.declared.state.Interval.TheVariants.{Yellow, AllRed}
use Rattle.rules.specs.Personality.{verdict_of}
use Rattle.rules.specs.Site.{site_of}
use Rattle.rules.specs.Colours.{red, yellow, flashing}
use Rattle.rules.specs.WaitBound.{wait_bound}
use Rattle.rules.specs.Waits.{phase_wait}
use Rattle.rules.specs.Runs.{by_rules, accepted_steps, OfEveryRun}
use Rattle.rules.specs.DemandThree.{DemandThreeOf}
use Rattle.rules.specs.StepDemandThree.{MetWithin, OfEveryStepRun, StepDemandThreeOf}
use Rattle.rules.specs.OnceEach.{OnceEachOf, OthersOnce, FewOthers}
use Rattle.rules.specs.PhaseWaits.{EveryPlainWaitMetOf, EveryWaitMetOf}
use Rattle.rules.specs.Scanning.{finding}
use Rattle.proof_refutations.specs.Faults.{scanned, faulty, passes_ten, ages_only, never_alters, dawdles, stays_late, leaves_the_site, ends_on_timer, shortens, shortens_clearance, chooses_again, chooses_early_again, registers_none, drops_locks, drops_presses, forgets_walk, sets_back, invented_bound, small_bound, answering, mistells, own_bound, painting, unread, from_the_beginning, goes_back, ruled_now, only_retimes, retiming}

-- Wrong controllers, each refuted by one list of calls. One that sets the maximum count back when a call without lock drops away is not here: demand 3
-- does not see it, since its bound leaves room for a count that begins again. The waits see it, below; and demand 2 shuts it out: the contract of a step
-- gives the count.
pub record Refutations : Type 0 where
  -- part a
  pub passes_ten : ¬ DemandThreeOf (faulty passes_ten scanned wait_bound)
  -- part b, at a pedestrian group, at a vehicle group and at one that stops early
  pub ends_on_timer : ¬ DemandThreeOf (faulty verdict_of ends_on_timer wait_bound)
  pub chooses_again : ¬ DemandThreeOf (faulty verdict_of chooses_again wait_bound)
  pub chooses_early_again : ¬ DemandThreeOf (faulty verdict_of chooses_early_again wait_bound)
  -- part b: all-red, yellow or C2 is one step short
  pub short_red : ¬ DemandThreeOf (faulty verdict_of (shortens AllRed) wait_bound)
  pub short_yellow : ¬ DemandThreeOf (faulty verdict_of (shortens Yellow) wait_bound)
  pub short_clearance : ¬ DemandThreeOf (faulty verdict_of shortens_clearance wait_bound)
  -- part b: a group that should be red shows yellow, or flashing red
  pub yellow_for_red : ¬ DemandThreeOf (painting red yellow)
  pub flashing_for_red : ¬ DemandThreeOf (painting red flashing)
  -- part c, at a locked demand; the third is met one step late
  pub ages_only : ¬ DemandThreeOf (faulty verdict_of ages_only wait_bound)
  pub never_alters : ¬ DemandThreeOf (faulty verdict_of never_alters wait_bound)
  pub one_step_late : ¬ DemandThreeOf (faulty verdict_of (dawdles (λ site. wait_bound site + 1)) wait_bound)
  pub registers_none : ¬ DemandThreeOf (faulty verdict_of registers_none wait_bound)
  pub unread : ¬ DemandThreeOf (finding unread)
  pub drops_locks : ¬ DemandThreeOf (faulty verdict_of drops_locks wait_bound)
  -- part c, at a button demand
  pub drops_presses : ¬ DemandThreeOf (faulty verdict_of drops_presses wait_bound)
  -- part c, at a locked demand that waits through two changes of times for as long as the three waits together
  pub only_retimes : ¬ DemandThreeOf (faulty verdict_of only_retimes wait_bound)
  -- part d, at a call that is refused and at three that report another wait, the last after a change of times
  pub leaves_the_site : ¬ DemandThreeOf (faulty verdict_of leaves_the_site wait_bound)
  pub reports_invented : ¬ DemandThreeOf (faulty verdict_of scanned invented_bound)
  pub reports_small : ¬ DemandThreeOf (faulty verdict_of scanned small_bound)
  pub reports_own : ¬ DemandThreeOf (answering own_bound (λ verdict. verdict))
  -- part d, at a stray input, a short buffer, a new personality that is refused and one that differs elsewhere: another number, or another place
  pub stray_number : ¬ DemandThreeOf (mistells 15 14 0)
  pub stray_place : ¬ DemandThreeOf (mistells 15 15 1)
  pub buffer_number : ¬ DemandThreeOf (mistells 14 15 0)
  pub buffer_place : ¬ DemandThreeOf (mistells 14 14 1)
  pub read_number : ¬ DemandThreeOf (mistells 5 26 0)
  pub elsewhere_number : ¬ DemandThreeOf (mistells 26 13 0)
  pub elsewhere_place : ¬ DemandThreeOf (mistells 26 26 1)

-- A controller under which new times rule at once breaks part b: a yellow that has begun is cut.
unfoldable pub RulesAtOnceFails : Type 0
RulesAtOnceFails = ¬ DemandThreeOf (retiming ruled_now)

-- This one is about the rules themselves and not about another controller: with the smaller bound in the place of the wait bound, part c is
-- false of the rules.
unfoldable pub SmallBoundFails : Type 0
SmallBoundFails = ¬ OfEveryStepRun by_rules (λ site calls. MetWithin site (small_bound site) (accepted_steps calls))

-- Lists of step calls alone: a green that starts one step early, a demand that is met one step late, and an invented bound.
pub record StepRefutations : Type 0 where
  pub short_red : ¬ StepDemandThreeOf (faulty verdict_of (shortens AllRed) wait_bound)
  pub one_step_late : ¬ StepDemandThreeOf (faulty verdict_of (dawdles (λ site. wait_bound site + 1)) wait_bound)
  pub reports_invented : ¬ StepDemandThreeOf (faulty verdict_of scanned invented_bound)

-- Three controllers under which a phase starts twice while a demand waits: a lock under the first, a button under the others. Under the first that phase
-- is another than the one demanded, and as many starts of other phases come first as the site has phases. Under the last it is the one demanded, and
-- its second start meets the demand.
pub record StartsTwice : Type 0 where
  pub others_twice : ¬ OfEveryRun (finding from_the_beginning) (λ b calls. OthersOnce (site_of b) (accepted_steps calls))
  pub many_others : ¬ OfEveryRun (finding from_the_beginning) (λ b calls. FewOthers (site_of b) (accepted_steps calls))
  pub from_the_beginning : ¬ OnceEachOf (finding from_the_beginning)
  pub goes_back : ¬ OnceEachOf (finding goes_back)
  pub forgets_walk : ¬ OnceEachOf (faulty verdict_of forgets_walk wait_bound)

-- A controller that sets the maximum count back when a call without lock drops away lets a button wait longer than the wait of its movement: 489
-- further steps where fewer than 400 are promised. The wait bound of the site is 920, so demand 3 does not see it.
unfoldable pub SettingBackFails : Type 0
SettingBackFails = ¬ EveryPlainWaitMetOf (faulty verdict_of sets_back wait_bound)

-- Controllers that break a wait: of a lock, by one step; of a call without lock, which stands until the phase starts; of a lock, through a change of times;
-- and of a button.
pub record WaitsBroken : Type 0 where
  pub one_step_late : ¬ EveryPlainWaitMetOf (faulty verdict_of (dawdles (λ site. phase_wait site 0)) wait_bound)
  pub stays_late : ¬ EveryPlainWaitMetOf (faulty verdict_of stays_late wait_bound)
  pub only_retimes : ¬ EveryWaitMetOf (faulty verdict_of only_retimes wait_bound)
  pub never_alters : ¬ EveryWaitMetOf (faulty verdict_of never_alters wait_bound)
