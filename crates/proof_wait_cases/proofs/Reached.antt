-- The run in which a lock and a button of the staggered junction wait as long as they may: four parts, since one computation has a limit. For each part
-- what it shows is computed, and the state that it leads to.
use Rattle.std.specs.Prelude.{Option, Some, None}
use Prim.Native.Nat.{ℕ, ◌+◌}
use mathlib.Core.Bool.{Bool, true, false}
use mathlib.Core.List.{List, ◌++◌, append_assoc}
use mathlib.Core.Path.{◌≡◌, refl, sym, ap, ap₂, ◌∙◌}
use native.Mathlib.Omega.{arith}
use lib.ListN.{length, drop, replicate, length-append}
use Rattle.rules.specs.declared.state.Interval.{Interval}
use Rattle.rules.specs.declared.state.Interval.TheVariants.{MinimumGreen, Running, EarlyCutOff}
use Rattle.rules.specs.Site.{site_of, times_in}
use Rattle.rules.specs.State.{idle}
use Rattle.rules.specs.Timed.{TimedState, none_waiting, fresh_timed}
use Rattle.rules.specs.Waits.{phase_wait, movement_wait}
use Rattle.rules.specs.Runs.{by_rules, Call, Step, left_by, accepted_steps}
use Rattle.rules.specs.DemandThree.{minimum_green_begins, walk_begins, some_step, registers_locked, registers_pressed}
use Rattle.rules.proofs.Opened.{opened}
use Rattle.proof_quick_runs.proofs.QuickRuns.{times_fit, calls_fit, quick_rules, rules-quickly}
use Rattle.proof_wait_cases.specs.Examples.{staggered}
use Rattle.proof_wait_cases.specs.WaitCases.{saturated, saturated_from, saturated_calls, saturated_steps, passing, first_passes, WaitsFor, WaitsReached}
use Rattle.proof_wait_cases.proofs.Parts.{steps_of, steps-append, drop-part, first_part, passing-part, some-part}

-- ── The states between the parts ──

-- every movement is idle, and the personality's own times rule
standing : (phase : ℕ) → Interval → (age : ℕ) → (previous target : Option ℕ) → (gap maximum locks buttons kept : ℕ) → TimedState
standing phase interval age previous target gap maximum locks buttons kept =
    record {
      core =
          record {
            position = record { phase = phase; interval = interval; age = age; previous = previous; target = target };
            counts = record { gap = gap; maximum = maximum };
            demands = record { locks = locks; buttons = buttons };
            movements = replicate 8 idle;
          };
      kept = kept;
      ruling = times_in staggered;
      waiting = none_waiting;
    }

-- A has started: the locks of B and C are set
first : TimedState
first = standing 0 MinimumGreen 1 None None 30 0 6 0 6

-- A is left for B, and the button is set too
second : TimedState
second = standing 0 EarlyCutOff 1 None (Some 1) 30 155 6 1 7

-- B runs: the locks of A and C and the button are set
third : TimedState
third = standing 1 Running 140 (Some 0) None 25 139 5 1 5

-- ── What each part shows ──

abbrev pressing : Step → Bool
pressing step = registers_pressed step 0

abbrev locking : Step → Bool
locking step = registers_locked (site_of staggered) step 0

-- the steps of a part
abbrev part : TimedState → List Call → List Step
part = steps_of quick_rules staggered

-- the state that a part leads to, how many steps it has, whether its first registers the button demand and the lock, and whether a walk and a minimum
-- green of A begin in it
shows : TimedState → List Call → TimedState × ℕ × Bool × Bool × Bool × Bool
shows s calls =
    let steps = part s calls in (
      left_by quick_rules staggered s calls,
      length steps,
      first_passes pressing steps,
      first_passes locking steps,
      some_step (walk_begins 0) steps,
      some_step (minimum_green_begins 0) steps,
    )

abbrev start : TimedState
start = fresh_timed (site_of staggered)

one : shows start (saturated_from 1 40) ≡ (first, 40, false, true, false, true)
unfolding opened staggered saturated saturated_from steps_of standing first shows first_passes
one = refl

two : shows first (saturated_from 41 235) ≡ (second, 235, true, false, false, false)
unfolding opened staggered saturated saturated_from steps_of standing first second shows first_passes
two = refl

three : shows second (saturated_from 276 279) ≡ (third, 279, false, true, false, false)
unfolding opened staggered saturated saturated_from steps_of standing second third shows first_passes
three = refl

-- both begin in the last step of the fourth part
ends : List Step → Bool × ℕ × Bool × ℕ
ends steps = (
  some_step (walk_begins 0) steps,
  passing (walk_begins 0) steps,
  some_step (minimum_green_begins 0) steps,
  passing (minimum_green_begins 0) steps,
)

four : ends (part third (saturated_from 555 278)) ≡ (true, 277, true, 277)
unfolding opened staggered saturated saturated_from steps_of standing third passing ends
four = refl

numbers : (792 ≡ movement_wait (site_of staggered) 0 0) × (557 ≡ phase_wait (site_of staggered) 0)
unfolding opened staggered
numbers = (refl, refl)

-- ── Together ──

abbrev part_one : List Step
part_one = part start (saturated_from 1 40)

abbrev part_two : List Step
part_two = part first (saturated_from 41 235)

abbrev part_three : List Step
part_three = part second (saturated_from 276 279)

abbrev part_four : List Step
part_four = part third (saturated_from 555 278)

module _ (calls : List Call) where
  after_one : part start (saturated_from 1 40 ++ calls) ≡ part_one ++ part first calls
  unfolding shows
  after_one =
      steps-append quick_rules staggered start (saturated_from 1 40) calls
      ∙ ap (λ (s : TimedState). part_one ++ part s calls) (λ i. (one i).0)

  after_two : part first (saturated_from 41 235 ++ calls) ≡ part_two ++ part second calls
  unfolding shows
  after_two =
      steps-append quick_rules staggered first (saturated_from 41 235) calls
      ∙ ap (λ (s : TimedState). part_two ++ part s calls) (λ i. (two i).0)

  after-three : part second (saturated_from 276 279 ++ calls) ≡ part_three ++ part third calls
  unfolding shows
  after-three =
      steps-append quick_rules staggered second (saturated_from 276 279) calls
      ∙ ap (λ (s : TimedState). part_three ++ part s calls) (λ i. (three i).0)

-- the times fit, so that the run may be computed without the test of the times
own-fit : times_fit (site_of staggered) start ≡ true
unfolding opened staggered
own-fit = refl

calls-fit : calls_fit (site_of staggered) saturated_calls ≡ true
unfolding saturated_calls saturated_from calls_fit
calls-fit = refl

quick-steps : saturated_steps ≡ part start saturated_calls
unfolding saturated_steps steps_of by_rules
quick-steps = ap accepted_steps (rules-quickly staggered own-fit saturated_calls calls-fit)

all-parts : saturated_steps ≡ part_one ++ (part_two ++ (part_three ++ part_four))
unfolding saturated_calls
all-parts =
    quick-steps
    ∙ after_one (saturated_from 41 235 ++ (saturated_from 276 279 ++ saturated_from 555 278))
    ∙ ap (λ (l : List Step). part_one ++ l) (after_two (saturated_from 276 279 ++ saturated_from 555 278))
    ∙ ap (λ (l : List Step). part_one ++ (part_two ++ l)) (after-three (saturated_from 555 278))

-- from step 41 on, and from step 276 on
from-press : drop 40 saturated_steps ≡ part_two ++ (part_three ++ part_four)
unfolding shows
from-press = ap (drop 40) all-parts ∙ drop-part 40 part_one (part_two ++ (part_three ++ part_four)) (λ i. (one i).1)

from-lock : drop 275 saturated_steps ≡ part_three ++ part_four
unfolding shows
from-lock =
    ap (drop 275) (all-parts ∙ sym (append_assoc part_one part_two (part_three ++ part_four)))
    ∙ drop-part 275 (part_one ++ part_two) (part_three ++ part_four) (length-append part_one part_two ∙ ap₂ ◌+◌ (λ i. (one i).1) (λ i. (two i).1))

pub waits-reached : WaitsReached
unfolding WaitsFor shows ends
waits-reached =
    record {
      button = (
        791,
        numbers.0,
        rw from-press (
          first_part pressing part_two (part_three ++ part_four) (λ i. (two i).2),
          some-part (walk_begins 0) part_two (part_three ++ part_four) (some-part (walk_begins 0) part_three part_four (λ i. (four i).0)),
          passing-part (walk_begins 0) part_two (part_three ++ part_four) (λ i. (two i).4)
              ∙ omega (
                arith,
                passing-part (walk_begins 0) part_three part_four (λ i. (three i).4),
                long-two,
                long-three,
                walk-four,
              ),
        ),
      );
      lock = (
        556,
        numbers.1,
        rw from-lock (
          first_part locking part_three part_four (λ i. (three i).3),
          some-part (minimum_green_begins 0) part_three part_four (λ i. (four i).2),
          passing-part (minimum_green_begins 0) part_three part_four (λ i. (three i).5) ∙ omega (arith, long-three, green-four),
        ),
      );
    }
  where
    long-two : length part_two ≡ 235
    long-two = λ i. (two i).1

    long-three : length part_three ≡ 279
    long-three = λ i. (three i).1

    walk-four : passing (walk_begins 0) part_four ≡ 277
    walk-four = λ i. (four i).1

    green-four : passing (minimum_green_begins 0) part_four ≡ 277
    green-four = λ i. (four i).3
