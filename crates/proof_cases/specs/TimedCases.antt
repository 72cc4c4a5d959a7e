-- Worked cases of runs with retiming calls, on the junction of two phases and others: each of them holds. Cases of one call are in
-- rules/specs/TimedCases.antt.
use Rattle.std.specs.Prelude.{ℕ, ◌^◌, List, [], ◌∷◌, ◌++◌, ◌≡◌, eqb, set, if◌then◌else◌}
use Rattle.rules.specs.declared.state.Interval.TheVariants.{StartRed, LateStart, MinimumGreen, Running, Yellow, AllRed}
use Rattle.rules.specs.Colours.{red, yellow, green, flashing}
use Rattle.rules.specs.Junctions.{junction, slower, late_b, crossing, other_walk}
use Rattle.rules.specs.CallCases.{AllHold}
use Rattle.proof_cases.specs.Traces.{line, Told, ◌reports◌, changes}
use Rattle.proof_cases.specs.Cases.{once_b}

-- The changes of n step calls whose input bits are given by step, with the personalities of the retiming calls before each step.
pub data RetimedRun : Type 0 where
  retiming : List ℕ → (ℕ → ℕ) → (ℕ → List (List ℕ)) → ℕ → List Told → RetimedRun

abbrev pub Holds : RetimedRun → Type 0
Holds (retiming b inputs handed n lines) = changes b inputs handed n ≡ lines

-- ── Retiming calls ──

-- these personalities before that step, and none before others
unfoldable pub before : ℕ → List (List ℕ) → ℕ → List (List ℕ)
before step new other = if eqb other step then new else []

-- one before a step, and another before a later one
unfoldable pub before_both : ℕ → List ℕ → ℕ → List ℕ → ℕ → List (List ℕ)
before_both step new later other i = before step (new ∷ []) i ++ before later (other ∷ []) i

-- ── Inputs ──

-- detector 1 in step 12, and detector 0 in step 80
unfoldable pub once_each : ℕ → ℕ
once_each step = if eqb step 80 then 1 else once_b step

-- the button of the crossing in step 3
unfoldable pub press_at_once : ℕ → ℕ
press_at_once step = if eqb step 3 then 2 ^ 48 else if eqb step 30 then 2 else 0

-- ── Lines of the junction ──

-- up to the end of A's all-red, by its own times
abbrev own_a : List Told → List Told
own_a later =
    (line 1 0 StartRed (red ∷ red ∷ []) reports 270)
    ∷ (line 10 0 MinimumGreen (green ∷ red ∷ []) reports 270)
    ∷ (line 30 0 Running (green ∷ red ∷ []) reports 270)
    ∷ (line 31 0 Yellow (yellow ∷ red ∷ []) reports 270)
    ∷ (line 61 0 AllRed (red ∷ red ∷ []) reports 270)
    ∷ later

-- B by the longer times
abbrev slow_b : List Told → List Told
slow_b later =
    (line 71 1 MinimumGreen (red ∷ green ∷ []) reports 460) ∷ (line 111 1 Running (red ∷ green ∷ []) reports 460) ∷ later

-- ── The lists and their statement ──

-- retimed in minimum green, in all-red and in start red; back to the old times while the new ones wait; and B left by the new times
unfoldable pub first_runs : List RetimedRun
first_runs =
    retiming junction once_b (before 20 (slower ∷ [])) 112 (own_a (slow_b []))
    ∷ retiming junction once_b (before 65 (slower ∷ [])) 112 (own_a (slow_b []))
    -- start red ends by the old times, and the new ones rule from the start of A on
    ∷ retiming junction once_b (before 5 (slower ∷ [])) 112
    ((line 1 0 StartRed (red ∷ red ∷ []) reports 270)
    ∷ (line 10 0 MinimumGreen (green ∷ red ∷ []) reports 460)
    ∷ (line 50 0 Running (green ∷ red ∷ []) reports 460)
    ∷ (line 51 0 Yellow (yellow ∷ red ∷ []) reports 460)
    ∷ (line 91 0 AllRed (red ∷ red ∷ []) reports 460)
    ∷ (line 111 1 MinimumGreen (red ∷ green ∷ []) reports 460)
    ∷ [])
    ∷ retiming junction once_b (before_both 20 slower 40 junction) 92
    (own_a ((line 71 1 MinimumGreen (red ∷ green ∷ []) reports 270) ∷ (line 91 1 Running (red ∷ green ∷ []) reports 270) ∷ []))
    ∷ []

-- retimed in running and in yellow; two in a row; and one that is refused, which leaves the times that wait
unfoldable pub second_runs : List RetimedRun
second_runs =
    retiming junction once_b (before 31 (slower ∷ [])) 112 (own_a (slow_b []))
    ∷ retiming junction once_b (before 40 (slower ∷ [])) 112 (own_a (slow_b []))
    ∷ retiming junction once_b (before 20 (junction ∷ slower ∷ [])) 112 (own_a (slow_b []))
    ∷ retiming junction once_b (before 20 (slower ∷ set junction 63 2 ∷ [])) 112 (own_a (slow_b []))
    ∷ []

unfoldable pub third_runs : List RetimedRun
third_runs =
    -- B is left by the new times
    retiming junction once_each (before 20 (slower ∷ [])) 172
    (own_a
    (slow_b
    ((line 112 1 Yellow (red ∷ yellow ∷ []) reports 460)
    ∷ (line 152 1 AllRed (red ∷ red ∷ []) reports 460)
    ∷ (line 172 0 MinimumGreen (green ∷ red ∷ []) reports 460)
    ∷ [])))
    -- a late start by the new times, and none by the new times
    ∷ retiming junction once_b (before 20 (late_b ∷ [])) 92
    (own_a ((line 71 1 LateStart (red ∷ green ∷ []) reports 290) ∷ (line 91 1 MinimumGreen (red ∷ green ∷ []) reports 290) ∷ []))
    ∷ retiming late_b once_b (before 20 (junction ∷ [])) 72
    ((line 1 0 StartRed (red ∷ red ∷ []) reports 290)
    ∷ (line 10 0 MinimumGreen (green ∷ red ∷ []) reports 290)
    ∷ (line 30 0 Running (green ∷ red ∷ []) reports 290)
    ∷ (line 31 0 Yellow (yellow ∷ red ∷ []) reports 290)
    ∷ (line 61 0 AllRed (red ∷ red ∷ []) reports 290)
    ∷ (line 71 1 MinimumGreen (red ∷ green ∷ []) reports 270)
    ∷ [])
    -- a walk begins in the change, and its clearances go by the new times: C1 is 15, and C2 30 holds all-red
    ∷ retiming crossing press_at_once (before 5 (other_walk ∷ [])) 92
    ((line 1 0 StartRed (red ∷ red ∷ red ∷ []) reports 410)
    ∷ (line 10 0 MinimumGreen (green ∷ red ∷ green ∷ []) reports 400)
    ∷ (line 30 0 Running (green ∷ red ∷ green ∷ []) reports 400)
    ∷ (line 31 0 Running (green ∷ red ∷ flashing ∷ []) reports 400)
    ∷ (line 46 0 Yellow (yellow ∷ red ∷ flashing ∷ []) reports 400)
    ∷ (line 76 0 AllRed (red ∷ red ∷ red ∷ []) reports 400)
    ∷ (line 86 1 MinimumGreen (red ∷ green ∷ red ∷ []) reports 400)
    ∷ [])
    ∷ []

unfoldable pub TimedRunsHold : Type 0
TimedRunsHold = AllHold Holds first_runs × AllHold Holds second_runs × AllHold Holds third_runs
