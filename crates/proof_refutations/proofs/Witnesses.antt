-- The personality and the list of calls by which each controller that must not pass is refuted. Steps are counted from 1.
use Prim.Native.Nat.{ℕ, zero, suc, ◌+◌, ◌^◌}
use mathlib.Core.Bool.{◌||◌}
use mathlib.Core.List.{List, [], ◌∷◌, ◌++◌, map}
use lib.Dec.{leb, eqb}
use lib.ListN.{replicate}
use Rattle.std.specs.Prelude.{if◌then◌else◌}
use Rattle.rules.specs.Junctions.{two, twos, fours, sections, put_two, short_phase, junction, cut_offs}
use Rattle.rules.specs.Runs.{StepCall, Call, step_call, retime_call}

-- n calls from a step on, whose input bits are given by the step, with a buffer for so many groups
unfoldable pub calls_from : (ℕ → ℕ) → ℕ → ℕ → ℕ → List StepCall
calls_from inputs groups step zero = []
calls_from inputs groups step (suc n) =
    record { inputs = inputs step; buffer = replicate groups 0 } ∷ calls_from inputs groups (step + 1) n

-- ── Sites ──

-- Two phases with a group and a detector each, whose modes are given. The times are as short as they can be: start red 10, M 10, X 10, G 0, Y 30, R 10. The
-- wait bound is 210, and the wait of a phase 100.
unfoldable pub shortest : ℕ → ℕ → List ℕ
shortest mode_a mode_b =
    let phase = twos (0 ∷ 10 ∷ 10 ∷ 0 ∷ 30 ∷ 10 ∷ []) in
    sections (2 ∷ 2 ∷ two 10) (phase ++ phase) (1 ∷ 0 ∷ 2 ∷ 0 ∷ []) (fours (2 ∷ 1 ∷ [])) (0 ∷ mode_a ∷ 1 ∷ mode_b ∷ []) []

-- with locking detectors
unfoldable pub small : List ℕ
small = shortest 2 2

-- the same with another start red
unfoldable pub small_from : ℕ → List ℕ
small_from start = put_two small 6 start

-- the same with X 20 in A and L 5 in B
unfoldable pub small_later : List ℕ
small_later = put_two (put_two small 16 20) 24 5

-- the same, but A has L 5 and a detector that calls without lock
unfoldable pub small_late : List ℕ
small_late = put_two (shortest 1 2) 12 5

-- Two phases as short, and two crossings beside A with W 10, C1 1 and C2 2, groups 2 and 3. All groups of A conflict with that of B, whose detector is
-- detector 0. The wait bound is 236.
unfoldable pub small_crossings : List ℕ
small_crossings =
    let phase = twos (0 ∷ 10 ∷ 10 ∷ 0 ∷ 30 ∷ 10 ∷ []) in
    let walk = twos (10 ∷ 1 ∷ 2 ∷ []) in
    sections (2 ∷ 4 ∷ two 10) (phase ++ phase) (1 ∷ 0 ∷ 2 ∷ 0 ∷ 1 ∷ 2 ∷ 1 ∷ 2 ∷ []) (fours (2 ∷ 13 ∷ 2 ∷ 2 ∷ [])) (1 ∷ 2 ∷ []) (walk ++ walk)

-- Three phases as short, with a group and a locking detector each, all in conflict, and a crossing beside C, group 3. A has a late start of 1.
unfoldable pub three_and_crossing : List ℕ
three_and_crossing =
    let phase : ℕ → List ℕ = λ late. twos (late ∷ 10 ∷ 10 ∷ 0 ∷ 30 ∷ 10 ∷ []) in
    sections (3 ∷ 4 ∷ two 10) (phase 1 ++ phase 0 ++ phase 0) (1 ∷ 0 ∷ 2 ∷ 0 ∷ 4 ∷ 0 ∷ 4 ∷ 2 ∷ []) (fours (14 ∷ 13 ∷ 3 ∷ 3 ∷ []))
    (0 ∷ 2 ∷ 1 ∷ 2 ∷ 2 ∷ 2 ∷ [])
    (twos (10 ∷ 10 ∷ 10 ∷ []))

-- A and B, and two crossings beside A with a walk of 10 and clearances that are given: groups 2 and 3. All groups of A conflict with
-- group 1, that of B, which has a detector that calls without lock. The greens are as short as they can be.
unfoldable pub crossings : ℕ → List ℕ
crossings clearance =
    let phase = twos (0 ∷ 10 ∷ 10 ∷ 5 ∷ 30 ∷ 10 ∷ []) in
    let walk = twos (10 ∷ clearance ∷ clearance ∷ []) in
    sections
    (2 ∷ 4 ∷ two 10)
    (phase ++ phase)
    (1 ∷ 0 ∷ 2 ∷ 0 ∷ 1 ∷ 2 ∷ 1 ∷ 2 ∷ [])
    (fours (2 ∷ 13 ∷ 2 ∷ 2 ∷ []))
    (1 ∷ 5 ∷ [])
    (walk ++ walk)

-- A with a crossing of W 10, C1 200 and C2 100, group 2, and with a detector that only extends, detector 1; B with a detector that calls without lock.
-- A has M 10, X 100, G 5, and B has M 10, X 10, G 0.
unfoldable pub long_clearance : List ℕ
long_clearance =
    sections
    (2 ∷ 3 ∷ two 10)
    (twos (0 ∷ 10 ∷ 100 ∷ 5 ∷ 30 ∷ 10 ∷ []) ++ twos (0 ∷ 10 ∷ 10 ∷ 0 ∷ 30 ∷ 10 ∷ []))
    (1 ∷ 0 ∷ 2 ∷ 0 ∷ 1 ∷ 2 ∷ [])
    (fours (2 ∷ 5 ∷ 2 ∷ []))
    (1 ∷ 1 ∷ 0 ∷ 4 ∷ [])
    (twos (10 ∷ 200 ∷ 100 ∷ []))

-- A, B and C: group 0, with a mark that is given, is of A and C, group 1 of B; detector 0 is of B, detector 1 of C,
-- detector 2 of A
unfoldable pub shared : ℕ → List ℕ
shared mark =
    sections
    (3 ∷ 2 ∷ two 10)
    (short_phase ++ short_phase ++ short_phase)
    (5 ∷ mark ∷ 2 ∷ 0 ∷ [])
    (fours (2 ∷ 1 ∷ []))
    (1 ∷ 6 ∷ 2 ∷ 6 ∷ 0 ∷ 6 ∷ [])
    []

-- the same, where group 0 stops early: A has an early cut-off green as long as its yellow
unfoldable pub shared_arrow : List ℕ
shared_arrow = shared 3 ++ cut_offs (30 ∷ 0 ∷ 0 ∷ [])

-- ── Inputs ──

-- detector 1 in the first step only
unfoldable pub at_once : ℕ → ℕ
at_once step = if eqb step 1 then 2 else 0

-- the first crossing in step 1, so that it walks from step 10 on; detector 0 from step 30 on, so that it clears from there on
unfoldable pub walk_then_b : ℕ → ℕ
walk_then_b step = if eqb step 1 then 2 ^ 48 else if leb 30 step then 1 else 0

-- the detector of C in step 12, and that of B in step 40, when A is being left for C
unfoldable pub later_b : ℕ → ℕ
later_b step = if eqb step 12 then 2 else if eqb step 40 then 1 else 0

-- the first crossing in step 1, detector 0 in step 30, and the crossing again in step 31, when it clears
unfoldable pub pressed_again : ℕ → ℕ
pressed_again step = if eqb step 1 || eqb step 31 then 2 ^ 48 else if eqb step 30 then 1 else 0

-- the same; the second crossing in step 229, the last of the first one's clearances, so that it walks; B from then on
unfoldable pub longest_wait : ℕ → ℕ
longest_wait step = if eqb step 229 then 2 ^ 49 else if leb 230 step then 1 else pressed_again step

-- the same; B is called again from step 330 on, in which the crossing is idle again, and A is extended from then on
unfoldable pub called_again : ℕ → ℕ
called_again step = if leb 330 step then 3 else pressed_again step

-- the detectors of B and C and the crossing in step 1, and the detector of A in step 40, when A is being left for B
unfoldable pub then_a : ℕ → ℕ
then_a step = if eqb step 1 then 6 + 2 ^ 48 else if eqb step 40 then 1 else 0

-- an input in the first step only
unfoldable pub first_step : ℕ → ℕ → ℕ
first_step input step = if eqb step 1 then input else 0

-- detector 0 in the first ten steps
unfoldable pub until_ten : ℕ → ℕ
until_ten step = if leb step 10 then 1 else 0

-- detector 1 in step 1, and detector 0 in step 30, when A is being left
unfoldable pub back_to_a : ℕ → ℕ
back_to_a step = if eqb step 30 then 1 else first_step 2 step

-- detector 0 and the first crossing in step 1; that crossing again in step 22, when it clears; the second crossing in step 30
unfoldable pub pressed_twice : ℕ → ℕ
pressed_twice step = if eqb step 22 then 2 ^ 48 else if eqb step 30 then 2 ^ 49 else first_step (1 + 2 ^ 48) step

-- ── Calls with a retiming among them ──

-- n such step calls as calls of a run
unfoldable pub steps_from : (ℕ → ℕ) → ℕ → ℕ → ℕ → List Call
steps_from inputs groups step n = map step_call (calls_from inputs groups step n)

-- 79 steps of the junction with longer times, with detector 1 in the first; then the times of the junction; then 22 steps
unfoldable pub retimed_in_yellow : List Call
retimed_in_yellow = steps_from at_once 2 1 79 ++ retime_call junction ∷ steps_from at_once 2 80 22

-- detector 1 in step 1; the shortest times with start red 11 wait after step 1, and those with start red 12 after step 2; 634 steps
unfoldable pub retimed_twice : List Call
retimed_twice = steps_from at_once 2 1 1 ++ retime_call (small_from 11) ∷ (steps_from at_once 2 2 1 ++ retime_call (small_from 12) ∷ steps_from at_once 2 3 632)

-- detector 1 in step 1; after it longer times wait; 115 steps
unfoldable pub retimed_once : List Call
retimed_once = steps_from at_once 2 1 1 ++ retime_call small_later ∷ steps_from at_once 2 2 114

-- times with start red 11 wait before step 1; 10 steps, in the last of which A starts
unfoldable pub retimed_first : List Call
retimed_first = retime_call (small_from 11) ∷ steps_from at_once 2 1 10

-- one step call with an input that may be stray, and a buffer of one byte
unfoldable pub short_buffer : ℕ → List Call
short_buffer inputs = step_call (record { inputs = inputs; buffer = 0 ∷ [] }) ∷ []
