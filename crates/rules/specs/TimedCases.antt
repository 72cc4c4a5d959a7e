-- Worked cases of one call on a timed state, as one list with one statement: every case holds. Each can be checked by hand with the papers, and
-- each must-fail edit of the rules about times makes one of them fail. Runs with retiming calls among them are in proof_cases.
use Rattle.std.specs.Prelude.{ℕ, true, false, List, [], ◌∷◌, ◌++◌, replicate, set, Some, None}
use Rattle.rules.specs.Types.{Stepped, StepRefused, Accepted, Refused, PhaseTimes, Times, Interval, StartRed, LateStart, MinimumGreen, Yellow, AllRed, KeptState, Walk, ClearanceTwo}
use Rattle.rules.specs.Site.{no_phase_times, no_walk_times, times_in}
use Rattle.rules.specs.State.{idle}
use Rattle.rules.specs.Timed.{TimedState, Waiting, none_waiting}
use Rattle.rules.specs.Junctions.{junction, put_two, put_kind, slower, late_b, crossing, other_walk, cut_offs, turning, ordered, longer_reds, edition_two}
use Rattle.rules.specs.LimitCases.{lowest, highest}
use Rattle.rules.specs.CallCases.{CallCase, answering, retiming, CallHolds, AllHold, at, gap◌max◌, locks◌buttons◌, state, ruled_by}

-- ── Writing a timed state ──

-- by the times of such bytes, while those of others wait
abbrev pub ruled_until : List ℕ → List ℕ → KeptState → TimedState
ruled_until b new s =
    record { core = s.core; kept = s.kept; ruling = times_in b; waiting = record { present = true; times = times_in new } }

-- by such times; such times wait, or are there though none wait
abbrev ruled_by_times : Times → Waiting → KeptState → TimedState
ruled_by_times ruling waiting s = record { core = s.core; kept = s.kept; ruling = ruling; waiting = waiting }

-- the times of a phase of the junction, with such a time of early cut-off green
abbrev short_times : ℕ → PhaseTimes
short_times early = record { late = 0; minimum = 20; maximum = 30; gap = 5; yellow = 30; red = 10; early = early }

-- the times of the junction with such a first and such a third phase
abbrev junction_times : PhaseTimes → PhaseTimes → Times
junction_times first third =
    record { start = 10; phases = first ∷ short_times 0 ∷ third ∷ replicate 4 no_phase_times; walks = replicate 8 no_walk_times }

-- its phase A has early cut-off green; it has the times of a phase C
abbrev with_early : Times
with_early = junction_times (short_times 1) no_phase_times

abbrev with_third : Times
with_third = junction_times (short_times 0) (short_times 0)

-- the seventh phase has times, or the eighth movement
abbrev with_seventh : Times
with_seventh =
    record { start = 10; phases = short_times 0 ∷ short_times 0 ∷ replicate 4 no_phase_times ++ (short_times 0 ∷ []); walks = replicate 8 no_walk_times }

abbrev with_eighth : Times
with_eighth =
    record {
      start = 10;
      phases = short_times 0 ∷ short_times 0 ∷ replicate 5 no_phase_times;
      walks = replicate 7 no_walk_times ++ (record { walk = 10; first = 10; second = 50 } ∷ []);
    }

-- none wait, though times are there: those of such bytes, or start red alone
abbrev left_over : Waiting
left_over = record { present = false; times = times_in slower }

abbrev start_left_over : Waiting
start_left_over = record { present = false; times = record { start = 1; phases = replicate 7 no_phase_times; walks = replicate 8 no_walk_times } }

-- ── Writing a refusal; the old state is handed back ──

-- of a step call, at 0
abbrev declining : List ℕ → TimedState → ℕ → ℕ → CallCase
declining b s inputs number = answering b s inputs (StepRefused number 0) s

-- of a retiming call
abbrev refusing : List ℕ → TimedState → List ℕ → ℕ → ℕ → CallCase
refusing b s new number place = retiming b s new (Refused number place) s

-- ── States ──

-- start red of A at an age, no demands
abbrev red_start : ℕ → KeptState
red_start age = state (at 0 StartRed age None) (gap 3 max 7) (locks 0 buttons 0) idle 0

-- the same with counts of 0
abbrev calm_start : ℕ → KeptState
calm_start age = state (at 0 StartRed age None) (gap 0 max 0) (locks 0 buttons 0) idle 0

-- A being left for B, which has a lock; A has one too
abbrev for_b : Interval → ℕ → KeptState
for_b interval age = state (at 0 interval age (Some 1)) (gap 0 max 1) (locks 3 buttons 0) idle 3

-- B after A, in its first step; the lock of A stands
abbrev start_of : Interval → ℕ → ℕ → ℕ → KeptState
start_of interval gap_count demands kept =
    state (record { phase = 1; interval = interval; age = 1; previous = Some 0; target = None }) (gap gap_count max 0) (locks demands buttons 0) idle kept

-- ── Bytes ──

-- the junction with longer reds, but all-red of A is 14: edition one allows it, edition two does not
abbrev short_red : List ℕ
short_red = put_two longer_reds 22 14

-- ── The list and its statement ──

unfoldable pub timed_cases : List CallCase
timed_cases =
    -- the new times wait: yellow ends by the old Y, which is 30
    answering junction (ruled_until junction slower (for_b Yellow 30)) 0 (Stepped 270) (ruled_until junction slower (for_b AllRed 1))
    -- all-red ends by the old R, which is 10; B starts by the new times, which give the gap count and the wait, and the lock of A stands
    ∷ answering junction (ruled_until junction slower (for_b AllRed 10)) 0 (Stepped 460) (ruled_by slower (start_of MinimumGreen 10 1 1))
    -- also if the new R is longer: all-red does not go on
    ∷ answering junction (ruled_until junction slower (for_b AllRed 9)) 0 (Stepped 270) (ruled_until junction slower (for_b AllRed 10))
    -- start red ends by the old time, and both counts are 0 first
    ∷ answering junction (ruled_until junction slower (red_start 10)) 0 (Stepped 460) (ruled_by slower (state (at 0 MinimumGreen 1 None) (gap 10 max 0) (locks 0 buttons 0) idle 0))
    ∷ answering junction (ruled_until junction slower (red_start 9)) 0 (Stepped 270) (ruled_until junction slower (red_start 10))
    -- without waiting times they stay
    ∷ answering junction (ruled_by junction (red_start 10)) 0 (Stepped 270) (ruled_by junction (state (at 0 MinimumGreen 1 None) (gap 5 max 7) (locks 0 buttons 0) idle 0))
    -- a late start by the new times: the lock of B stands through it
    ∷ answering junction (ruled_until junction late_b (for_b AllRed 10)) 0 (Stepped 290) (ruled_by late_b (start_of LateStart 0 3 3))
    -- and none by the new times
    ∷ answering junction (ruled_until late_b junction (for_b AllRed 10)) 0 (Stepped 270) (ruled_by junction (start_of MinimumGreen 5 1 1))
    -- equal times take over too
    ∷ answering junction (ruled_until junction junction (for_b AllRed 10)) 0 (Stepped 270) (ruled_by junction (start_of MinimumGreen 5 1 1))
    -- a walk begins in the change
    ∷ answering crossing (ruled_until crossing other_walk (state (at 0 StartRed 10 None) (gap 0 max 0) (locks 0 buttons 1) idle 1)) 0 (Stepped 400) (ruled_by other_walk (state (at 0 MinimumGreen 1 None) (gap 5 max 0) (locks 0 buttons 0) (record { stage = Walk; age = 1 }) 0))
    -- C2 ends by the old time, which is 50, and the start with it
    ∷ answering crossing (ruled_until crossing other_walk (state (at 0 AllRed 40 (Some 1)) (gap 0 max 1) (locks 2 buttons 0) (record { stage = ClearanceTwo; age = 30 }) 2)) 0 (Stepped 410) (ruled_until crossing other_walk (state (at 0 AllRed 41 (Some 1)) (gap 0 max 1) (locks 2 buttons 0) (record { stage = ClearanceTwo; age = 31 }) 2))
    -- 13: a ruling or a waiting time outside its limits
    ∷ declining junction (ruled_by (put_two junction 20 29) (for_b Yellow 1)) 0 13
    ∷ declining junction (ruled_until junction (put_two junction 6 9) (for_b Yellow 1)) 0 13
    ∷ declining junction (ruled_by (put_two junction 6 9) (red_start 1)) 0 13
    ∷ declining junction (ruled_by (put_two junction 12 201) (red_start 1)) 0 13
    ∷ declining junction (ruled_by (put_two junction 34 151) (red_start 1)) 0 13
    ∷ declining junction (ruled_until junction (put_two junction 28 1501) (red_start 1)) 0 13
    ∷ declining crossing (ruled_by (put_two crossing 74 9) (red_start 1)) 0 13
    ∷ declining crossing (ruled_by (put_two crossing 78 401) (red_start 1)) 0 13
    ∷ declining (junction ++ cut_offs (0 ∷ 0 ∷ [])) (ruled_by (junction ++ cut_offs (201 ∷ 0 ∷ [])) (red_start 1)) 0 13
    ∷ answering (junction ++ cut_offs (0 ∷ 0 ∷ [])) (ruled_by (junction ++ cut_offs (200 ∷ 0 ∷ [])) (red_start 1)) 0 (Stepped 670) (ruled_by (junction ++ cut_offs (200 ∷ 0 ∷ [])) (red_start 2))
    -- 13: early cut-off green without a section of kind 7; with one it is a time like the others
    ∷ declining junction (ruled_by_times with_early none_waiting (for_b Yellow 1)) 0 13
    ∷ answering (junction ++ cut_offs (0 ∷ 0 ∷ [])) (ruled_by_times with_early none_waiting (for_b Yellow 1)) 0 (Stepped 272) (ruled_by_times with_early none_waiting (for_b Yellow 2))
    -- 13: a time of a phase or of a movement that the site does not have, and a time though none wait
    ∷ declining junction (ruled_by_times with_third none_waiting (for_b Yellow 1)) 0 13
    ∷ declining junction (ruled_by_times with_seventh none_waiting (for_b Yellow 1)) 0 13
    ∷ declining junction (ruled_by_times with_eighth none_waiting (for_b Yellow 1)) 0 13
    ∷ declining junction (ruled_by_times (times_in junction) start_left_over (for_b Yellow 1)) 0 13
    ∷ declining junction (ruled_by_times (times_in junction) left_over (for_b Yellow 1)) 0 13
    -- 13: the gap count is above G of the ruling times, though not above that of the bytes
    ∷ declining slower (ruled_by junction (state (at 0 StartRed 1 None) (gap 6 max 0) (locks 0 buttons 0) idle 0)) 0 13
    -- a retiming: the times wait, in the place of any that waited; equal ones too, and the bytes' own while others rule
    ∷ retiming junction (ruled_by junction (for_b Yellow 1)) slower Accepted (ruled_until junction slower (for_b Yellow 1))
    ∷ retiming junction (ruled_until junction slower (for_b Yellow 1)) late_b Accepted (ruled_until junction late_b (for_b Yellow 1))
    ∷ retiming junction (ruled_by junction (for_b Yellow 1)) junction Accepted (ruled_until junction junction (for_b Yellow 1))
    ∷ retiming junction (ruled_by slower (for_b Yellow 1)) junction Accepted (ruled_until slower junction (for_b Yellow 1))
    -- times of kinds 6 and 7
    ∷ retiming crossing (ruled_by crossing (red_start 1)) other_walk Accepted (ruled_until crossing other_walk (red_start 1))
    ∷ retiming (turning ++ cut_offs (20 ∷ 0 ∷ [])) (ruled_by (turning ++ cut_offs (20 ∷ 0 ∷ [])) (red_start 1)) (turning ++ cut_offs (0 ∷ 10 ∷ [])) Accepted (ruled_until (turning ++ cut_offs (20 ∷ 0 ∷ [])) (turning ++ cut_offs (0 ∷ 10 ∷ [])) (red_start 1))
    -- refused: the first personality, then 13, then the new personality, then 26
    ∷ refusing [] (ruled_by slower (for_b Yellow 2001)) [] 1 0
    ∷ refusing junction (ruled_by slower (for_b Yellow 2001)) [] 13 0
    ∷ refusing junction (ruled_by slower (for_b Yellow 1)) (put_two crossing 20 29) 5 20
    ∷ refusing junction (ruled_until slower junction (for_b Yellow 1)) crossing 26 0
    -- 26: another mode of a detector, another order, a section of kind 7 more
    ∷ refusing junction (ruled_by junction (for_b Yellow 1)) (set junction 63 2) 26 0
    ∷ refusing (junction ++ ordered (0 ∷ 1 ∷ [])) (ruled_by junction (for_b Yellow 1)) (junction ++ ordered (1 ∷ 0 ∷ [])) 26 0
    ∷ refusing junction (ruled_by junction (for_b Yellow 1)) (junction ++ cut_offs (0 ∷ 0 ∷ [])) 26 0
    ∷ refusing (set junction 63 2) (ruled_by junction (for_b Yellow 1)) junction 26 0
    ∷ refusing (junction ++ cut_offs (0 ∷ 0 ∷ [])) (ruled_by junction (for_b Yellow 1)) junction 26 0
    ∷ refusing (junction ++ cut_offs (0 ∷ 0 ∷ []) ++ ordered (0 ∷ 1 ∷ [])) (ruled_by junction (for_b Yellow 1)) (junction ++ cut_offs (0 ∷ 0 ∷ []) ++ ordered (1 ∷ 0 ∷ [])) 26 0
    -- edition two: its times are held to its own limits, all-red to 15 at least, in the state and in the new personality
    ∷ answering edition_two (ruled_by edition_two (for_b Yellow 1)) 0 (Stepped 310) (ruled_by edition_two (for_b Yellow 2))
    ∷ declining edition_two (ruled_by short_red (for_b Yellow 1)) 0 13
    ∷ declining edition_two (ruled_until edition_two short_red (for_b Yellow 1)) 0 13
    ∷ retiming longer_reds (ruled_by longer_reds (for_b Yellow 1)) short_red Accepted (ruled_until longer_reds short_red (for_b Yellow 1))
    ∷ refusing edition_two (ruled_by edition_two (for_b Yellow 1)) (put_kind short_red 0 8) 5 22
    ∷ retiming edition_two (ruled_by edition_two (for_b Yellow 1)) (put_two edition_two 22 20) Accepted (ruled_until edition_two (put_two edition_two 22 20) (for_b Yellow 1))
    -- 26: the edition is not a time setting
    ∷ refusing longer_reds (ruled_by longer_reds (for_b Yellow 1)) edition_two 26 0
    ∷ refusing edition_two (ruled_by edition_two (for_b Yellow 1)) longer_reds 26 0
    -- the lowest and the highest times may rule. 10 + (20 + 2 × (11 + 40 + 1)) + (20 + 2 × 40); 150 + (2100 + 2 × (800 + 450 + 400)) + (2100 + 2 × 450)
    ∷ answering (crossing ++ cut_offs (0 ∷ 0 ∷ [])) (ruled_by lowest (calm_start 1)) 0 (Stepped 234) (ruled_by lowest (calm_start 2))
    ∷ answering (crossing ++ cut_offs (0 ∷ 0 ∷ [])) (ruled_by highest (calm_start 1)) 0 (Stepped 8550) (ruled_by highest (calm_start 2))
    ∷ []

unfoldable pub TimedCallsHold : Type 0
TimedCallsHold = AllHold CallHolds timed_cases
