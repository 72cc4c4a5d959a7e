-- Worked cases of what the calls answer and write: 15 and 14 with their order, the bytes of the colour buffer, and the colours in each interval and
-- stage. Then the site that a personality describes, the fresh state, the lookup of sections, the waits, the lines of a trace and the codes in a
-- state. Colours are given as the numbers of document 01: red 0, yellow 1, green 2, flashing red 3.
use Rattle.std.specs.Prelude.{ℕ, ◌+◌, ◌^◌, false, List, [], ◌∷◌, ◌++◌, replicate, set, Option, Some, None}
use Rattle.rules.specs.Types.{Stepped, StepRefused, Report, One, Detector, Group, PhaseTimes, Site, Times, WalkTimes, Interval, StartRed, LateStart, MinimumGreen, Running, EarlyCutOff, Yellow, AllRed, KeptState, Movement, Position, Idle, Walk, ClearanceOne, ClearanceTwo}
use Rattle.rules.specs.State.{idle}
use Rattle.rules.specs.Timed.{TimedState}
use Rattle.rules.specs.Junctions.{junction, put_two, crossing, three_phases, overlap, seven_phases, eight_crossings, wide, cut_offs, turning, ordered, edition_two}
use Rattle.rules.specs.CallCases.{CallCase, describing, finding, waiting, bounding, waiting_each, beginning, showing, printing, coding, writing, CallHolds, AllHold, at, gap◌max◌, locks◌buttons◌, moving, state, ruled_by, stepping_to, refusing_with}

-- ── Writing a state ──

-- a position, with such a first movement and nothing else
abbrev with : Position → Movement → KeptState
with position first = state position (gap 0 max 0) (locks 0 buttons 0) first 0

-- A in running, at an age
abbrev resting : ℕ → KeptState
resting age = with (at 0 Running age None) idle

-- B in an interval, with a came-from
abbrev in_b : Interval → Option ℕ → KeptState
in_b interval previous = with (record { phase = 1; interval = interval; age = 1; previous = previous; target = None }) idle

-- B in running; the eighth movement is in walk
abbrev eighth_walks : KeptState
eighth_walks =
    record {
      core = record {
        position = at 1 Running 1 None;
        counts = gap 0 max 0;
        demands = locks 0 buttons 0;
        movements = replicate 7 idle ++ (moving Walk 1 ∷ []);
      };
      kept = 0;
    }

-- ── Inputs and buffers ──

unfoldable pub input_cases : List CallCase
input_cases =
    -- 15: a bit without a detector or a button, up to the last one
    refusing_with junction (resting 1) (2 ^ 2) 15
    ∷ refusing_with junction (resting 1) (2 ^ 47) 15
    ∷ refusing_with junction (resting 1) (2 ^ 48) 15
    ∷ refusing_with junction (resting 1) (2 ^ 63) 15
    ∷ refusing_with crossing (resting 1) (2 ^ 47) 15
    ∷ refusing_with crossing (resting 1) (2 ^ 49) 15
    ∷ refusing_with eight_crossings (resting 1) (2 ^ 56) 15
    -- each detector may be occupied, also one that does nothing, up to the last one, which locks B
    ∷ stepping_to wide (resting 1) (2 ^ 0 + 2 ^ 45) (resting 2)
    ∷ stepping_to wide (with (at 0 MinimumGreen 1 None) idle) (2 ^ 47) (state (at 0 MinimumGreen 2 None) (gap 0 max 0) (locks 2 buttons 0) idle 2)
    -- 14: a buffer shorter than N; a longer one keeps the bytes past N
    ∷ writing junction (ruled_by junction (resting 1)) 0 [] (StepRefused 14 0) []
    ∷ writing junction (ruled_by junction (resting 1)) 0 (7 ∷ []) (StepRefused 14 0) (7 ∷ [])
    ∷ writing junction (ruled_by junction (resting 1)) 0 (7 ∷ 7 ∷ []) (Stepped 270) (2 ∷ 0 ∷ [])
    ∷ writing junction (ruled_by junction (resting 1)) 0 (7 ∷ 7 ∷ 8 ∷ 9 ∷ []) (Stepped 270) (2 ∷ 0 ∷ 8 ∷ 9 ∷ [])
    -- the colours are those of the new state
    ∷ writing junction (ruled_by junction (with (at 0 StartRed 10 None) idle)) 0 (7 ∷ 7 ∷ []) (Stepped 270) (2 ∷ 0 ∷ [])
    -- the personality is checked first, then 13, then 15, then 14; no byte changes
    ∷ writing (put_two junction 20 29) (ruled_by junction (resting 0)) 4 [] (StepRefused 5 20) []
    ∷ writing junction (ruled_by junction (resting 0)) 4 (7 ∷ []) (StepRefused 13 0) (7 ∷ [])
    ∷ writing junction (ruled_by junction (resting 1)) 4 (7 ∷ []) (StepRefused 15 0) (7 ∷ [])
    ∷ []

-- ── Colours ──

unfoldable pub colour_cases : List CallCase
colour_cases =
    -- the groups of the phase: red in start red, green in late start, minimum green and running, then yellow, then red; those of the other phase are red
    showing junction (with (at 0 StartRed 1 None) idle) (0 ∷ 0 ∷ [])
    ∷ showing junction (with (at 0 LateStart 1 None) idle) (2 ∷ 0 ∷ [])
    ∷ showing junction (with (at 0 MinimumGreen 1 None) idle) (2 ∷ 0 ∷ [])
    ∷ showing junction (resting 1) (2 ∷ 0 ∷ [])
    ∷ showing junction (with (at 0 Yellow 1 (Some 1)) idle) (1 ∷ 0 ∷ [])
    ∷ showing junction (with (at 0 AllRed 1 (Some 1)) idle) (0 ∷ 0 ∷ [])
    ∷ showing junction (in_b Running None) (0 ∷ 2 ∷ [])
    -- group 2 is of both phases and stays green from A to B; group 3 waits in late start
    ∷ showing overlap (with (at 0 AllRed 1 (Some 1)) idle) (0 ∷ 0 ∷ 2 ∷ 0 ∷ [])
    ∷ showing overlap (in_b LateStart (Some 0)) (0 ∷ 2 ∷ 2 ∷ 0 ∷ [])
    ∷ showing overlap (in_b MinimumGreen (Some 0)) (0 ∷ 2 ∷ 2 ∷ 2 ∷ [])
    -- a group of mark 1 waits unless came-from is in its set; one of mark 3 does not wait
    ∷ showing (set overlap 45 1) (in_b LateStart (Some 0)) (0 ∷ 2 ∷ 2 ∷ 0 ∷ [])
    ∷ showing (set overlap 45 1) (in_b LateStart None) (0 ∷ 2 ∷ 0 ∷ 0 ∷ [])
    ∷ showing (set overlap 45 3 ++ cut_offs (0 ∷ 0 ∷ [])) (in_b LateStart None) (0 ∷ 2 ∷ 2 ∷ 0 ∷ [])
    -- the arrow, group 1, closes for 30 steps from the start of early cut-off green, through yellow too; the other group of A is green, then yellow
    ∷ showing (turning ++ cut_offs (20 ∷ 0 ∷ [])) (with (at 0 EarlyCutOff 1 (Some 1)) idle) (2 ∷ 1 ∷ 0 ∷ [])
    ∷ showing (turning ++ cut_offs (50 ∷ 0 ∷ [])) (with (at 0 EarlyCutOff 30 (Some 1)) idle) (2 ∷ 1 ∷ 0 ∷ [])
    ∷ showing (turning ++ cut_offs (50 ∷ 0 ∷ [])) (with (at 0 EarlyCutOff 31 (Some 1)) idle) (2 ∷ 0 ∷ 0 ∷ [])
    ∷ showing (turning ++ cut_offs (20 ∷ 0 ∷ [])) (with (at 0 Yellow 10 (Some 1)) idle) (1 ∷ 1 ∷ 0 ∷ [])
    ∷ showing (turning ++ cut_offs (0 ∷ 0 ∷ [])) (with (at 0 Yellow 30 (Some 1)) idle) (1 ∷ 1 ∷ 0 ∷ [])
    -- a group of mark 1 is no arrow
    ∷ showing (set (set overlap 45 1) 44 1 ++ cut_offs (20 ∷ 0 ∷ [])) (with (at 0 EarlyCutOff 1 (Some 1)) idle) (2 ∷ 0 ∷ 2 ∷ 0 ∷ [])
    ∷ showing (set (set overlap 45 1) 44 1 ++ cut_offs (20 ∷ 0 ∷ [])) (with (at 0 Yellow 30 (Some 1)) idle) (1 ∷ 0 ∷ 1 ∷ 0 ∷ [])
    -- a movement: green in walk, flashing red in C1 and C2, red when idle
    ∷ showing crossing (with (at 0 Running 1 None) (moving Walk 1)) (2 ∷ 0 ∷ 2 ∷ [])
    ∷ showing crossing (with (at 0 Running 1 None) (moving ClearanceOne 1)) (2 ∷ 0 ∷ 3 ∷ [])
    ∷ showing crossing (with (at 0 Yellow 1 (Some 1)) (moving ClearanceTwo 1)) (1 ∷ 0 ∷ 3 ∷ [])
    ∷ showing crossing (resting 1) (2 ∷ 0 ∷ 0 ∷ [])
    ∷ showing eight_crossings eighth_walks (0 ∷ 0 ∷ 0 ∷ 0 ∷ 0 ∷ 0 ∷ 0 ∷ 2 ∷ 0 ∷ 2 ∷ [])
    ∷ []

-- ── The site and the fresh state ──

abbrev no_times : PhaseTimes
no_times = record { late = 0; minimum = 0; maximum = 0; gap = 0; yellow = 0; red = 0; early = 0 }

abbrev no_walk : WalkTimes
no_walk = record { walk = 0; first = 0; second = 0 }

-- a phase of the worked sites, with a time of early cut-off green
abbrev short : ℕ → PhaseTimes
short early = record { late = 0; minimum = 20; maximum = 30; gap = 5; yellow = 30; red = 10; early = early }

abbrev vehicles : ℕ → Group
vehicles phases = record { phases = phases; mark = 0 }

abbrev no_detector : Detector
no_detector = record { phase = 0; mode = 0 }

abbrev locks_and_extends : ℕ → Detector
locks_and_extends phase = record { phase = phase; mode = 6 }

-- the site of the crossing
abbrev crossing_site : Site
crossing_site =
    record {
      size = record { phases = 2; groups = 3; detectors = 2; movements = 1 };
      groups = vehicles 1 ∷ vehicles 2 ∷ record { phases = 1; mark = 2 } ∷ replicate 29 (vehicles 0);
      conflicts = 2 ∷ 5 ∷ 2 ∷ replicate 29 0;
      detectors = locks_and_extends 0 ∷ locks_and_extends 1 ∷ replicate 46 no_detector;
      crossings = 1 ∷ replicate 7 0;
      edition = One;
      early = false;
      order = 0 ∷ 1 ∷ replicate 5 0;
      times = record {
        start = 10;
        phases = short 0 ∷ short 0 ∷ replicate 5 no_times;
        walks = record { walk = 10; first = 10; second = 50 } ∷ replicate 7 no_walk;
      };
    }

-- three phases in the order A, C, B, with times of early cut-off green
abbrev three_ordered : List ℕ
three_ordered = three_phases ++ cut_offs (20 ∷ 0 ∷ 200 ∷ []) ++ ordered (0 ∷ 2 ∷ 1 ∷ [])

abbrev three_times : Times
three_times =
    record { start = 10; phases = short 20 ∷ short 0 ∷ short 200 ∷ replicate 4 no_times; walks = replicate 8 no_walk }

-- the fresh state: these times rule, and none wait
abbrev fresh_by : Times → TimedState
fresh_by times =
    record {
      core = record {
        position = record { phase = 0; interval = StartRed; age = 1; previous = None; target = None };
        counts = record { gap = 0; maximum = 0 };
        demands = record { locks = 0; buttons = 0 };
        movements = replicate 8 idle;
      };
      kept = 0;
      ruling = times;
      waiting = record { present = false; times = record { start = 0; phases = replicate 7 no_times; walks = replicate 8 no_walk } };
    }

-- ── Answers ──

-- a lookup that finds the section, and one that is refused
abbrev found : List ℕ → ℕ → List ℕ → CallCase
found b kind part = finding b kind (record { number = 0; place = 0 }) part

abbrev not_found : List ℕ → ℕ → ℕ → ℕ → CallCase
not_found b kind number place = finding b kind (record { number = number; place = place }) []

-- all-red of B is 50
abbrev long_red : List ℕ
long_red = put_two three_phases 34 50

-- a line of a trace: space, phase, space, interval, space, the groups, and the end of the line; as ASCII codes
abbrev line_of : ℕ → Interval → ℕ → ℕ → CallCase
line_of phase interval phase_letter interval_letter =
    printing (at phase interval 1 None) (0 ∷ 1 ∷ 2 ∷ 3 ∷ []) (32 ∷ phase_letter ∷ 32 ∷ interval_letter ∷ 32 ∷ 82 ∷ 89 ∷ 71 ∷ 70 ∷ 10 ∷ [])

unfoldable pub answer_cases : List CallCase
answer_cases =
    describing crossing crossing_site
    ∷ beginning crossing (fresh_by crossing_site.times)
    ∷ beginning three_ordered (fresh_by three_times)
    -- the body of each section that is held; 2 at 0 for any other kind
    ∷ not_found junction 0 2 0
    ∷ found junction 1 (2 ∷ 2 ∷ 10 ∷ 0 ∷ [])
    ∷ found junction 2 (0 ∷ 0 ∷ 20 ∷ 0 ∷ 30 ∷ 0 ∷ 5 ∷ 0 ∷ 30 ∷ 0 ∷ 10 ∷ 0 ∷ 0 ∷ 0 ∷ 20 ∷ 0 ∷ 30 ∷ 0 ∷ 5 ∷ 0 ∷ 30 ∷ 0 ∷ 10 ∷ 0 ∷ [])
    ∷ found junction 3 (1 ∷ 0 ∷ 2 ∷ 0 ∷ [])
    ∷ found junction 4 (2 ∷ 0 ∷ 0 ∷ 0 ∷ 1 ∷ 0 ∷ 0 ∷ 0 ∷ [])
    ∷ found junction 5 (0 ∷ 6 ∷ 1 ∷ 6 ∷ [])
    ∷ found junction 6 []
    ∷ found crossing 6 (10 ∷ 0 ∷ 10 ∷ 0 ∷ 50 ∷ 0 ∷ [])
    ∷ not_found junction 7 2 0
    ∷ not_found junction 8 2 0
    ∷ not_found junction 9 2 0
    ∷ not_found junction 10 2 0
    ∷ found (junction ++ cut_offs (20 ∷ 0 ∷ [])) 7 (20 ∷ 0 ∷ 0 ∷ 0 ∷ [])
    ∷ not_found (junction ++ cut_offs (20 ∷ 0 ∷ [])) 0 2 0
    ∷ not_found (junction ++ cut_offs (20 ∷ 0 ∷ [])) 8 2 0
    ∷ not_found (junction ++ cut_offs (20 ∷ 0 ∷ [])) 9 2 0
    ∷ found (junction ++ ordered (1 ∷ 0 ∷ [])) 9 (1 ∷ 0 ∷ [])
    ∷ not_found (junction ++ ordered (1 ∷ 0 ∷ [])) 7 2 0
    ∷ not_found (junction ++ ordered (1 ∷ 0 ∷ [])) 8 2 0
    ∷ not_found (junction ++ ordered (1 ∷ 0 ∷ [])) 10 2 0
    ∷ found edition_two 8 (2 ∷ 2 ∷ 30 ∷ 0 ∷ [])
    ∷ not_found edition_two 1 2 0
    ∷ not_found edition_two 9 2 0
    -- a refused personality has no section, whatever kind is asked for
    ∷ not_found (put_two junction 20 29) 2 5 20
    ∷ not_found (put_two junction 20 29) 10 5 20
    -- the wait bound, or the refusal
    ∷ waiting seven_phases 920
    ∷ waiting eight_crossings 590
    ∷ bounding junction (Stepped 270)
    ∷ bounding (put_two junction 20 29) (StepRefused 5 20)
    -- the waits of the phases, then of the movements. All-red of B is 50: one turn of B is 130, of A and C 90; what is under way is at most 80 or 40
    ∷ waiting_each junction (130 ∷ 130 ∷ [])
    ∷ waiting_each (put_two junction 6 150) (240 ∷ 240 ∷ [])
    ∷ waiting_each overlap (150 ∷ 150 ∷ [])
    ∷ waiting_each crossing (140 ∷ 151 ∷ 190 ∷ [])
    ∷ waiting_each (put_two crossing 74 100) (140 ∷ 200 ∷ 190 ∷ [])
    ∷ waiting_each long_red (260 ∷ 260 ∷ 300 ∷ [])
    ∷ waiting_each (long_red ++ ordered (0 ∷ 2 ∷ 1 ∷ [])) (300 ∷ 260 ∷ 260 ∷ [])
    ∷ waiting_each eight_crossings (171 ∷ 151 ∷ 251 ∷ 251 ∷ 251 ∷ 251 ∷ 251 ∷ 251 ∷ 251 ∷ 221 ∷ [])
    -- lines: A to G, and S, L, M, G, E, Y, R
    ∷ line_of 0 StartRed 65 83
    ∷ line_of 1 LateStart 66 76
    ∷ line_of 2 MinimumGreen 67 77
    ∷ line_of 3 Running 68 71
    ∷ line_of 4 EarlyCutOff 69 69
    ∷ line_of 5 Yellow 70 89
    ∷ line_of 6 AllRed 71 82
    -- the codes of the intervals, and of the stages
    ∷ coding StartRed Idle 0 0
    ∷ coding LateStart Walk 1 1
    ∷ coding MinimumGreen ClearanceOne 2 2
    ∷ coding Running ClearanceTwo 3 3
    ∷ coding EarlyCutOff Idle 4 0
    ∷ coding Yellow Idle 5 0
    ∷ coding AllRed Idle 6 0
    ∷ []

unfoldable pub AnswersHold : Type 0
AnswersHold = AllHold CallHolds input_cases × AllHold CallHolds colour_cases × AllHold CallHolds answer_cases
