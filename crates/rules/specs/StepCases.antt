-- Worked cases of one step, part by part: demands, movements and counts, the interval, walks. Each setting is tried one step before it is reached and
-- when it is reached.
use Rattle.std.specs.Prelude.{ℕ, ◌^◌, List, [], ◌∷◌, ◌++◌, replicate, take, Some, None}
use Rattle.rules.specs.Types.{Counts, Demands, Interval, StartRed, LateStart, MinimumGreen, Running, EarlyCutOff, Yellow, AllRed, KeptState, Movement, Position, Walk, ClearanceOne, ClearanceTwo}
use Rattle.rules.specs.State.{idle}
use Rattle.rules.specs.Junctions.{junction, section, put_two, crossing, three_phases, overlap, seven_phases, eight_crossings, cut_offs, turning, ordered}
use Rattle.rules.specs.CallCases.{CallCase, CallHolds, AllHold, at, gap◌max◌, locks◌buttons◌, moving, state, leading_to}

-- ── Writing a state ──

-- A in an interval without a target; locks, button demands, first movement, kept set
abbrev in_a : Interval → ℕ → Counts → Demands → Movement → ℕ → KeptState
in_a interval age counts demands first kept = state (at 0 interval age None) counts demands first kept

-- A being left for B, by a lock of B
abbrev leaving_a : Interval → ℕ → Counts → Movement → KeptState
leaving_a interval age counts first = state (at 0 interval age (Some 1)) counts (locks 2 buttons 0) first 2

-- a phase in an interval, after another
abbrev after : ℕ → ℕ → Interval → ℕ → Position
after previous phase interval age = record { phase = phase; interval = interval; age = age; previous = Some previous; target = None }

-- a state by its position and movements, with a lock of A
abbrev locked_a : Position → Counts → List Movement → KeptState
locked_a position counts movements =
    record { core = record { position = position; counts = counts; demands = locks 1 buttons 0; movements = movements }; kept = 1 }

-- the eighth movement is given, the others are idle
abbrev eighth : Movement → List Movement
eighth m = replicate 7 idle ++ (m ∷ [])

-- A in running: the second movement is in C2; the first movement, the button demands and the kept set are given
abbrev beside_c2 : ℕ → Movement → ℕ → ℕ → KeptState
beside_c2 age first ks kept =
    record {
      core = record {
        position = at 0 Running age None;
        counts = gap 0 max 0;
        demands = locks 0 buttons ks;
        movements = first ∷ moving ClearanceTwo age ∷ replicate 6 idle;
      };
      kept = kept;
    }

-- ── Bytes ──

-- the junction with a third detector, of this phase and mode
abbrev third : ℕ → ℕ → List ℕ
third phase mode = take 56 junction ++ section 5 (0 ∷ 6 ∷ 1 ∷ 6 ∷ phase ∷ mode ∷ []) ++ section 6 []

-- the crossing with a late start of A of 20
abbrev late_crossing : List ℕ
late_crossing = put_two crossing 12 20

-- ── Part 1: demands ──

unfoldable pub demand_parts : List CallCase
demand_parts =
    -- an occupied locking detector locks its phase in late start, yellow, all-red and start red
    leading_to overlap (state (at 1 LateStart 5 None) (gap 0 max 0) (locks 0 buttons 0) idle 0) 2 (state (at 1 LateStart 6 None) (gap 0 max 0) (locks 2 buttons 0) idle 2)
    ∷ leading_to junction (leaving_a Yellow 5 (gap 0 max 1) idle) 1 (state (at 0 Yellow 6 (Some 1)) (gap 0 max 1) (locks 3 buttons 0) idle 3)
    ∷ leading_to junction (leaving_a AllRed 5 (gap 0 max 1) idle) 1 (state (at 0 AllRed 6 (Some 1)) (gap 0 max 1) (locks 3 buttons 0) idle 3)
    ∷ leading_to junction (in_a StartRed 5 (gap 0 max 0) (locks 0 buttons 0) idle 0) 1 (in_a StartRed 6 (gap 0 max 0) (locks 1 buttons 0) idle 1)
    -- and not in minimum green or running, in which it extends
    ∷ leading_to junction (in_a MinimumGreen 5 (gap 3 max 0) (locks 0 buttons 0) idle 0) 1 (in_a MinimumGreen 6 (gap 5 max 0) (locks 0 buttons 0) idle 0)
    ∷ leading_to junction (in_a Running 5 (gap 3 max 0) (locks 0 buttons 0) idle 0) 1 (in_a Running 6 (gap 5 max 0) (locks 0 buttons 0) idle 0)
    -- that of another phase does
    ∷ leading_to junction (in_a MinimumGreen 5 (gap 3 max 0) (locks 0 buttons 0) idle 0) 2 (in_a MinimumGreen 6 (gap 2 max 0) (locks 2 buttons 0) idle 2)
    ∷ leading_to junction (state (at 1 MinimumGreen 5 None) (gap 3 max 0) (locks 0 buttons 0) idle 0) 1 (state (at 1 MinimumGreen 6 None) (gap 2 max 0) (locks 1 buttons 0) idle 1)
    -- a detector of B: modes 0 and 4 demand nothing, 1 and 5 demand B in this step, 2 and 6 lock it; none extends A
    ∷ leading_to (third 1 0) (in_a Running 5 (gap 1 max 0) (locks 0 buttons 0) idle 0) 4 (in_a Running 6 (gap 0 max 0) (locks 0 buttons 0) idle 0)
    ∷ leading_to (third 1 4) (in_a Running 5 (gap 1 max 0) (locks 0 buttons 0) idle 0) 4 (in_a Running 6 (gap 0 max 0) (locks 0 buttons 0) idle 0)
    ∷ leading_to (third 1 1) (in_a Running 5 (gap 1 max 0) (locks 0 buttons 0) idle 0) 4 (state (at 0 Yellow 1 (Some 1)) (gap 0 max 1) (locks 0 buttons 0) idle 0)
    ∷ leading_to (third 1 5) (in_a Running 5 (gap 1 max 0) (locks 0 buttons 0) idle 0) 4 (state (at 0 Yellow 1 (Some 1)) (gap 0 max 1) (locks 0 buttons 0) idle 0)
    ∷ leading_to (third 1 2) (in_a Running 5 (gap 1 max 0) (locks 0 buttons 0) idle 0) 4 (leaving_a Yellow 1 (gap 0 max 1) idle)
    ∷ leading_to (third 1 6) (in_a Running 5 (gap 1 max 0) (locks 0 buttons 0) idle 0) 4 (leaving_a Yellow 1 (gap 0 max 1) idle)
    -- a detector of A: modes 4, 5 and 6 extend
    ∷ leading_to (third 0 0) (in_a Running 5 (gap 3 max 0) (locks 0 buttons 0) idle 0) 4 (in_a Running 6 (gap 2 max 0) (locks 0 buttons 0) idle 0)
    ∷ leading_to (third 0 1) (in_a Running 5 (gap 3 max 0) (locks 0 buttons 0) idle 0) 4 (in_a Running 6 (gap 2 max 0) (locks 0 buttons 0) idle 0)
    ∷ leading_to (third 0 2) (in_a Running 5 (gap 3 max 0) (locks 0 buttons 0) idle 0) 4 (in_a Running 6 (gap 2 max 0) (locks 0 buttons 0) idle 0)
    ∷ leading_to (third 0 4) (in_a Running 5 (gap 3 max 0) (locks 0 buttons 0) idle 0) 4 (in_a Running 6 (gap 5 max 0) (locks 0 buttons 0) idle 0)
    ∷ leading_to (third 0 5) (in_a Running 5 (gap 3 max 0) (locks 0 buttons 0) idle 0) 4 (in_a Running 6 (gap 5 max 0) (locks 0 buttons 0) idle 0)
    -- modes 0 and 4 lock and call nothing outside green either, and 1 and 5 lock nothing
    ∷ leading_to (third 0 0) (leaving_a Yellow 5 (gap 0 max 1) idle) 4 (leaving_a Yellow 6 (gap 0 max 1) idle)
    ∷ leading_to (third 0 4) (leaving_a Yellow 5 (gap 0 max 1) idle) 4 (leaving_a Yellow 6 (gap 0 max 1) idle)
    ∷ leading_to (third 0 1) (leaving_a Yellow 5 (gap 0 max 1) idle) 4 (leaving_a Yellow 6 (gap 0 max 1) idle)
    -- a press is not registered in walk; in C2 it is
    ∷ leading_to crossing (in_a Running 5 (gap 0 max 0) (locks 0 buttons 0) (moving Walk 5) 0) (2 ^ 48) (in_a Running 6 (gap 0 max 0) (locks 0 buttons 0) (moving Walk 6) 0)
    ∷ leading_to crossing (leaving_a Yellow 5 (gap 0 max 1) (moving ClearanceTwo 5)) (2 ^ 48) (state (at 0 Yellow 6 (Some 1)) (gap 0 max 1) (locks 2 buttons 1) (moving ClearanceTwo 6) 3)
    -- a demanded movement demands its phase: the press of A's movement ends B, and that of the eighth movement ends A
    ∷ leading_to crossing (state (at 1 Running 5 None) (gap 0 max 0) (locks 0 buttons 0) idle 0) (2 ^ 48) (state (at 1 Yellow 1 (Some 0)) (gap 0 max 1) (locks 0 buttons 1) idle 1)
    ∷ leading_to eight_crossings (in_a Running 5 (gap 0 max 0) (locks 0 buttons 0) idle 0) (2 ^ 55) (state (at 0 Yellow 1 (Some 1)) (gap 0 max 1) (locks 0 buttons 128) idle 2)
    -- the first demanded phase after this one: C after B, A after C, C after B in the order C, A, B, and G if no other is demanded
    ∷ leading_to three_phases (state (at 1 Running 5 None) (gap 0 max 0) (locks 5 buttons 0) idle 5) 0 (state (at 1 Yellow 1 (Some 2)) (gap 0 max 1) (locks 5 buttons 0) idle 5)
    ∷ leading_to three_phases (state (at 2 Running 5 None) (gap 0 max 0) (locks 3 buttons 0) idle 3) 0 (state (at 2 Yellow 1 (Some 0)) (gap 0 max 1) (locks 3 buttons 0) idle 3)
    ∷ leading_to (three_phases ++ ordered (2 ∷ 0 ∷ 1 ∷ [])) (state (at 1 Running 5 None) (gap 0 max 0) (locks 5 buttons 0) idle 5) 0 (state (at 1 Yellow 1 (Some 2)) (gap 0 max 1) (locks 5 buttons 0) idle 5)
    ∷ leading_to seven_phases (in_a Running 5 (gap 0 max 0) (locks 0 buttons 0) idle 0) 64 (state (at 0 Yellow 1 (Some 6)) (gap 0 max 1) (locks 64 buttons 0) idle 64)
    ∷ []

-- ── Parts 2 and 3: movements and counts ──

unfoldable pub movement_parts : List CallCase
movement_parts =
    -- W is 10: the walk goes on to its tenth step, then C1 follows
    leading_to crossing (in_a Running 40 (gap 0 max 1) (locks 2 buttons 0) (moving Walk 9) 2) 0 (in_a Running 41 (gap 0 max 2) (locks 2 buttons 0) (moving Walk 10) 2)
    ∷ leading_to crossing (in_a Running 40 (gap 0 max 1) (locks 2 buttons 0) (moving Walk 10) 2) 0 (in_a Running 41 (gap 0 max 2) (locks 2 buttons 0) (moving ClearanceOne 1) 2)
    -- it ends also when the maximum count was X, though the gap count is above 0; not one step earlier, and not in minimum green
    ∷ leading_to crossing (in_a Running 40 (gap 3 max 30) (locks 2 buttons 0) (moving Walk 10) 2) 0 (in_a Running 41 (gap 2 max 30) (locks 2 buttons 0) (moving ClearanceOne 1) 2)
    ∷ leading_to crossing (in_a Running 40 (gap 3 max 29) (locks 2 buttons 0) (moving Walk 10) 2) 0 (in_a Running 41 (gap 2 max 30) (locks 2 buttons 0) (moving Walk 11) 2)
    ∷ leading_to crossing (in_a MinimumGreen 15 (gap 0 max 0) (locks 2 buttons 0) (moving Walk 15) 2) 0 (in_a MinimumGreen 16 (gap 0 max 0) (locks 2 buttons 0) (moving Walk 16) 2)
    -- C1 is 10 and then C2 follows, and yellow with it; C2 is 50
    ∷ leading_to crossing (in_a Running 40 (gap 0 max 1) (locks 2 buttons 0) (moving ClearanceOne 9) 2) 0 (in_a Running 41 (gap 0 max 2) (locks 2 buttons 0) (moving ClearanceOne 10) 2)
    ∷ leading_to crossing (in_a Running 40 (gap 0 max 1) (locks 2 buttons 0) (moving ClearanceOne 10) 2) 0 (leaving_a Yellow 1 (gap 0 max 2) (moving ClearanceTwo 1))
    ∷ leading_to crossing (leaving_a Yellow 10 (gap 0 max 1) (moving ClearanceTwo 49)) 0 (leaving_a Yellow 11 (gap 0 max 1) (moving ClearanceTwo 50))
    ∷ leading_to crossing (leaving_a Yellow 10 (gap 0 max 1) (moving ClearanceTwo 50)) 0 (leaving_a Yellow 11 (gap 0 max 1) idle)
    -- the eighth movement by its own times: W 20, C1 30, C2 40
    ∷ leading_to eight_crossings (locked_a (at 1 Running 40 None) (gap 0 max 1) (eighth (moving Walk 19))) 0 (locked_a (at 1 Running 41 None) (gap 0 max 2) (eighth (moving Walk 20)))
    ∷ leading_to eight_crossings (locked_a (at 1 Running 40 None) (gap 0 max 1) (eighth (moving ClearanceOne 30))) 0 (locked_a (at 1 Yellow 1 (Some 0)) (gap 0 max 2) (eighth (moving ClearanceTwo 1)))
    ∷ leading_to eight_crossings (locked_a (at 1 AllRed 9 (Some 0)) (gap 0 max 2) (eighth (moving ClearanceTwo 40))) 0 (locked_a (at 1 AllRed 10 (Some 0)) (gap 0 max 2) (replicate 8 idle))
    -- the gap count falls in minimum green and running, down to 0, and in no other interval
    ∷ leading_to junction (in_a MinimumGreen 5 (gap 3 max 0) (locks 0 buttons 0) idle 0) 0 (in_a MinimumGreen 6 (gap 2 max 0) (locks 0 buttons 0) idle 0)
    ∷ leading_to junction (in_a Running 5 (gap 3 max 0) (locks 0 buttons 0) idle 0) 0 (in_a Running 6 (gap 2 max 0) (locks 0 buttons 0) idle 0)
    ∷ leading_to junction (in_a Running 5 (gap 0 max 0) (locks 0 buttons 0) idle 0) 0 (in_a Running 6 (gap 0 max 0) (locks 0 buttons 0) idle 0)
    ∷ leading_to overlap (state (at 1 LateStart 5 None) (gap 3 max 0) (locks 0 buttons 0) idle 0) 0 (state (at 1 LateStart 6 None) (gap 3 max 0) (locks 0 buttons 0) idle 0)
    ∷ leading_to junction (leaving_a Yellow 5 (gap 3 max 1) idle) 1 (state (at 0 Yellow 6 (Some 1)) (gap 3 max 1) (locks 3 buttons 0) idle 3)
    ∷ leading_to junction (leaving_a AllRed 5 (gap 3 max 1) idle) 0 (leaving_a AllRed 6 (gap 3 max 1) idle)
    ∷ leading_to (turning ++ cut_offs (20 ∷ 0 ∷ [])) (leaving_a EarlyCutOff 5 (gap 3 max 1) idle) 0 (leaving_a EarlyCutOff 6 (gap 3 max 1) idle)
    -- the maximum count rises in running alone, from the first demand of another phase on
    ∷ leading_to junction (in_a Running 5 (gap 3 max 0) (locks 2 buttons 0) idle 2) 0 (in_a Running 6 (gap 2 max 1) (locks 2 buttons 0) idle 2)
    ∷ leading_to junction (in_a Running 5 (gap 3 max 1) (locks 0 buttons 0) idle 0) 0 (in_a Running 6 (gap 2 max 2) (locks 0 buttons 0) idle 0)
    ∷ leading_to junction (in_a MinimumGreen 5 (gap 3 max 1) (locks 2 buttons 0) idle 2) 0 (in_a MinimumGreen 6 (gap 2 max 1) (locks 2 buttons 0) idle 2)
    ∷ []

-- ── Part 4: the interval ──

unfoldable pub interval_parts : List CallCase
interval_parts =
    -- start red is 10; minimum green begins with a gap count of G, and clears the own lock
    leading_to junction (in_a StartRed 9 (gap 0 max 0) (locks 3 buttons 0) idle 3) 0 (in_a StartRed 10 (gap 0 max 0) (locks 3 buttons 0) idle 3)
    ∷ leading_to junction (in_a StartRed 10 (gap 0 max 0) (locks 3 buttons 0) idle 3) 0 (in_a MinimumGreen 1 (gap 5 max 0) (locks 2 buttons 0) idle 2)
    ∷ leading_to junction (state (at 1 StartRed 10 None) (gap 0 max 0) (locks 3 buttons 0) idle 3) 0 (state (at 1 MinimumGreen 1 None) (gap 5 max 0) (locks 1 buttons 0) idle 1)
    -- a lock of the phase in minimum green stays: only its beginning clears it
    ∷ leading_to junction (in_a MinimumGreen 5 (gap 0 max 0) (locks 1 buttons 0) idle 1) 0 (in_a MinimumGreen 6 (gap 0 max 0) (locks 1 buttons 0) idle 1)
    -- late start is 20
    ∷ leading_to overlap (state (after 0 1 LateStart 19) (gap 0 max 0) (locks 3 buttons 0) idle 3) 0 (state (after 0 1 LateStart 20) (gap 0 max 0) (locks 3 buttons 0) idle 3)
    ∷ leading_to overlap (state (after 0 1 LateStart 20) (gap 0 max 0) (locks 3 buttons 0) idle 3) 0 (state (after 0 1 MinimumGreen 1) (gap 5 max 0) (locks 1 buttons 0) idle 1)
    -- minimum green is 20; running begins with a maximum count of 0, and does not end in the same step
    ∷ leading_to junction (in_a MinimumGreen 19 (gap 3 max 7) (locks 2 buttons 0) idle 2) 0 (in_a MinimumGreen 20 (gap 2 max 7) (locks 2 buttons 0) idle 2)
    ∷ leading_to junction (in_a MinimumGreen 20 (gap 1 max 7) (locks 2 buttons 0) idle 2) 0 (in_a Running 1 (gap 0 max 0) (locks 2 buttons 0) idle 2)
    -- running ends in the step in which the gap count becomes 0, or the maximum count X
    ∷ leading_to junction (in_a Running 5 (gap 2 max 1) (locks 2 buttons 0) idle 2) 0 (in_a Running 6 (gap 1 max 2) (locks 2 buttons 0) idle 2)
    ∷ leading_to junction (in_a Running 5 (gap 1 max 1) (locks 2 buttons 0) idle 2) 0 (leaving_a Yellow 1 (gap 0 max 2) idle)
    ∷ leading_to junction (in_a Running 5 (gap 5 max 28) (locks 2 buttons 0) idle 2) 1 (in_a Running 6 (gap 5 max 29) (locks 2 buttons 0) idle 2)
    ∷ leading_to junction (in_a Running 5 (gap 5 max 29) (locks 2 buttons 0) idle 2) 1 (leaving_a Yellow 1 (gap 5 max 30) idle)
    -- not without a demand of another phase, though the maximum count is X; a lock of A is none
    ∷ leading_to junction (in_a Running 5 (gap 0 max 30) (locks 1 buttons 0) idle 1) 0 (in_a Running 6 (gap 0 max 30) (locks 1 buttons 0) idle 1)
    -- a movement in walk holds it, also the eighth; one in C2 does not
    ∷ leading_to crossing (in_a Running 5 (gap 0 max 1) (locks 2 buttons 0) (moving Walk 5) 2) 0 (in_a Running 6 (gap 0 max 2) (locks 2 buttons 0) (moving Walk 6) 2)
    ∷ leading_to eight_crossings (locked_a (at 1 Running 5 None) (gap 0 max 1) (eighth (moving Walk 5))) 0 (locked_a (at 1 Running 6 None) (gap 0 max 2) (eighth (moving Walk 6)))
    ∷ leading_to crossing (in_a Running 5 (gap 0 max 1) (locks 2 buttons 0) (moving ClearanceTwo 5) 2) 0 (leaving_a Yellow 1 (gap 0 max 2) (moving ClearanceTwo 6))
    -- early cut-off green follows running if its time is not 0, also if it is 1; here it is 20
    ∷ leading_to (turning ++ cut_offs (20 ∷ 0 ∷ [])) (in_a Running 5 (gap 0 max 1) (locks 2 buttons 0) idle 2) 0 (leaving_a EarlyCutOff 1 (gap 0 max 2) idle)
    ∷ leading_to (turning ++ cut_offs (1 ∷ 0 ∷ [])) (in_a Running 5 (gap 0 max 1) (locks 2 buttons 0) idle 2) 0 (leaving_a EarlyCutOff 1 (gap 0 max 2) idle)
    ∷ leading_to (turning ++ cut_offs (20 ∷ 0 ∷ [])) (leaving_a EarlyCutOff 19 (gap 0 max 2) idle) 0 (leaving_a EarlyCutOff 20 (gap 0 max 2) idle)
    ∷ leading_to (turning ++ cut_offs (20 ∷ 0 ∷ [])) (leaving_a EarlyCutOff 20 (gap 0 max 2) idle) 0 (leaving_a Yellow 1 (gap 0 max 2) idle)
    -- yellow is 30
    ∷ leading_to junction (leaving_a Yellow 29 (gap 0 max 2) idle) 0 (leaving_a Yellow 30 (gap 0 max 2) idle)
    ∷ leading_to junction (leaving_a Yellow 30 (gap 0 max 2) idle) 0 (leaving_a AllRed 1 (gap 0 max 2) idle)
    -- all-red is 10; then came-from is A, both counts are 0, and B starts: in minimum green, or in late start if it has one, in which the lock stays
    ∷ leading_to junction (leaving_a AllRed 9 (gap 3 max 2) idle) 0 (leaving_a AllRed 10 (gap 3 max 2) idle)
    ∷ leading_to junction (leaving_a AllRed 10 (gap 3 max 2) idle) 0 (state (after 0 1 MinimumGreen 1) (gap 5 max 0) (locks 0 buttons 0) idle 0)
    ∷ leading_to overlap (leaving_a AllRed 10 (gap 3 max 2) idle) 0 (state (after 0 1 LateStart 1) (gap 0 max 0) (locks 2 buttons 0) idle 2)
    -- a late start of 1 is one
    ∷ leading_to (put_two junction 24 1) (leaving_a AllRed 10 (gap 3 max 2) idle) 0 (state (after 0 1 LateStart 1) (gap 0 max 0) (locks 2 buttons 0) idle 2)
    -- a movement in C2 holds all-red, also the eighth; in the step in which C2 ends it does not
    ∷ leading_to crossing (leaving_a AllRed 10 (gap 0 max 2) (moving ClearanceTwo 49)) 0 (leaving_a AllRed 11 (gap 0 max 2) (moving ClearanceTwo 50))
    ∷ leading_to crossing (leaving_a AllRed 11 (gap 0 max 2) (moving ClearanceTwo 50)) 0 (state (after 0 1 MinimumGreen 1) (gap 5 max 0) (locks 0 buttons 0) idle 0)
    ∷ leading_to eight_crossings (locked_a (at 1 AllRed 10 (Some 0)) (gap 0 max 2) (eighth (moving ClearanceTwo 5))) 0 (locked_a (at 1 AllRed 11 (Some 0)) (gap 0 max 2) (eighth (moving ClearanceTwo 6)))
    ∷ []

-- ── Part 5: walks ──

unfoldable pub walk_parts : List CallCase
walk_parts =
    -- when A starts, its demanded movement begins its walk, though B is demanded; the demand is cleared
    leading_to crossing (state (at 1 AllRed 10 (Some 0)) (gap 0 max 1) (locks 2 buttons 1) idle 3) 0 (state (after 1 0 MinimumGreen 1) (gap 5 max 0) (locks 2 buttons 0) (moving Walk 1) 2)
    ∷ leading_to crossing (in_a StartRed 10 (gap 0 max 0) (locks 0 buttons 1) idle 1) 0 (in_a MinimumGreen 1 (gap 5 max 0) (locks 0 buttons 0) (moving Walk 1) 0)
    -- also in late start, which leaves the lock; a later press waits, and A stays kept when its lock is cleared
    ∷ leading_to late_crossing (state (at 1 AllRed 10 (Some 0)) (gap 0 max 1) (locks 1 buttons 1) idle 1) 0 (state (after 1 0 LateStart 1) (gap 0 max 0) (locks 1 buttons 0) (moving Walk 1) 1)
    ∷ leading_to late_crossing (in_a LateStart 20 (gap 0 max 0) (locks 1 buttons 1) idle 1) 0 (in_a MinimumGreen 1 (gap 5 max 0) (locks 0 buttons 1) idle 1)
    -- without a demand none begins, and when B starts the movement of A does not
    ∷ leading_to crossing (state (at 1 AllRed 10 (Some 0)) (gap 0 max 1) (locks 1 buttons 0) idle 1) 0 (state (after 1 0 MinimumGreen 1) (gap 5 max 0) (locks 0 buttons 0) idle 0)
    ∷ leading_to crossing (state (at 0 AllRed 10 (Some 1)) (gap 0 max 1) (locks 2 buttons 1) idle 3) 0 (state (after 0 1 MinimumGreen 1) (gap 5 max 0) (locks 0 buttons 1) idle 1)
    -- in running it begins if no other phase is demanded, also in the step in which running begins, and in the step of the press
    ∷ leading_to crossing (in_a Running 5 (gap 0 max 0) (locks 0 buttons 1) idle 1) 0 (in_a Running 6 (gap 0 max 0) (locks 0 buttons 0) (moving Walk 1) 0)
    ∷ leading_to crossing (in_a Running 5 (gap 0 max 0) (locks 0 buttons 0) idle 0) (2 ^ 48) (in_a Running 6 (gap 0 max 0) (locks 0 buttons 0) (moving Walk 1) 0)
    ∷ leading_to crossing (in_a MinimumGreen 20 (gap 0 max 0) (locks 0 buttons 1) idle 1) 0 (in_a Running 1 (gap 0 max 0) (locks 0 buttons 0) (moving Walk 1) 0)
    -- not in minimum green, and not if B is demanded, when running begins, in it and when it ends
    ∷ leading_to crossing (in_a MinimumGreen 5 (gap 0 max 0) (locks 0 buttons 1) idle 1) 0 (in_a MinimumGreen 6 (gap 0 max 0) (locks 0 buttons 1) idle 1)
    ∷ leading_to crossing (in_a Running 5 (gap 3 max 0) (locks 2 buttons 1) idle 3) 0 (in_a Running 6 (gap 2 max 1) (locks 2 buttons 1) idle 3)
    ∷ leading_to crossing (in_a MinimumGreen 20 (gap 0 max 0) (locks 2 buttons 1) idle 3) 0 (in_a Running 1 (gap 0 max 0) (locks 2 buttons 1) idle 3)
    ∷ leading_to crossing (in_a Running 5 (gap 0 max 1) (locks 2 buttons 1) idle 3) 0 (state (at 0 Yellow 1 (Some 1)) (gap 0 max 2) (locks 2 buttons 1) idle 3)
    -- not before C2 is over, and in the step in which it ends
    ∷ leading_to crossing (in_a Running 5 (gap 0 max 0) (locks 0 buttons 1) (moving ClearanceTwo 49) 1) 0 (in_a Running 6 (gap 0 max 0) (locks 0 buttons 1) (moving ClearanceTwo 50) 1)
    ∷ leading_to crossing (in_a Running 5 (gap 0 max 0) (locks 0 buttons 1) (moving ClearanceTwo 50) 1) 0 (in_a Running 6 (gap 0 max 0) (locks 0 buttons 0) (moving Walk 1) 0)
    -- of two demanded movements of A one begins; the other is in C2 and keeps A demanded
    ∷ leading_to eight_crossings (beside_c2 5 idle 3 1) 0 (beside_c2 6 (moving Walk 1) 2 1)
    -- the eighth movement begins when B starts
    ∷ leading_to eight_crossings (state (at 0 AllRed 10 (Some 1)) (gap 0 max 1) (locks 0 buttons 128) idle 2) 0
    (record {
      core = record { position = after 0 1 MinimumGreen 1; counts = gap 5 max 0; demands = locks 0 buttons 0; movements = eighth (moving Walk 1) };
      kept = 0;
    })
    ∷ []

unfoldable pub StepsHold : Type 0
StepsHold = AllHold CallHolds demand_parts × AllHold CallHolds movement_parts × AllHold CallHolds interval_parts × AllHold CallHolds walk_parts
