-- Worked cases of valid states, clause by clause of document 01's list and of request two: for each clause a state that is just valid, whose step is
-- accepted, and one just past it, which is 13. The times in a state are in TimedCases.
use Rattle.std.specs.Prelude.{ℕ, List, [], ◌∷◌, ◌++◌, replicate, Option, Some, None}
use Rattle.rules.specs.Types.{Interval, StartRed, LateStart, MinimumGreen, Running, EarlyCutOff, Yellow, AllRed, KeptState, Movement, Position, Idle, Walk, ClearanceOne, ClearanceTwo}
use Rattle.rules.specs.State.{idle}
use Rattle.rules.specs.Junctions.{junction, put_two, put_twos, crossing, seven_phases, eight_crossings, cut_offs}
use Rattle.rules.specs.CallCases.{CallCase, CallHolds, AllHold, at, gap◌max◌, locks◌buttons◌, moving, state, stepping, stepping_to, refusing_with}

-- ── Writing a state ──

-- at a position: counts of 0, no demands, all movements idle
abbrev calm : Position → KeptState
calm position = state position (gap 0 max 0) (locks 0 buttons 0) idle 0

-- A in running, with a came-from
abbrev came_from : ℕ → ℕ → KeptState
came_from previous age = calm (record { phase = 0; interval = Running; age = age; previous = Some previous; target = None })

-- start red of a phase at an age, with counts
abbrev counted : ℕ → ℕ → ℕ → ℕ → KeptState
counted phase gap_count maximum_count age = state (at phase StartRed age None) (gap gap_count max maximum_count) (locks 0 buttons 0) idle 0

-- start red of A at an age, with sets of locks and buttons, and a kept set
abbrev asking : ℕ → ℕ → ℕ → ℕ → KeptState
asking ps ks kept age = state (at 0 StartRed age None) (gap 0 max 0) (locks ps buttons ks) idle kept

-- A in an interval at an age with a target, its first movement given
abbrev walking : Interval → ℕ → Option ℕ → Movement → KeptState
walking interval age target first = state (at 0 interval age target) (gap 0 max 0) (locks 0 buttons 0) first 0

-- a phase in running at an age; the eighth movement record is given, the others are idle
abbrev eighth : ℕ → ℕ → Movement → KeptState
eighth phase age m =
    record {
      core = record {
        position = at phase Running age None;
        counts = gap 0 max 0;
        demands = locks 0 buttons 0;
        movements = replicate 7 idle ++ (m ∷ []);
      };
      kept = 0;
    }

-- ── Bytes ──

-- the junction with X 40 and G 10 of B
abbrev other_b : List ℕ
other_b = put_twos junction 28 (40 ∷ 10 ∷ [])

-- the crossing with early cut-off green of A
abbrev early : List ℕ
early = crossing ++ cut_offs (20 ∷ 0 ∷ [])

-- ── The lists and their statement ──

unfoldable pub position_cases : List CallCase
position_cases =
    -- the phase is below P
    stepping_to junction (calm (at 1 Running 1 None)) 0 (calm (at 1 Running 2 None))
    ∷ refusing_with junction (calm (at 2 Running 1 None)) 0 13
    -- the age is 1 to 2,000, and stops there
    ∷ refusing_with junction (calm (at 0 Running 0 None)) 0 13
    ∷ stepping_to junction (calm (at 0 Running 1 None)) 0 (calm (at 0 Running 2 None))
    ∷ stepping_to junction (calm (at 0 Running 1999 None)) 0 (calm (at 0 Running 2000 None))
    ∷ stepping junction (calm (at 0 Running 2000 None)) 0 270 (calm (at 0 Running 2000 None))
    ∷ refusing_with junction (calm (at 0 Running 2001 None)) 0 13
    -- came-from is a phase, also the phase itself
    ∷ stepping_to junction (came_from 1 1) 0 (came_from 1 2)
    ∷ stepping_to junction (came_from 0 1) 0 (came_from 0 2)
    ∷ refusing_with junction (came_from 2 1) 0 13
    -- a target is held while the phase is being left
    ∷ stepping_to junction (calm (at 0 Yellow 1 (Some 1))) 0 (calm (at 0 Yellow 2 (Some 1)))
    ∷ stepping_to junction (calm (at 0 AllRed 1 (Some 1))) 0 (calm (at 0 AllRed 2 (Some 1)))
    ∷ stepping_to early (calm (at 0 EarlyCutOff 1 (Some 1))) 0 (calm (at 0 EarlyCutOff 2 (Some 1)))
    ∷ refusing_with junction (calm (at 0 Yellow 1 None)) 0 13
    ∷ refusing_with junction (calm (at 0 AllRed 1 None)) 0 13
    ∷ refusing_with early (calm (at 0 EarlyCutOff 1 None)) 0 13
    -- and only then
    ∷ refusing_with junction (calm (at 0 StartRed 1 (Some 1))) 0 13
    ∷ refusing_with junction (calm (at 0 LateStart 1 (Some 1))) 0 13
    ∷ refusing_with junction (calm (at 0 MinimumGreen 1 (Some 1))) 0 13
    ∷ refusing_with junction (calm (at 0 Running 1 (Some 1))) 0 13
    -- it is a phase, and not the own one
    ∷ refusing_with junction (calm (at 0 Yellow 1 (Some 0))) 0 13
    ∷ refusing_with junction (calm (at 1 Yellow 1 (Some 1))) 0 13
    ∷ stepping_to junction (calm (at 1 Yellow 1 (Some 0))) 0 (calm (at 1 Yellow 2 (Some 0)))
    ∷ refusing_with junction (calm (at 0 Yellow 1 (Some 2))) 0 13
    -- the gap count is at most G and the maximum count at most X, of the own phase
    ∷ stepping_to junction (counted 0 5 30 1) 0 (counted 0 5 30 2)
    ∷ refusing_with junction (counted 0 6 0 1) 0 13
    ∷ refusing_with junction (counted 0 0 31 1) 0 13
    ∷ stepping_to other_b (counted 1 10 40 1) 0 (counted 1 10 40 2)
    ∷ refusing_with other_b (counted 1 11 0 1) 0 13
    ∷ refusing_with other_b (counted 1 0 41 1) 0 13
    ∷ refusing_with other_b (counted 0 6 0 1) 0 13
    ∷ []

unfoldable pub demand_cases : List CallCase
demand_cases =
    -- locks only of phases that exist
    stepping_to junction (asking 3 0 3 1) 0 (asking 3 0 3 2)
    ∷ refusing_with junction (asking 4 0 4 1) 0 13
    ∷ stepping_to seven_phases (asking 127 0 127 1) 0 (asking 127 0 127 2)
    ∷ refusing_with seven_phases (asking 128 0 128 1) 0 13
    -- button demands only of movements that exist
    ∷ refusing_with junction (asking 0 1 0 1) 0 13
    ∷ stepping_to crossing (asking 0 1 1 1) 0 (asking 0 1 1 2)
    ∷ refusing_with crossing (asking 0 2 0 1) 0 13
    ∷ refusing_with crossing (asking 0 128 0 1) 0 13
    ∷ stepping_to eight_crossings (asking 0 255 3 1) 0 (asking 0 255 3 2)
    -- the kept set is that of the locks and the demanded movements
    ∷ stepping_to crossing (asking 1 1 1 1) 0 (asking 1 1 1 2)
    ∷ stepping_to crossing (asking 2 1 3 1) 0 (asking 2 1 3 2)
    ∷ refusing_with junction (asking 2 0 0 1) 0 13
    ∷ refusing_with junction (asking 0 0 2 1) 0 13
    ∷ refusing_with crossing (asking 0 1 0 1) 0 13
    ∷ refusing_with crossing (asking 0 1 2 1) 0 13
    ∷ []

unfoldable pub movement_cases : List CallCase
movement_cases =
    -- a movement of another phase is idle
    refusing_with crossing (state (at 1 Running 1 None) (gap 0 max 0) (locks 0 buttons 0) (moving Walk 1) 0) 0 13
    ∷ refusing_with crossing (state (at 1 Running 1 None) (gap 0 max 0) (locks 0 buttons 0) (moving ClearanceTwo 1) 0) 0 13
    -- while the phase is being left none is in walk or C1
    ∷ refusing_with crossing (walking Yellow 1 (Some 1) (moving Walk 1)) 0 13
    ∷ refusing_with crossing (walking Yellow 1 (Some 1) (moving ClearanceOne 1)) 0 13
    ∷ stepping_to crossing (walking Yellow 1 (Some 1) (moving ClearanceTwo 1)) 0 (walking Yellow 2 (Some 1) (moving ClearanceTwo 2))
    ∷ refusing_with crossing (walking AllRed 1 (Some 1) (moving Walk 1)) 0 13
    ∷ refusing_with crossing (walking AllRed 1 (Some 1) (moving ClearanceOne 1)) 0 13
    ∷ stepping_to crossing (walking AllRed 1 (Some 1) (moving ClearanceTwo 1)) 0 (walking AllRed 2 (Some 1) (moving ClearanceTwo 2))
    ∷ refusing_with early (walking EarlyCutOff 1 (Some 1) (moving Walk 1)) 0 13
    ∷ refusing_with early (walking EarlyCutOff 1 (Some 1) (moving ClearanceOne 1)) 0 13
    ∷ stepping_to early (walking EarlyCutOff 1 (Some 1) (moving ClearanceTwo 1)) 0 (walking EarlyCutOff 2 (Some 1) (moving ClearanceTwo 2))
    -- in start red all are idle
    ∷ refusing_with crossing (walking StartRed 1 None (moving Walk 1)) 0 13
    ∷ refusing_with crossing (walking StartRed 1 None (moving ClearanceOne 1)) 0 13
    ∷ refusing_with crossing (walking StartRed 1 None (moving ClearanceTwo 1)) 0 13
    -- a walk in late start and in minimum green
    ∷ stepping_to (put_two crossing 12 20) (walking LateStart 1 None (moving Walk 1)) 0 (walking LateStart 2 None (moving Walk 2))
    ∷ stepping_to crossing (walking MinimumGreen 1 None (moving Walk 1)) 0 (walking MinimumGreen 2 None (moving Walk 2))
    -- the ages of movements are 1 to 2,000, and stop there; that of an idle one is 1
    ∷ refusing_with crossing (walking Running 1 None (moving Walk 0)) 0 13
    ∷ stepping_to crossing (walking Running 1 None (moving Walk 2000)) 0 (walking Running 2 None (moving Walk 2000))
    ∷ refusing_with crossing (walking Running 1 None (moving Walk 2001)) 0 13
    ∷ refusing_with crossing (walking Running 1 None (moving Idle 0)) 0 13
    ∷ refusing_with crossing (walking Running 1 None (moving Idle 2)) 0 13
    -- a record that the site does not have is idle, at age 1; the eighth record of a site that has it is a movement of B
    ∷ refusing_with crossing (eighth 0 1 (moving Walk 1)) 0 13
    ∷ refusing_with crossing (eighth 0 1 (moving Idle 2)) 0 13
    ∷ stepping_to eight_crossings (eighth 1 1 (moving Walk 1)) 0 (eighth 1 2 (moving Walk 2))
    ∷ refusing_with eight_crossings (eighth 0 1 (moving Walk 1)) 0 13
    ∷ []

unfoldable pub StatesHold : Type 0
StatesHold = AllHold CallHolds position_cases × AllHold CallHolds demand_cases × AllHold CallHolds movement_cases
