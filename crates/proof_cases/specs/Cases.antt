-- The worked cases: document 01's starred ones, and our own below them, with one statement: each of them holds. The cases of
-- one call that a must-fail edit of the rules needs stand in rules/specs/*Cases.antt; most of the starred ones of one call are there and here.
use Rattle.std.specs.Prelude.{ℕ, ◌+◌, ◌^◌, ◌&&◌, ◌||◌, List, [], ◌∷◌, ◌++◌, ◌≡◌, eqb, leb, set, if◌then◌else◌, None}
use Rattle.rules.specs.Verdicts.{Accepted, Refused}
use Rattle.rules.specs.declared.state.Interval.TheVariants.{StartRed, LateStart, MinimumGreen, Running, EarlyCutOff, Yellow, AllRed}
use Rattle.rules.specs.declared.state.KeptState.{KeptState}
use Rattle.rules.specs.State.{idle}
use Rattle.rules.specs.Kept.{fresh_kept}
use Rattle.rules.specs.Colours.{red, yellow, green, flashing}
use Rattle.rules.specs.Junctions.{junction, put_two, crossing, three_phases, calling_b, overlap, cut_offs, turning, turning_both, ordered, edition_two}
use Rattle.rules.specs.CallCases.{CallCase, reading, waiting, CallHolds, AllHold, at, gap◌max◌, locks◌buttons◌, state, stepping, declining}
use Rattle.proof_cases.specs.Traces.{Line, line, plain_changes}

-- A case is one call, or the changes of n step calls whose input bits are given by step.
pub data Case : Type 0 where
  call : CallCase → Case
  running : List ℕ → (ℕ → ℕ) → ℕ → List Line → Case

abbrev pub Holds : Case → Type 0
Holds (call c) = CallHolds c
Holds (running b inputs n lines) = plain_changes b inputs n ≡ lines

-- ── Document 01, the junction of two phases ──

-- detector 1 in step 12 only
unfoldable pub once_b : ℕ → ℕ
once_b step = if eqb step 12 then 2 else 0

-- the same with detector 0 always occupied
unfoldable pub once_b_always_a : ℕ → ℕ
once_b_always_a step = once_b step + 1

unfoldable pub starred : List Case
starred =
    call (waiting junction 270)
    ∷ running junction once_b 72
    (line 1 0 StartRed (red ∷ red ∷ [])
    ∷ line 10 0 MinimumGreen (green ∷ red ∷ [])
    ∷ line 30 0 Running (green ∷ red ∷ [])
    ∷ line 31 0 Yellow (yellow ∷ red ∷ [])
    ∷ line 61 0 AllRed (red ∷ red ∷ [])
    ∷ line 71 1 MinimumGreen (red ∷ green ∷ [])
    ∷ [])
    ∷ running junction once_b_always_a 101
    (line 1 0 StartRed (red ∷ red ∷ [])
    ∷ line 10 0 MinimumGreen (green ∷ red ∷ [])
    ∷ line 30 0 Running (green ∷ red ∷ [])
    ∷ line 60 0 Yellow (yellow ∷ red ∷ [])
    ∷ line 90 0 AllRed (red ∷ red ∷ [])
    ∷ line 100 1 MinimumGreen (red ∷ green ∷ [])
    ∷ [])
    ∷ call (reading junction Accepted)
    ∷ call (reading [] (Refused 1 0))
    ∷ call (reading (junction ++ (0 ∷ [])) (Refused 12 68))
    ∷ call (reading (put_two junction 20 29) (Refused 5 20))
    ∷ call (reading (put_two junction 20 30) Accepted)
    ∷ call (reading (put_two junction 16 1501) (Refused 5 16))
    ∷ call (reading (put_two junction 16 1500) Accepted)
    ∷ call (reading (set junction 42 3) (Refused 10 48))
    ∷ call (reading (set junction 42 1) (Refused 8 36))
    ∷ call (reading (set junction 52 0) (Refused 9 48))
    ∷ call (reading (set junction 60 2) (Refused 11 60))
    ∷ []

-- ── Our own ──

-- the button of the crossing in step 12 and, in its first clearance, in step 45; detector 1 in step 31
unfoldable pub walk_twice : ℕ → ℕ
walk_twice step = if eqb step 12 || eqb step 45 then 2 ^ 48 else if eqb step 31 then 2 else 0

-- detector 2 in step 12, and detector 1 in step 40, when A is in yellow for C
unfoldable pub later_b : ℕ → ℕ
later_b step = if eqb step 12 then 4 else if eqb step 40 then 2 else 0

-- detector 0 always; detector 1 in steps 31 to 35 and from 62 on
unfoldable pub pausing : ℕ → ℕ
pausing step = if (leb 31 step && leb step 35) || leb 62 step then 3 else 1

unfoldable pub ours : List Case
ours =
    -- the second clearance holds all-red past R, and the press in the first clearance brings A back with a walk
    running crossing walk_twice 162
    (line 1 0 StartRed (red ∷ red ∷ red ∷ [])
    ∷ line 10 0 MinimumGreen (green ∷ red ∷ red ∷ [])
    ∷ line 30 0 Running (green ∷ red ∷ green ∷ [])
    ∷ line 40 0 Running (green ∷ red ∷ flashing ∷ [])
    ∷ line 50 0 Yellow (yellow ∷ red ∷ flashing ∷ [])
    ∷ line 80 0 AllRed (red ∷ red ∷ flashing ∷ [])
    ∷ line 100 1 MinimumGreen (red ∷ green ∷ red ∷ [])
    ∷ line 120 1 Running (red ∷ green ∷ red ∷ [])
    ∷ line 121 1 Yellow (red ∷ yellow ∷ red ∷ [])
    ∷ line 151 1 AllRed (red ∷ red ∷ red ∷ [])
    ∷ line 161 0 MinimumGreen (green ∷ red ∷ green ∷ [])
    ∷ [])
    -- the target stays the one chosen when running ended
    ∷ running three_phases later_b 72
    (line 1 0 StartRed (red ∷ red ∷ red ∷ [])
    ∷ line 10 0 MinimumGreen (green ∷ red ∷ red ∷ [])
    ∷ line 30 0 Running (green ∷ red ∷ red ∷ [])
    ∷ line 31 0 Yellow (yellow ∷ red ∷ red ∷ [])
    ∷ line 61 0 AllRed (red ∷ red ∷ red ∷ [])
    ∷ line 71 2 MinimumGreen (red ∷ red ∷ green ∷ [])
    ∷ [])
    -- the maximum count goes on rising while the non-locking call is away
    ∷ running calling_b pausing 63
    (line 1 0 StartRed (red ∷ red ∷ [])
    ∷ line 10 0 MinimumGreen (green ∷ red ∷ [])
    ∷ line 30 0 Running (green ∷ red ∷ [])
    ∷ line 62 0 Yellow (yellow ∷ red ∷ [])
    ∷ [])
    -- a group of both phases stays green from A to B; one with late start waits where it was not green in A
    ∷ running overlap once_b 92
    (line 1 0 StartRed (red ∷ red ∷ red ∷ red ∷ [])
    ∷ line 10 0 MinimumGreen (green ∷ red ∷ green ∷ red ∷ [])
    ∷ line 30 0 Running (green ∷ red ∷ green ∷ red ∷ [])
    ∷ line 31 0 Yellow (yellow ∷ red ∷ green ∷ red ∷ [])
    ∷ line 61 0 AllRed (red ∷ red ∷ green ∷ red ∷ [])
    ∷ line 71 1 LateStart (red ∷ green ∷ green ∷ red ∷ [])
    ∷ line 91 1 MinimumGreen (red ∷ green ∷ green ∷ green ∷ [])
    ∷ [])
    ∷ []

-- ── Request one: early cut-off green ──

-- detector 1 in step 12, and detector 0 in step 40, when A is in early cut-off green
unfoldable pub lock_a : ℕ → ℕ
lock_a step = once_b step + (if eqb step 40 then 1 else 0)

unfoldable pub early : List Case
early =
    -- the wait gains twice the sum of the times
    call (waiting (turning ++ cut_offs (20 ∷ 0 ∷ [])) 310)
    -- the arrow closes for Y steps from the start of early cut-off green, over the change to yellow
    ∷ running (turning ++ cut_offs (20 ∷ 0 ∷ [])) once_b 92
    (line 1 0 StartRed (red ∷ red ∷ red ∷ [])
    ∷ line 10 0 MinimumGreen (green ∷ green ∷ red ∷ [])
    ∷ line 30 0 Running (green ∷ green ∷ red ∷ [])
    ∷ line 31 0 EarlyCutOff (green ∷ yellow ∷ red ∷ [])
    ∷ line 51 0 Yellow (yellow ∷ yellow ∷ red ∷ [])
    ∷ line 61 0 Yellow (yellow ∷ red ∷ red ∷ [])
    ∷ line 81 0 AllRed (red ∷ red ∷ red ∷ [])
    ∷ line 91 1 MinimumGreen (red ∷ red ∷ green ∷ [])
    ∷ [])
    -- a time longer than Y: the arrow is red from then on
    ∷ running (turning ++ cut_offs (50 ∷ 0 ∷ [])) once_b 122
    (line 1 0 StartRed (red ∷ red ∷ red ∷ [])
    ∷ line 10 0 MinimumGreen (green ∷ green ∷ red ∷ [])
    ∷ line 30 0 Running (green ∷ green ∷ red ∷ [])
    ∷ line 31 0 EarlyCutOff (green ∷ yellow ∷ red ∷ [])
    ∷ line 61 0 EarlyCutOff (green ∷ red ∷ red ∷ [])
    ∷ line 81 0 Yellow (yellow ∷ red ∷ red ∷ [])
    ∷ line 111 0 AllRed (red ∷ red ∷ red ∷ [])
    ∷ line 121 1 MinimumGreen (red ∷ red ∷ green ∷ [])
    ∷ [])
    -- a time of 0 skips it, and the arrow closes with the rest
    ∷ running (turning ++ cut_offs (0 ∷ 0 ∷ [])) once_b 72
    (line 1 0 StartRed (red ∷ red ∷ red ∷ [])
    ∷ line 10 0 MinimumGreen (green ∷ green ∷ red ∷ [])
    ∷ line 30 0 Running (green ∷ green ∷ red ∷ [])
    ∷ line 31 0 Yellow (yellow ∷ yellow ∷ red ∷ [])
    ∷ line 61 0 AllRed (red ∷ red ∷ red ∷ [])
    ∷ line 71 1 MinimumGreen (red ∷ red ∷ green ∷ [])
    ∷ [])
    -- an arrow that has the target in its set stays green
    ∷ running (turning_both ++ cut_offs (20 ∷ 0 ∷ [])) once_b 92
    (line 1 0 StartRed (red ∷ red ∷ red ∷ [])
    ∷ line 10 0 MinimumGreen (green ∷ green ∷ red ∷ [])
    ∷ line 30 0 Running (green ∷ green ∷ red ∷ [])
    ∷ line 31 0 EarlyCutOff (green ∷ green ∷ red ∷ [])
    ∷ line 51 0 Yellow (yellow ∷ green ∷ red ∷ [])
    ∷ line 81 0 AllRed (red ∷ green ∷ red ∷ [])
    ∷ line 91 1 MinimumGreen (red ∷ green ∷ green ∷ [])
    ∷ [])
    -- the target is the one read at its start
    ∷ running (three_phases ++ cut_offs (20 ∷ 0 ∷ 0 ∷ [])) later_b 92
    (line 1 0 StartRed (red ∷ red ∷ red ∷ [])
    ∷ line 10 0 MinimumGreen (green ∷ red ∷ red ∷ [])
    ∷ line 30 0 Running (green ∷ red ∷ red ∷ [])
    ∷ line 31 0 EarlyCutOff (green ∷ red ∷ red ∷ [])
    ∷ line 51 0 Yellow (yellow ∷ red ∷ red ∷ [])
    ∷ line 81 0 AllRed (red ∷ red ∷ red ∷ [])
    ∷ line 91 2 MinimumGreen (red ∷ red ∷ green ∷ [])
    ∷ [])
    -- a locking detector of the phase locks in it
    ∷ running (turning ++ cut_offs (20 ∷ 0 ∷ [])) lock_a 153
    (line 1 0 StartRed (red ∷ red ∷ red ∷ [])
    ∷ line 10 0 MinimumGreen (green ∷ green ∷ red ∷ [])
    ∷ line 30 0 Running (green ∷ green ∷ red ∷ [])
    ∷ line 31 0 EarlyCutOff (green ∷ yellow ∷ red ∷ [])
    ∷ line 51 0 Yellow (yellow ∷ yellow ∷ red ∷ [])
    ∷ line 61 0 Yellow (yellow ∷ red ∷ red ∷ [])
    ∷ line 81 0 AllRed (red ∷ red ∷ red ∷ [])
    ∷ line 91 1 MinimumGreen (red ∷ red ∷ green ∷ [])
    ∷ line 111 1 Running (red ∷ red ∷ green ∷ [])
    ∷ line 112 1 Yellow (red ∷ red ∷ yellow ∷ [])
    ∷ line 142 1 AllRed (red ∷ red ∷ red ∷ [])
    ∷ line 152 0 MinimumGreen (green ∷ green ∷ red ∷ [])
    ∷ [])
    -- mark 3 without the section, also where a part of a head follows; 12 after it
    ∷ call (reading turning (Refused 17 42))
    ∷ call (reading (turning ++ (4 ∷ 0 ∷ 7 ∷ [])) (Refused 17 42))
    ∷ call (reading (junction ++ (4 ∷ 0 ∷ 7 ∷ [])) (Refused 12 68))
    ∷ call (reading (turning ++ cut_offs (20 ∷ 0 ∷ [])) Accepted)
    ∷ call (reading (turning ++ cut_offs (20 ∷ 0 ∷ []) ++ (1 ∷ [])) (Refused 12 82))
    ∷ call (reading (turning ++ cut_offs (201 ∷ 0 ∷ [])) (Refused 5 78))
    ∷ call (reading (turning ++ cut_offs (200 ∷ 0 ∷ [])) Accepted)
    ∷ call (reading (turning ++ (3 ∷ 0 ∷ 7 ∷ 0 ∷ 0 ∷ 0 ∷ 0 ∷ [])) (Refused 3 74))
    ∷ call (reading (turning ++ (4 ∷ 0 ∷ 7 ∷ 0 ∷ 0 ∷ 0 ∷ 0 ∷ [])) (Refused 1 74))
    ∷ []

-- ── Request two: demanded phases kept ready ──

-- A in start red at this age, with a set of locks and a kept set; the set of B alone is 2
abbrev in_start_red : ℕ → ℕ → ℕ → KeptState
in_start_red age locked kept = state (at 0 StartRed age None) (gap 0 max 0) (locks locked buttons 0) idle kept

unfoldable pub keeping : List Case
keeping =
    -- a lock that is kept stays kept
    call (stepping junction (in_start_red 1 2 2) 0 270 (in_start_red 2 2 2))
    -- an occupied locking detector keeps its phase
    ∷ call (stepping junction fresh_kept 2 270 (in_start_red 2 2 2))
    -- a detector that calls without lock does not
    ∷ call (stepping calling_b fresh_kept 2 270 (in_start_red 2 0 0))
    -- a kept set that differs from the scan is not valid, either way
    ∷ call (declining junction (in_start_red 1 2 0) 0 13)
    ∷ call (declining junction (in_start_red 1 0 2) 0 13)
    ∷ []

-- ── Request three: the green man rests ──

-- the button of the crossing in step 12 and detector 1 in step 100
unfoldable pub call_later : ℕ → ℕ
call_later step = if eqb step 12 then 2 ^ 48 else if eqb step 100 then 2 else 0

-- the same with detector 0 always occupied
unfoldable pub call_later_always_a : ℕ → ℕ
call_later_always_a step = call_later step + 1

unfoldable pub resting : List Case
resting =
    -- the walk rests until B is demanded
    running crossing call_later 161
    (line 1 0 StartRed (red ∷ red ∷ red ∷ [])
    ∷ line 10 0 MinimumGreen (green ∷ red ∷ red ∷ [])
    ∷ line 30 0 Running (green ∷ red ∷ green ∷ [])
    ∷ line 100 0 Running (green ∷ red ∷ flashing ∷ [])
    ∷ line 110 0 Yellow (yellow ∷ red ∷ flashing ∷ [])
    ∷ line 140 0 AllRed (red ∷ red ∷ flashing ∷ [])
    ∷ line 160 1 MinimumGreen (red ∷ green ∷ red ∷ [])
    ∷ [])
    -- and on until the maximum count is X
    ∷ running crossing call_later_always_a 191
    (line 1 0 StartRed (red ∷ red ∷ red ∷ [])
    ∷ line 10 0 MinimumGreen (green ∷ red ∷ red ∷ [])
    ∷ line 30 0 Running (green ∷ red ∷ green ∷ [])
    ∷ line 130 0 Running (green ∷ red ∷ flashing ∷ [])
    ∷ line 140 0 Yellow (yellow ∷ red ∷ flashing ∷ [])
    ∷ line 170 0 AllRed (red ∷ red ∷ flashing ∷ [])
    ∷ line 190 1 MinimumGreen (red ∷ green ∷ red ∷ [])
    ∷ [])
    ∷ []

-- ── Request five: phases not in letter order ──

-- detectors 1 and 2 in step 12
unfoldable pub both_others : ℕ → ℕ
both_others step = if eqb step 12 then 6 else 0

unfoldable pub in_order : List Case
in_order =
    -- A, C, B
    running (three_phases ++ ordered (0 ∷ 2 ∷ 1 ∷ [])) both_others 133
    (line 1 0 StartRed (red ∷ red ∷ red ∷ [])
    ∷ line 10 0 MinimumGreen (green ∷ red ∷ red ∷ [])
    ∷ line 30 0 Running (green ∷ red ∷ red ∷ [])
    ∷ line 31 0 Yellow (yellow ∷ red ∷ red ∷ [])
    ∷ line 61 0 AllRed (red ∷ red ∷ red ∷ [])
    ∷ line 71 2 MinimumGreen (red ∷ red ∷ green ∷ [])
    ∷ line 91 2 Running (red ∷ red ∷ green ∷ [])
    ∷ line 92 2 Yellow (red ∷ red ∷ yellow ∷ [])
    ∷ line 122 2 AllRed (red ∷ red ∷ red ∷ [])
    ∷ line 132 1 MinimumGreen (red ∷ green ∷ red ∷ [])
    ∷ [])
    -- it moves no wait
    ∷ call (waiting (three_phases ++ ordered (0 ∷ 2 ∷ 1 ∷ [])) 400)
    ∷ call (reading (three_phases ++ ordered (0 ∷ 2 ∷ 1 ∷ [])) Accepted)
    -- the order starts anywhere, and the fresh state is phase A all the same
    ∷ call (reading (three_phases ++ ordered (2 ∷ 1 ∷ 0 ∷ [])) Accepted)
    -- a phase that is not one
    ∷ call (reading (three_phases ++ ordered (0 ∷ 2 ∷ 3 ∷ [])) (Refused 18 88))
    -- a wrong length, a body cut short, a byte behind it
    ∷ call (reading (three_phases ++ ordered (0 ∷ 2 ∷ [])) (Refused 3 88))
    ∷ call (reading (three_phases ++ (3 ∷ 0 ∷ 9 ∷ 0 ∷ 0 ∷ 2 ∷ [])) (Refused 1 88))
    ∷ call (reading (three_phases ++ ordered (0 ∷ 2 ∷ 1 ∷ []) ++ (1 ∷ [])) (Refused 12 95))
    -- kind 9 after kind 7, and not before it
    ∷ call (reading (three_phases ++ cut_offs (20 ∷ 0 ∷ 0 ∷ []) ++ ordered (0 ∷ 2 ∷ 1 ∷ [])) Accepted)
    ∷ call (reading (three_phases ++ ordered (0 ∷ 2 ∷ 1 ∷ []) ++ cut_offs (20 ∷ 0 ∷ 0 ∷ [])) (Refused 12 95))
    -- 18 is checked with that body, so before 17
    ∷ call (reading (turning ++ ordered (0 ∷ 0 ∷ [])) (Refused 18 74))
    ∷ call (reading (turning ++ ordered (1 ∷ 0 ∷ [])) (Refused 17 42))
    ∷ []

-- ── Request seven: a phase nobody can call ──

unfoldable pub callers : List Case
callers =
    -- a detector that does nothing calls no phase; one that calls without lock does, also where it extends
    call (reading (set junction 63 0) (Refused 21 56))
    ∷ call (reading (set junction 63 1) Accepted)
    ∷ call (reading (set junction 63 5) Accepted)
    -- it is checked after all sections: a wrong time of kind 7 comes first; and before 12
    ∷ call (reading (set turning 69 4 ++ cut_offs (201 ∷ 0 ∷ [])) (Refused 5 78))
    ∷ call (reading (set turning 69 4 ++ (1 ∷ [])) (Refused 21 62))
    ∷ []

-- ── Request eleven: edition two of the limits ──

unfoldable pub in_edition_two : List Case
in_edition_two =
    -- 30 + 2 × (20 + 30 + 2 × (30 + 15))
    call (waiting edition_two 310)
    -- detector 1 in step 12: start red and all-red last as long as the personality says
    ∷ running edition_two once_b 97
    (line 1 0 StartRed (red ∷ red ∷ [])
    ∷ line 30 0 MinimumGreen (green ∷ red ∷ [])
    ∷ line 50 0 Running (green ∷ red ∷ [])
    ∷ line 51 0 Yellow (yellow ∷ red ∷ [])
    ∷ line 81 0 AllRed (red ∷ red ∷ [])
    ∷ line 96 1 MinimumGreen (red ∷ green ∷ [])
    ∷ [])
    ∷ []

-- ── The statement; three lists, since one computation has a limit ──

abbrev pub later_cases : List Case
later_cases = keeping ++ resting ++ in_order ++ callers ++ in_edition_two

unfoldable pub CasesHold : Type 0
CasesHold = AllHold Holds (starred ++ ours) × AllHold Holds early × AllHold Holds later_cases
