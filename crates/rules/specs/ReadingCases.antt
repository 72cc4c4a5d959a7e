-- Worked cases of reading a personality: each number of document 01's table of checks, and 17, 18 and 21, with its place; both sides of each limit
-- that is not a time; and of two faults the one that is checked first. The limits of the times are in LimitCases.
use Rattle.std.specs.Prelude.{ℕ, List, [], ◌∷◌, ◌++◌, take, set}
use Rattle.rules.specs.Types.{Accepted, Refused}
use Rattle.rules.specs.Junctions.{junction, put_two, put_kind, crossing, three_phases, overlap, one_group, seven_phases, eight_crossings, wide, cut_offs, turning, turning_both, ordered}
use Rattle.rules.specs.CallCases.{CallCase, reading, CallHolds, AllHold}

-- the junction: heads at 0, 8, 36, 44, 56, 64; groups at 40 and 42, conflicts at 48 and 52, detectors at 60 and 62
unfoldable pub head_cases : List CallCase
head_cases =
    -- 1: fewer than 4 bytes are left for a head, whatever they are
    reading (take 3 junction) (Refused 1 0)
    ∷ reading (take 8 junction) (Refused 1 8)
    ∷ reading (take 64 junction) (Refused 1 64)
    ∷ reading (set (take 67 junction) 66 5) (Refused 1 64)
    ∷ reading junction Accepted
    -- 1: a body runs past the end
    ∷ reading (take 7 junction) (Refused 1 0)
    ∷ reading (take 35 junction) (Refused 1 8)
    ∷ reading (take 43 junction) (Refused 1 36)
    ∷ reading (take 55 junction) (Refused 1 44)
    ∷ reading (take 63 junction) (Refused 1 56)
    ∷ reading (take 79 crossing) (Refused 1 70)
    -- 2: another kind; a kind has two bytes
    ∷ reading (put_kind junction 8 258) (Refused 2 8)
    ∷ reading (put_kind junction 36 2) (Refused 2 36)
    ∷ reading (put_kind junction 36 4) (Refused 2 36)
    ∷ reading (put_kind junction 44 3) (Refused 2 44)
    ∷ reading (put_kind junction 44 5) (Refused 2 44)
    ∷ reading (put_kind junction 56 4) (Refused 2 56)
    ∷ reading (put_kind junction 56 6) (Refused 2 56)
    ∷ reading (put_kind junction 64 5) (Refused 2 64)
    -- 3: a length that is less or more than the counts need; that of kind 5 may be even up to 96
    ∷ reading (put_two junction 0 3) (Refused 3 0)
    ∷ reading (put_two junction 0 5) (Refused 3 0)
    ∷ reading (put_two junction 8 23) (Refused 3 8)
    ∷ reading (put_two junction 8 25) (Refused 3 8)
    ∷ reading (put_two junction 36 3) (Refused 3 36)
    ∷ reading (put_two junction 36 5) (Refused 3 36)
    ∷ reading (put_two junction 44 7) (Refused 3 44)
    ∷ reading (put_two junction 44 9) (Refused 3 44)
    ∷ reading (put_two junction 56 3) (Refused 3 56)
    ∷ reading (put_two crossing 70 5) (Refused 3 70)
    ∷ reading (put_two crossing 70 7) (Refused 3 70)
    ∷ reading wide Accepted
    ∷ reading (put_two wide 236 98) (Refused 3 236)
    -- kinds 7 and 9: the same; bytes that begin with neither head are 12
    ∷ reading (junction ++ (4 ∷ 0 ∷ 7 ∷ [])) (Refused 12 68)
    ∷ reading (junction ++ (4 ∷ 0 ∷ 7 ∷ 0 ∷ [])) (Refused 1 68)
    ∷ reading (junction ++ (4 ∷ 0 ∷ 8 ∷ 0 ∷ [])) (Refused 12 68)
    ∷ reading (junction ++ cut_offs (0 ∷ [])) (Refused 3 68)
    ∷ reading (junction ++ cut_offs (0 ∷ 0 ∷ 0 ∷ [])) (Refused 3 68)
    ∷ reading (three_phases ++ ordered (0 ∷ 2 ∷ [])) (Refused 3 88)
    ∷ reading (three_phases ++ ordered (0 ∷ 2 ∷ 1 ∷ 0 ∷ [])) (Refused 3 88)
    ∷ reading (three_phases ++ cut_offs (0 ∷ 0 ∷ 0 ∷ []) ++ ordered (0 ∷ 2 ∷ 1 ∷ [])) Accepted
    ∷ reading (three_phases ++ ordered (0 ∷ 2 ∷ 1 ∷ []) ++ (0 ∷ [])) (Refused 12 95)
    -- 2 is checked before 3, and 3 before the end of the body
    ∷ reading (put_two (put_kind junction 36 4) 36 5) (Refused 2 36)
    ∷ reading (put_two junction 36 260) (Refused 3 36)
    ∷ []

unfoldable pub body_cases : List CallCase
body_cases =
    -- 4: P is 2 to 7 and N is 1 to 32
    reading (set junction 4 1) (Refused 4 4)
    ∷ reading seven_phases Accepted
    ∷ reading (set seven_phases 4 8) (Refused 4 4)
    ∷ reading (set one_group 5 0) (Refused 4 5)
    ∷ reading one_group Accepted
    ∷ reading (set wide 5 33) (Refused 4 5)
    -- P is checked before N, N before start red, and start red before kind 2
    ∷ reading (set (set junction 4 1) 5 0) (Refused 4 4)
    ∷ reading (put_two (set junction 5 33) 6 9) (Refused 4 5)
    ∷ reading (put_two (put_two junction 6 9) 8 23) (Refused 5 6)
    -- 5: field by field and record by record, after the head and before kind 3
    ∷ reading (put_two (put_two junction 12 201) 14 9) (Refused 5 12)
    ∷ reading (put_two (put_two junction 22 9) 24 201) (Refused 5 22)
    ∷ reading (put_two (put_kind junction 8 3) 12 201) (Refused 2 8)
    ∷ reading (put_kind (put_two junction 34 9) 36 4) (Refused 5 34)
    -- 6: a phase bit at P or above; the phases below P are all allowed, and so is none
    ∷ reading (set junction 42 4) (Refused 6 42)
    ∷ reading (set junction 42 130) (Refused 6 42)
    ∷ reading overlap Accepted
    ∷ reading (set overlap 44 0) Accepted
    -- 6: a mark above 3
    ∷ reading (set junction 43 4) (Refused 6 42)
    ∷ reading (set junction 43 1) Accepted
    ∷ reading (turning ++ cut_offs (0 ∷ 0 ∷ [])) Accepted
    ∷ reading (turning_both ++ cut_offs (0 ∷ 0 ∷ [])) Accepted
    -- 6: a pedestrian group of no phase or of two
    ∷ reading crossing Accepted
    ∷ reading (set crossing 44 0) (Refused 6 44)
    ∷ reading (set crossing 44 3) (Refused 6 44)
    -- 7: the ninth pedestrian group, though a tenth follows; 6 is checked before it
    ∷ reading eight_crossings Accepted
    ∷ reading (set eight_crossings 57 2) (Refused 7 56)
    ∷ reading (set (set eight_crossings 57 2) 59 2) (Refused 7 56)
    ∷ reading (set (set eight_crossings 56 3) 57 2) (Refused 6 56)
    -- 8: B, or A, is in no group's set; after the records, and before kind 4
    ∷ reading (set junction 42 1) (Refused 8 36)
    ∷ reading (set junction 40 2) (Refused 8 36)
    ∷ reading (set (set junction 40 2) 43 4) (Refused 6 42)
    ∷ reading (put_kind (set junction 42 1) 44 5) (Refused 8 36)
    ∷ reading (set (put_two junction 36 5) 41 4) (Refused 3 36)
    -- 9: the own bit, the bit N, bit 31, and a bit that the other record does not have, either way
    ∷ reading (set junction 48 3) (Refused 9 48)
    ∷ reading (set junction 48 4) (Refused 9 48)
    ∷ reading (set junction 51 128) (Refused 9 48)
    ∷ reading (set junction 52 0) (Refused 9 48)
    ∷ reading (set junction 48 0) (Refused 9 52)
    ∷ reading (set (put_two junction 44 9) 48 3) (Refused 3 44)
    -- 10: groups 0 and 1 have A in common; groups 1 and 2 have B in common
    ∷ reading (set junction 42 3) (Refused 10 48)
    ∷ reading (set three_phases 56 6) (Refused 10 66)
    -- 11: a phase at P or above, after kind 4 and before kind 6
    ∷ reading (set junction 60 2) (Refused 11 60)
    ∷ reading (set junction 62 2) (Refused 11 62)
    ∷ reading (set (set junction 52 0) 60 2) (Refused 9 48)
    ∷ reading (set (put_two junction 56 3) 60 2) (Refused 3 56)
    ∷ reading (put_two (set crossing 66 2) 74 9) (Refused 11 66)
    -- 11: the modes 0, 1, 2, 4, 5, 6 are known, and no other
    ∷ reading (set crossing 67 0) Accepted
    ∷ reading (set crossing 67 1) Accepted
    ∷ reading (set crossing 67 2) Accepted
    ∷ reading (set crossing 67 3) (Refused 11 66)
    ∷ reading (set crossing 67 5) Accepted
    ∷ reading (set crossing 67 7) (Refused 11 66)
    ∷ reading (set crossing 67 8) (Refused 11 66)
    ∷ reading (set crossing 67 9) (Refused 11 66)
    ∷ reading (set crossing 67 10) (Refused 11 66)
    -- 18: an entry that is no phase, so that a phase is missing; after kind 7, and before 21
    ∷ reading (three_phases ++ ordered (0 ∷ 2 ∷ 3 ∷ [])) (Refused 18 88)
    ∷ reading (three_phases ++ cut_offs (201 ∷ 0 ∷ 0 ∷ []) ++ ordered (0 ∷ 2 ∷ 2 ∷ [])) (Refused 5 92)
    ∷ reading (set three_phases 79 4 ++ ordered (0 ∷ 2 ∷ 2 ∷ [])) (Refused 18 88)
    -- 21: A without a caller; and B, though there is a pedestrian group of A
    ∷ reading (set junction 61 4) (Refused 21 56)
    ∷ reading (set crossing 69 4) (Refused 21 62)
    -- 17: the first group of mark 3
    ∷ reading (set turning 41 3) (Refused 17 40)
    ∷ []

unfoldable pub ReadingsHold : Type 0
ReadingsHold = AllHold CallHolds head_cases × AllHold CallHolds body_cases
