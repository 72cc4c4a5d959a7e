-- The personalities of the worked cases, section by section.
use Rattle.std.specs.Prelude.{ℕ, zero, suc, ◌+◌, ◌/◌, ◌%◌, List, [], ◌∷◌, ◌++◌, length, replicate, set}

-- ── Writing bytes ──

unfoldable pub two : ℕ → List ℕ
two n = n % 256 ∷ n / 256 ∷ []

unfoldable pub four : ℕ → List ℕ
four n = two (n % 65536) ++ two (n / 65536)

unfoldable pub twos : List ℕ → List ℕ
twos [] = []
twos (n ∷ rest) = two n ++ twos rest

unfoldable pub fours : List ℕ → List ℕ
fours [] = []
fours (n ∷ rest) = four n ++ fours rest

unfoldable pub section : ℕ → List ℕ → List ℕ
section kind body = two (length body) ++ two kind ++ body

unfoldable pub sections : List ℕ → List ℕ → List ℕ → List ℕ → List ℕ → List ℕ → List ℕ
sections site phases groups conflicts detectors pedestrians =
    section 1 site ++ section 2 phases ++ section 3 groups ++ section 4 conflicts ++ section 5 detectors ++ section 6 pedestrians

-- the bytes with a two-byte number put at a place
unfoldable pub put_two : List ℕ → ℕ → ℕ → List ℕ
put_two b at n = set (set b at (n % 256)) (at + 1) (n / 256)

-- the bytes with another kind in the head at a place
unfoldable pub put_kind : List ℕ → ℕ → ℕ → List ℕ
put_kind b head kind = put_two b (head + 2) kind

-- the bytes with two-byte numbers put one after the other, from a place on
unfoldable pub put_twos : List ℕ → ℕ → List ℕ → List ℕ
put_twos b at [] = b
put_twos b at (n ∷ rest) = put_twos (put_two b at n) (at + 2) rest

-- the bytes so many times, one after the other
unfoldable pub copies : ℕ → List ℕ → List ℕ
copies zero bytes = []
copies (suc n) bytes = bytes ++ copies n bytes

-- ── The junction of two phases of document 01 ──

-- L 0, M 20, X 30, G 5, Y 30, R 10
unfoldable pub short_phase : List ℕ
short_phase = twos (0 ∷ 20 ∷ 30 ∷ 5 ∷ 30 ∷ 10 ∷ [])

unfoldable pub junction : List ℕ
junction =
    sections
    (2 ∷ 2 ∷ two 10)
    (short_phase ++ short_phase)
    (1 ∷ 0 ∷ 2 ∷ 0 ∷ [])
    (fours (2 ∷ 1 ∷ []))
    (0 ∷ 6 ∷ 1 ∷ 6 ∷ [])
    []

-- the same with longer times: start red 20; L 0, M 40, X 60, G 10, Y 40, R 20. Its wait bound is 460.
unfoldable pub slower : List ℕ
slower = put_twos (put_two junction 6 20) 12 (0 ∷ 40 ∷ 60 ∷ 10 ∷ 40 ∷ 20 ∷ 0 ∷ 40 ∷ 60 ∷ 10 ∷ 40 ∷ 20 ∷ [])

-- the same with a late start of B of 20
unfoldable pub late_b : List ℕ
late_b = put_two junction 24 20

-- ── Sites of our own worked cases ──

-- A and B with a crossing beside A: W 10, C1 10, C2 50. Group 2 is the pedestrian group; both it and group 0 conflict with group 1.
unfoldable pub crossing : List ℕ
crossing =
    sections
    (2 ∷ 3 ∷ two 10)
    (short_phase ++ short_phase)
    (1 ∷ 0 ∷ 2 ∷ 0 ∷ 1 ∷ 2 ∷ [])
    (fours (2 ∷ 5 ∷ 2 ∷ []))
    (0 ∷ 6 ∷ 1 ∷ 6 ∷ [])
    (twos (10 ∷ 10 ∷ 50 ∷ []))

-- the same with W 20, C1 15 and C2 30
unfoldable pub other_walk : List ℕ
other_walk = put_two (put_two (put_two crossing 74 20) 76 15) 78 30

-- three phases with a group and a locking detector each, all in conflict
unfoldable pub three_phases : List ℕ
three_phases =
    sections
    (3 ∷ 3 ∷ two 10)
    (short_phase ++ short_phase ++ short_phase)
    (1 ∷ 0 ∷ 2 ∷ 0 ∷ 4 ∷ 0 ∷ [])
    (fours (6 ∷ 5 ∷ 3 ∷ []))
    (0 ∷ 6 ∷ 1 ∷ 6 ∷ 2 ∷ 6 ∷ [])
    []

-- the junction of two phases with a detector of B that calls without lock
unfoldable pub calling_b : List ℕ
calling_b = set junction 63 1

-- A and B; B has a late start of 20. Group 2 is of both phases, group 3 is of B with late start
unfoldable pub overlap : List ℕ
overlap =
    sections
    (2 ∷ 4 ∷ two 10)
    (short_phase ++ twos (20 ∷ 20 ∷ 30 ∷ 5 ∷ 30 ∷ 10 ∷ []))
    (1 ∷ 0 ∷ 2 ∷ 0 ∷ 3 ∷ 0 ∷ 2 ∷ 1 ∷ [])
    (fours (10 ∷ 1 ∷ 0 ∷ 1 ∷ []))
    (0 ∷ 6 ∷ 1 ∷ 6 ∷ [])
    []

-- ── Sites with the greatest and the least counts ──

-- one group of both phases, A and B
unfoldable pub one_group : List ℕ
one_group = sections (2 ∷ 1 ∷ two 10) (short_phase ++ short_phase) (3 ∷ 0 ∷ []) (four 0) (0 ∷ 6 ∷ 1 ∷ 6 ∷ []) []

-- seven phases with a group and a locking detector each; no groups conflict
unfoldable pub seven_phases : List ℕ
seven_phases =
    sections
    (7 ∷ 7 ∷ two 10)
    (copies 7 short_phase)
    (1 ∷ 0 ∷ 2 ∷ 0 ∷ 4 ∷ 0 ∷ 8 ∷ 0 ∷ 16 ∷ 0 ∷ 32 ∷ 0 ∷ 64 ∷ 0 ∷ [])
    (fours (replicate 7 0))
    (0 ∷ 6 ∷ 1 ∷ 6 ∷ 2 ∷ 6 ∷ 3 ∷ 6 ∷ 4 ∷ 6 ∷ 5 ∷ 6 ∷ 6 ∷ 6 ∷ [])
    []

-- A and B with eight crossings, groups 0 to 7: the first seven beside A with W 10, C1 10, C2 50, the last beside B with W 20, C1 30, C2 40. Groups 8
-- and 9 are those of A and B; no groups conflict.
unfoldable pub eight_crossings : List ℕ
eight_crossings =
    sections
    (2 ∷ 10 ∷ two 10)
    (short_phase ++ short_phase)
    (copies 7 (1 ∷ 2 ∷ []) ++ (2 ∷ 2 ∷ 1 ∷ 0 ∷ 2 ∷ 0 ∷ []))
    (fours (replicate 10 0))
    (0 ∷ 6 ∷ 1 ∷ 6 ∷ [])
    (copies 7 (twos (10 ∷ 10 ∷ 50 ∷ [])) ++ twos (20 ∷ 30 ∷ 40 ∷ []))

-- A and B with 32 groups, of which 30 are of both phases, and 48 detectors, of which the last two call; no groups conflict
unfoldable pub wide : List ℕ
wide =
    sections
    (2 ∷ 32 ∷ two 10)
    (short_phase ++ short_phase)
    (1 ∷ 0 ∷ 2 ∷ 0 ∷ copies 30 (3 ∷ 0 ∷ []))
    (fours (replicate 32 0))
    (copies 46 (0 ∷ 0 ∷ []) ++ (0 ∷ 6 ∷ 1 ∷ 6 ∷ []))
    []

-- ── Sites of request five: phases not in letter order ──

-- A section of kind 9 with this order.
unfoldable pub ordered : List ℕ → List ℕ
ordered phases = section 9 phases

-- ── Sites of request one: early cut-off green ──

-- A section of kind 7 with these times.
unfoldable pub cut_offs : List ℕ → List ℕ
cut_offs times = section 7 (twos times)

-- A with a turning arrow, group 1, that stops early, and B; both groups of A conflict with that of B
unfoldable pub turning : List ℕ
turning =
    sections
    (2 ∷ 3 ∷ two 10)
    (short_phase ++ short_phase)
    (1 ∷ 0 ∷ 1 ∷ 3 ∷ 2 ∷ 0 ∷ [])
    (fours (4 ∷ 4 ∷ 3 ∷ []))
    (0 ∷ 6 ∷ 1 ∷ 6 ∷ [])
    []

-- the same, but the arrow is of both phases and conflicts with no group
unfoldable pub turning_both : List ℕ
turning_both =
    sections
    (2 ∷ 3 ∷ two 10)
    (short_phase ++ short_phase)
    (1 ∷ 0 ∷ 3 ∷ 3 ∷ 2 ∷ 0 ∷ [])
    (fours (4 ∷ 0 ∷ 1 ∷ []))
    (0 ∷ 6 ∷ 1 ∷ 6 ∷ [])
    []

-- ── Sites of request eleven: edition two of the limits ──

-- The junction of two phases with start red 30 and all-red 15 in both phases, in edition one
unfoldable pub longer_reds : List ℕ
longer_reds = put_two (put_two (put_two junction 6 30) 22 15) 34 15

-- and in edition two
unfoldable pub edition_two : List ℕ
edition_two = put_kind longer_reds 0 8
