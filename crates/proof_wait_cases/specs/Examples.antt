-- The personalities of example sites, section by section. That of the junction of two phases is `junction`.
use Rattle.std.specs.Prelude.{ℕ, List, [], ◌∷◌, ◌++◌}
use Rattle.rules.specs.Junctions.{two, twos, fours, sections, cut_offs}

-- the T-junction with three phases, examples/t_junction
unfoldable pub t_junction : List ℕ
t_junction =
    sections
    (3 ∷ 6 ∷ two 40)
    (twos (0 ∷ 70 ∷ 165 ∷ 30 ∷ 30 ∷ 25 ∷ []) ++ twos (0 ∷ 50 ∷ 50 ∷ 30 ∷ 30 ∷ 25 ∷ []) ++ twos (0 ∷ 70 ∷ 135 ∷ 30 ∷ 30 ∷ 20 ∷ []))
    (3 ∷ 0 ∷ 2 ∷ 0 ∷ 1 ∷ 0 ∷ 5 ∷ 0 ∷ 6 ∷ 0 ∷ 4 ∷ 0 ∷ [])
    (fours (32 ∷ 44 ∷ 50 ∷ 2 ∷ 4 ∷ 7 ∷ []))
    (0 ∷ 6 ∷ 1 ∷ 5 ∷ 0 ∷ 6 ∷ 2 ∷ 5 ∷ 2 ∷ 6 ∷ [])
    []

-- the junction of four phases, examples/four_phases
unfoldable pub four_phases : List ℕ
four_phases =
    sections
    (4 ∷ 12 ∷ two 40)
    (twos (25 ∷ 40 ∷ 103 ∷ 35 ∷ 43 ∷ 15 ∷ []) ++ twos (0 ∷ 240 ∷ 95 ∷ 35 ∷ 43 ∷ 15 ∷ []) ++ twos (0 ∷ 40 ∷ 52 ∷ 35 ∷ 43 ∷ 27 ∷ []) ++ twos (25 ∷ 240 ∷ 28 ∷ 35 ∷ 43 ∷ 27 ∷ []))
    (1 ∷ 0 ∷ 1 ∷ 0 ∷ 2 ∷ 0 ∷ 2 ∷ 0 ∷ 6 ∷ 0 ∷ 6 ∷ 0 ∷ 4 ∷ 0 ∷ 4 ∷ 0 ∷ 8 ∷ 0 ∷ 8 ∷ 0 ∷ 9 ∷ 1 ∷ 9 ∷ 1 ∷ [])
    (fours (1000 ∷ 980 ∷ 3010 ∷ 1985 ∷ 258 ∷ 513 ∷ 2575 ∷ 1295 ∷ 159 ∷ 111 ∷ 136 ∷ 68 ∷ []))
    (0 ∷ 6 ∷ 0 ∷ 6 ∷ 0 ∷ 6 ∷ 0 ∷ 6 ∷ 1 ∷ 2 ∷ 1 ∷ 4 ∷ 1 ∷ 2 ∷ 1 ∷ 4 ∷ 1 ∷ 5 ∷ 1 ∷ 5 ∷ 2 ∷ 6 ∷ 2 ∷ 6 ∷ 3 ∷ 2 ∷ 3 ∷ 4 ∷ 3 ∷ 2 ∷ 3 ∷ 4 ∷ 3 ∷ 1 ∷ 3 ∷ 1 ∷ [])
    []

-- the staggered T-junction with one crossing, examples/staggered
unfoldable pub staggered : List ℕ
staggered =
    sections
    (3 ∷ 11 ∷ two 40)
    (twos (0 ∷ 80 ∷ 155 ∷ 30 ∷ 40 ∷ 20 ∷ []) ++ twos (0 ∷ 50 ∷ 155 ∷ 25 ∷ 40 ∷ 15 ∷ []) ++ twos (0 ∷ 50 ∷ 50 ∷ 25 ∷ 40 ∷ 15 ∷ []))
    (1 ∷ 3 ∷ 1 ∷ 3 ∷ 3 ∷ 0 ∷ 5 ∷ 0 ∷ 2 ∷ 0 ∷ 4 ∷ 0 ∷ 2 ∷ 3 ∷ 2 ∷ 0 ∷ 4 ∷ 3 ∷ 4 ∷ 0 ∷ 1 ∷ 2 ∷ [])
    (fours (224 ∷ 784 ∷ 512 ∷ 128 ∷ 514 ∷ 1153 ∷ 1025 ∷ 1065 ∷ 2 ∷ 22 ∷ 224 ∷ []))
    (0 ∷ 6 ∷ 0 ∷ 6 ∷ 1 ∷ 6 ∷ 1 ∷ 6 ∷ 1 ∷ 5 ∷ 2 ∷ 6 ∷ 2 ∷ 6 ∷ 2 ∷ 5 ∷ [])
    (twos (60 ∷ 10 ∷ 90 ∷ []))
    ++ cut_offs (30 ∷ 52 ∷ 0 ∷ [])

-- the junction of five phases with five crossings, examples/crossings
unfoldable pub crossings : List ℕ
crossings =
    sections
    (5 ∷ 12 ∷ two 40)
    (twos (0 ∷ 130 ∷ 270 ∷ 30 ∷ 30 ∷ 25 ∷ []) ++ twos (30 ∷ 70 ∷ 150 ∷ 30 ∷ 30 ∷ 25 ∷ []) ++ twos (30 ∷ 70 ∷ 150 ∷ 30 ∷ 30 ∷ 25 ∷ []) ++ twos (0 ∷ 100 ∷ 300 ∷ 30 ∷ 30 ∷ 25 ∷ []) ++ twos (0 ∷ 50 ∷ 10 ∷ 0 ∷ 30 ∷ 10 ∷ []))
    (10 ∷ 0 ∷ 2 ∷ 0 ∷ 12 ∷ 0 ∷ 4 ∷ 0 ∷ 1 ∷ 0 ∷ 4 ∷ 1 ∷ 2 ∷ 1 ∷ 8 ∷ 2 ∷ 8 ∷ 2 ∷ 1 ∷ 2 ∷ 16 ∷ 2 ∷ 16 ∷ 2 ∷ [])
    (fours (3640 ∷ 3220 ∷ 3666 ∷ 2833 ∷ 3567 ∷ 2833 ∷ 3220 ∷ 82 ∷ 56 ∷ 45 ∷ 87 ∷ 127 ∷ []))
    (3 ∷ 2 ∷ 1 ∷ 5 ∷ 3 ∷ 5 ∷ 3 ∷ 2 ∷ 2 ∷ 5 ∷ 3 ∷ 5 ∷ 0 ∷ 2 ∷ 0 ∷ 5 ∷ [])
    (twos (50 ∷ 50 ∷ 55 ∷ []) ++ twos (70 ∷ 71 ∷ 55 ∷ []) ++ twos (50 ∷ 80 ∷ 55 ∷ []) ++ twos (68 ∷ 140 ∷ 40 ∷ []) ++ twos (100 ∷ 157 ∷ 100 ∷ []))
