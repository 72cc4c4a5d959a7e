-- Worked cases of the limits of the time settings, in both editions: with each setting at its lowest value a personality is accepted, and with each at
-- its highest; one step outside is number 5 at the setting.
use Rattle.std.specs.Prelude.{ℕ, List, [], ◌∷◌, ◌++◌}
use Rattle.rules.specs.Types.{Accepted, Refused}
use Rattle.rules.specs.Junctions.{put_two, put_twos, put_kind, crossing, cut_offs}
use Rattle.rules.specs.CallCases.{CallCase, reading, CallHolds, AllHold}

-- The crossing with a section of kind 7 and these times: start red; L, M, X, G, Y, R of both phases; W, C1, C2; early cut-off green of both phases.
-- They are at 6; 12 and 24; 74; 84.
abbrev timed : ℕ → List ℕ → List ℕ → ℕ → List ℕ
timed start phase walk early = put_twos (put_twos (put_twos (put_two crossing 6 start) 12 phase) 24 phase) 74 walk ++ cut_offs (early ∷ early ∷ [])

abbrev pub lowest : List ℕ
lowest = timed 10 (0 ∷ 10 ∷ 10 ∷ 0 ∷ 30 ∷ 10 ∷ []) (10 ∷ 1 ∷ 1 ∷ []) 0

abbrev pub highest : List ℕ
highest = timed 150 (200 ∷ 400 ∷ 1500 ∷ 100 ∷ 100 ∷ 150 ∷ []) (400 ∷ 400 ∷ 400 ∷ []) 200

-- the same in edition two, whose lowest start red is 30 and whose lowest all-red is 15
abbrev lowest_two : List ℕ
lowest_two = put_kind (timed 30 (0 ∷ 10 ∷ 10 ∷ 0 ∷ 30 ∷ 15 ∷ []) (10 ∷ 1 ∷ 1 ∷ []) 0) 0 8

abbrev highest_two : List ℕ
highest_two = put_kind highest 0 8

-- with this value at this place the bytes are refused there
abbrev outside : List ℕ → ℕ → ℕ → CallCase
outside b place value = reading (put_two b place value) (Refused 5 place)

unfoldable pub limit_cases : List CallCase
limit_cases =
    reading lowest Accepted
    ∷ outside lowest 6 9
    ∷ outside lowest 14 9
    ∷ outside lowest 16 9
    ∷ outside lowest 20 29
    ∷ outside lowest 22 9
    ∷ outside lowest 74 9
    ∷ outside lowest 76 0
    ∷ outside lowest 78 0
    ∷ reading highest Accepted
    ∷ outside highest 6 151
    ∷ outside highest 12 201
    ∷ outside highest 14 401
    ∷ outside highest 16 1501
    ∷ outside highest 18 101
    ∷ outside highest 20 101
    ∷ outside highest 22 151
    ∷ outside highest 74 401
    ∷ outside highest 76 401
    ∷ outside highest 78 401
    ∷ outside highest 84 201
    -- the second phase
    ∷ outside highest 34 151
    ∷ outside highest 86 201
    -- edition two
    ∷ reading lowest_two Accepted
    ∷ outside lowest_two 6 29
    ∷ outside lowest_two 14 9
    ∷ outside lowest_two 16 9
    ∷ outside lowest_two 20 29
    ∷ outside lowest_two 22 14
    ∷ outside lowest_two 74 9
    ∷ outside lowest_two 76 0
    ∷ outside lowest_two 78 0
    ∷ reading highest_two Accepted
    ∷ outside highest_two 6 151
    ∷ outside highest_two 12 201
    ∷ outside highest_two 14 401
    ∷ outside highest_two 16 1501
    ∷ outside highest_two 18 101
    ∷ outside highest_two 20 101
    ∷ outside highest_two 22 151
    ∷ outside highest_two 74 401
    ∷ outside highest_two 76 401
    ∷ outside highest_two 78 401
    ∷ outside highest_two 84 201
    ∷ []

unfoldable pub LimitsHold : Type 0
LimitsHold = AllHold CallHolds limit_cases
