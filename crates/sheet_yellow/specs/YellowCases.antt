-- Worked cases, in a single list with one statement: each of them holds.
use Rattle.std.specs.Prelude.{ℕ, List, [], ◌∷◌, ◌≡◌, ℤ, pos, negsuc}
use Rattle.rules.specs.CallCases.{AllHold}
use Rattle.sheet_yellow.specs.Yellow.{Answer, Yellow, Refused, answer_of}

-- the speed, the grade and the answer; `negsuc n` is −(n + 1)
pub data Case : Type 0 where
  at : ℕ → ℤ → Answer → Case

abbrev Holds : Case → Type 0
Holds (at speed grade answer) = answer_of speed grade ≡ answer

unfoldable pub cases : List Case
cases =
    -- the paper's
    at 72 (pos 0) (Yellow 44)
    ∷ at 40 (pos 10) (Yellow 30)
    ∷ at 110 (negsuc 9) (Yellow 86)
    -- the other corners
    ∷ at 40 (negsuc 9) (Yellow 38)
    ∷ at 110 (pos 10) (Yellow 49)
    -- level, with the fraction above 33, and 50 itself
    ∷ at 73 (pos 0) (Yellow 44)
    ∷ at 108 (pos 0) (Yellow 60)
    -- speeds out of range, up to 2³² − 1
    ∷ at 0 (pos 0) (Refused 23 0)
    ∷ at 39 (pos 0) (Refused 23 0)
    ∷ at 111 (pos 0) (Refused 23 0)
    ∷ at 4294967295 (pos 0) (Refused 23 0)
    -- grades out of range, from −2³¹ to 2³¹ − 1
    ∷ at 72 (negsuc 10) (Refused 23 0)
    ∷ at 72 (pos 11) (Refused 23 0)
    ∷ at 72 (negsuc 2147483647) (Refused 23 0)
    ∷ at 72 (pos 2147483647) (Refused 23 0)
    -- both out of range
    ∷ at 39 (negsuc 10) (Refused 23 0)
    ∷ at 111 (pos 11) (Refused 23 0)
    ∷ at 4294967295 (negsuc 2147483647) (Refused 23 0)
    ∷ []

unfoldable pub CasesHold : Type 0
CasesHold = AllHold Holds cases
