-- The lines that the trace program prints, in ASCII: the header, the line of a step, and the line of a refusal.
use Rattle.std.specs.Prelude.{ℕ, List, [], ◌∷◌, ◌++◌, map, get_or}
use Rattle.laws.specs.Ascii.{ascii}
use Rattle.laws.specs.Decimal.{decimal}
use Rattle.rules.specs.Types.{Position}
use Rattle.rules.specs.IntervalTable.{letter_of}

abbrev end_of_line : List ℕ
end_of_line = 10 ∷ []

unfoldable pub header : List ℕ
header = ascii "step phase interval groups" ++ end_of_line

-- A to G; a phase that no site has, and so no step gives, as a question mark
unfoldable pub phase_letter : ℕ → ℕ
phase_letter p = get_or (65 ∷ 66 ∷ 67 ∷ 68 ∷ 69 ∷ 70 ∷ 71 ∷ []) p 63

-- R, Y, G, F by colour code; any other code, which no step writes, as R
unfoldable pub colour_letter : ℕ → ℕ
colour_letter code = get_or (82 ∷ 89 ∷ 71 ∷ 70 ∷ []) code 82

-- a space, the phase, a space, the interval, a space, one letter for each group, and the end of the line
unfoldable pub line_tail : Position → List ℕ → List ℕ
line_tail position colours =
    (32 ∷ phase_letter position.phase ∷ 32 ∷ letter_of position.interval ∷ 32 ∷ []) ++ map colour_letter colours ++ end_of_line

-- the number of the step, and the position and the colours after it
unfoldable pub step_line : ℕ → Position → List ℕ → List ℕ
step_line step position colours = decimal step ++ line_tail position colours

unfoldable pub refusal_line : ℕ → ℕ → List ℕ
refusal_line number place = ascii "refused " ++ decimal number ++ ascii " " ++ decimal place ++ end_of_line
