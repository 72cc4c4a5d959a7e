-- A reader that parses a line back into its phase and its reasons.
use Rattle.std.specs.Prelude.{ℕ, ◌+◌, ◌-◌, ◌*◌, Bool, ◌&&◌, List, [], ◌∷◌, ◌++◌, eqb, leb, get_or, if◌then◌else◌}
use Rattle.panel_text.specs.declared.Reason.{Reason}
use Rattle.panel_text.specs.declared.Reason.TheVariants.{NoOtherDemand, Gap, Max, Walk}

abbrev pub is_comma : ℕ → Bool
is_comma byte = eqb byte 44

abbrev pub is_digit : ℕ → Bool
is_digit byte = leb 48 byte && leb byte 57

-- the number that the digits before the next comma make, behind the digits of a value
unfoldable pub number_in : ℕ → List ℕ → ℕ
number_in value [] = value
number_in value (byte ∷ rest) =
    if is_comma byte then value else number_in (if is_digit byte then value * 10 + (byte - 48) else value) rest

-- the reason behind a comma: its first letter, behind the space, is n, g, m or w
unfoldable pub reason_in : List ℕ → Reason
reason_in text =
    let letter = get_or text 1 0 in
    if eqb letter 110 then NoOtherDemand
    else if eqb letter 103 then Gap (number_in 0 text)
    else if eqb letter 109 then Max (number_in 0 text)
    else Walk (number_in 0 text)

-- one behind each comma
unfoldable pub reasons_in : List ℕ → List Reason
reasons_in [] = []
reasons_in (byte ∷ rest) = (if is_comma byte then reason_in rest ∷ [] else []) ++ reasons_in rest

-- the first byte, A to G
unfoldable pub phase_in : List ℕ → ℕ
phase_in text = get_or text 0 0 - 65
