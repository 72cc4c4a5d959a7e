-- A phase and a list of reasons as one line of ASCII, without a terminator.
use Rattle.std.specs.Prelude.{ℕ, Option, None, Some, List, [], ◌∷◌, ◌++◌}
use Rattle.rules.specs.TraceText.{phase_letter}
use Rattle.panel_text.specs.declared.Reason.{Reason}
use Rattle.panel_text.specs.declared.Reason.TheVariants.{NoOtherDemand, Gap, Max, Walk}
use Rattle.laws.specs.Ascii.{ascii}
use Rattle.laws.specs.Decimal.{decimal}

-- each after a comma and a space, and a space before its number
unfoldable pub reason_text : Reason → List ℕ
reason_text NoOtherDemand = ascii ", no other demand"
reason_text (Gap count) = ascii ", gap " ++ decimal count
reason_text (Max left) = ascii ", max " ++ decimal left
reason_text (Walk number) = ascii ", walk " ++ decimal number

-- the decimal of a number, if there is one
abbrev pub number_text : Option ℕ → List ℕ
number_text None = []
number_text (Some n) = decimal n

unfoldable pub reasons_text : List Reason → List ℕ
reasons_text [] = []
reasons_text (reason ∷ reasons) = reason_text reason ++ reasons_text reasons

-- the phase letter and ` holds`, then the reasons
unfoldable pub line : ℕ → List Reason → List ℕ
line phase reasons = (phase_letter phase ∷ ascii " holds") ++ reasons_text reasons
