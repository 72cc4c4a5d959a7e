-- The lengths of texts, and the text of lists of reasons one behind the other.
use Prim.Native.Nat.{ℕ, ◌+◌, ◌<◌}
use mathlib.Core.List.{List, [], ◌∷◌, ◌++◌, append_assoc}
use mathlib.Core.Path.{◌≡◌, refl, sym, ap, ◌∙◌}
use Rattle.laws.specs.Folds.{all_of}
use Rattle.laws.proofs.Tables.{table-equal}
use Rattle.rules.specs.TraceText.{phase_letter}
use Rattle.panel_text.specs.declared.Reason.{Reason}
use Rattle.laws.specs.Ascii.{ascii}
use Rattle.panel_text.specs.Text.{reason_text, reasons_text, line}

pub reasons-join : (a b : List Reason) → reasons_text (a ++ b) ≡ reasons_text a ++ reasons_text b
unfolding reasons_text
reasons-join [] b = refl
reasons-join (reason ∷ a) b =
    ap (λ (rest : List ℕ). reason_text reason ++ rest) (reasons-join a b)
    ∙ sym (append_assoc (reason_text reason) (reasons_text a) (reasons_text b))

-- a line with more reasons
pub line-more : (phase : ℕ) (reasons more : List Reason) → line phase (reasons ++ more) ≡ line phase reasons ++ reasons_text more
unfolding line
line-more phase reasons more =
    ap (λ (rest : List ℕ). (phase_letter phase ∷ ascii " holds") ++ rest) (reasons-join reasons more)
    ∙ sym (append_assoc (phase_letter phase ∷ ascii " holds") (reasons_text reasons) (reasons_text more))

-- the bytes of the phase letter and ` holds`
pub line-start : (phase : ℕ) → phase < 7 → line phase [] ≡ ((65 + phase) ∷ []) ++ ascii " holds"
unfolding line reasons_text phase_letter all_of
line-start phase h = ap (λ (letter : ℕ). letter ∷ ascii " holds") (table-equal phase_letter (λ p. 65 + p) 7 refl phase h)
