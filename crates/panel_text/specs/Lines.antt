-- Statements about lines: each reads back as its phase and its reasons, so different lists of reasons never read alike, and no line is empty. The
-- reasons may be any list, of any length and order and with any numbers. Decimals have no leading zeros.
use Rattle.std.specs.Prelude.{ℕ, ◌<◌, List, [], ◌≡◌, get_or}
use Rattle.panel_text.specs.declared.Reason.{Reason}
use Rattle.laws.specs.Decimal.{decimal}
use Rattle.panel_text.specs.Text.{line}
use Rattle.panel_text.specs.Reader.{phase_in, reasons_in}

unfoldable pub LineReadsBack : Type 0
LineReadsBack =
    (phase : ℕ) (reasons : List Reason) →
    phase < 7 →
    (phase_in (line phase reasons) ≡ phase) × (reasons_in (line phase reasons) ≡ reasons)

unfoldable pub NeverAlike : Type 0
NeverAlike =
    (p q : ℕ) (reasons others : List Reason) →
    p < 7 →
    q < 7 →
    line p reasons ≡ line q others →
    (p ≡ q) × (reasons ≡ others)

unfoldable pub NeverEmpty : Type 0
NeverEmpty = (phase : ℕ) (reasons : List Reason) → line phase reasons ≡ [] → ⊥

-- a number begins with the digit 0 only if it is 0
unfoldable pub NoLeadingZero : Type 0
NoLeadingZero = (n : ℕ) → 0 < n → get_or (decimal n) 0 0 ≡ 48 → ⊥
