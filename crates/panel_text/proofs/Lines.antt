-- A line reads back. A decimal has no comma and reads as its number; behind a reason there is a comma or nothing. So each comma of a line gives its
-- reason, and equal lines have equal phases and equal reasons.
use Prim.Native.Nat.{ℕ, zero, suc, ◌+◌, ◌-◌, ◌*◌, ◌/◌, ◌%◌, ◌≤◌, ◌<◌}
use mathlib.Core.Bool.{true, false}
use mathlib.Core.List.{List, [], ◌∷◌, ◌++◌, append_assoc}
use mathlib.Core.Logic.{⊎_elim}
use mathlib.Core.Path.{◌≡◌, refl, sym, ap, ap₂, ◌∙◌}
use native.Mathlib.Omega.{arith}
use borrow.Author.Tests.{le-leb, ne_eqb, lt-ltb, le-ltb}
use Rattle.laws.specs.Folds.{all_of}
use Rattle.laws.proofs.Indices.{below-or-past}
use Rattle.laws.proofs.Tables.{table_same, table-equal}
use Rattle.rules.specs.TraceText.{phase_letter}
use Rattle.panel_text.specs.declared.Reason.{Reason}
use Rattle.panel_text.specs.declared.Reason.TheVariants.{NoOtherDemand, Gap, Max, Walk}
use Rattle.laws.specs.Decimal.{digits, decimal}
use Rattle.panel_text.specs.Text.{reason_text, reasons_text, line}
use Rattle.panel_text.specs.Reader.{is_comma, is_digit, number_in, reason_in, reasons_in, phase_in}
use Rattle.panel_text.specs.Lines.{LineReadsBack, NeverAlike, NeverEmpty}

-- ── A decimal ──

no-comma : (d : ℕ) → is_comma (48 + d) ≡ false
no-comma d = ne_eqb (48 + d) 44 (λ e. omega arith)

digit-is_digit : (d : ℕ) → d < 10 → is_digit (48 + d) ≡ true
digit-is_digit d h = rw (le-leb 48 (48 + d) (omega arith), le-leb (48 + d) 57 (omega arith))

-- a digit goes on with the number
digit-on : (value d : ℕ) (rest : List ℕ) → d < 10 → number_in value ((48 + d) ∷ rest) ≡ number_in (value * 10 + d) rest
unfolding number_in
digit-on value d rest h = rw (no-comma d, digit-is_digit d h) (ap (λ (n : ℕ). number_in n rest) (omega arith))

digits-read : (most n : ℕ) (rest : List ℕ) → n < most → number_in 0 (digits most n ++ rest) ≡ number_in n rest
unfolding digits
digits-read zero n rest h = absurd (omega arith)
digits-read (suc most) n rest h =
    rw append_assoc
    (⊎_elim
    (λ (l : n < 10).
    rw (lt-ltb n 10 l) (digit-on 0 (n % 10) rest (omega arith) ∙ ap (λ (m : ℕ). number_in m rest) (omega arith)))
    (λ (l : 10 ≤ n).
    rw (le-ltb n 10 l)
    (digits-read most (n / 10) ((48 + n % 10) ∷ rest) (omega arith)
    ∙ digit-on (n / 10) (n % 10) rest (omega arith)
    ∙ ap (λ (m : ℕ). number_in m rest) (omega arith)))
    (below-or-past n 10))

digit-passed : (d : ℕ) (rest : List ℕ) → reasons_in ((48 + d) ∷ rest) ≡ reasons_in rest
unfolding reasons_in
digit-passed d rest = rw (no-comma d)

digits-passed : (most n : ℕ) (rest : List ℕ) → reasons_in (digits most n ++ rest) ≡ reasons_in rest
unfolding digits
digits-passed zero n rest = refl
digits-passed (suc most) n rest =
    let last = digit-passed (n % 10) rest in
    rw append_assoc
    (⊎_elim
    (λ (l : n < 10). rw (lt-ltb n 10 l) last)
    (λ (l : 10 ≤ n). rw (le-ltb n 10 l) (digits-passed most (n / 10) ((48 + n % 10) ∷ rest) ∙ last))
    (below-or-past n 10))

-- ── Reasons ──

-- behind a reason there is a comma or nothing
stops : (reasons : List Reason) (value : ℕ) → number_in value (reasons_text reasons) ≡ value
unfolding reasons_text reason_text number_in
stops [] value = refl
stops (NoOtherDemand ∷ reasons) value = refl
stops (Gap n ∷ reasons) value = refl
stops (Max n ∷ reasons) value = refl
stops (Walk n ∷ reasons) value = refl

-- a decimal before other reasons, in either pass of the reader
counted :
    (reason : ℕ → Reason) (n : ℕ) (reasons : List Reason) →
    reason (number_in 0 (decimal n ++ reasons_text reasons)) ∷ reasons_in (decimal n ++ reasons_text reasons)
    ≡ reason n ∷ reasons_in (reasons_text reasons)
unfolding decimal
counted reason n reasons =
    ap₂ (λ (m : ℕ) (others : List Reason). reason m ∷ others)
    (digits-read (suc n) n (reasons_text reasons) (omega arith) ∙ stops reasons n)
    (digits-passed (suc n) n (reasons_text reasons))

first_read :
    (reason : Reason) (reasons : List Reason) →
    reasons_in (reason_text reason ++ reasons_text reasons) ≡ reason ∷ reasons_in (reasons_text reasons)
unfolding reason_text reasons_in reason_in number_in
first_read NoOtherDemand reasons = refl
first_read (Gap n) reasons = counted Gap n reasons
first_read (Max n) reasons = counted Max n reasons
first_read (Walk n) reasons = counted Walk n reasons

none_read : reasons_in [] ≡ []
unfolding reasons_in
none_read = refl

reasons-read : (reasons : List Reason) → reasons_in (reasons_text reasons) ≡ reasons
unfolding reasons_text
reasons-read [] = none_read
reasons-read (reason ∷ reasons) = first_read reason reasons ∙ ap (λ (others : List Reason). reason ∷ others) (reasons-read reasons)

-- ── Lines ──

pub line-reads-back : LineReadsBack
unfolding LineReadsBack line phase_in reasons_in phase_letter all_of
line-reads-back phase reasons h = (
  table-equal (λ p. phase_letter p - 65) (λ p. p) 7 refl phase h,
  rw (table_same (λ p. is_comma (phase_letter p)) (λ p. false) 7 refl phase h) (reasons-read reasons),
)

pub never-alike : NeverAlike
unfolding NeverAlike LineReadsBack
never-alike p q reasons others h k same =
    let one = line-reads-back p reasons h in
    let two = line-reads-back q others k in
    (sym one.0 ∙ ap phase_in same ∙ two.0, sym one.1 ∙ ap reasons_in same ∙ two.1)

pub never-empty : NeverEmpty
unfolding NeverEmpty line
never-empty phase reasons empty = let z : ◌≡◌ {A = ℕ} 0 1 = cc in omega arith
