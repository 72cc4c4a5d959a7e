-- No number but 0 begins with a 0: the first digit of a number is that of a tenth of it.
use Prim.Native.Nat.{ℕ, zero, suc, ◌+◌, ◌/◌, ◌%◌, ◌≤◌, ◌<◌}
use mathlib.Core.List.{List, [], ◌∷◌}
use mathlib.Core.Logic.{⊎_elim}
use mathlib.Core.Path.{◌≡◌, sym, ap, ◌∙◌}
use native.Mathlib.Omega.{arith}
use lib.ListN.{get_or, get_or-append}
use Rattle.laws.specs.Decimal.{decimal}
use Rattle.laws.proofs.Indices.{below-or-past}
use Rattle.laws.proofs.Decimals.{one-digit, one_digit_more, some-digit}
use Rattle.panel_text.specs.Lines.{NoLeadingZero}

-- by induction on a bound
no_zero : (bound n : ℕ) → n < bound → 0 < n → get_or (decimal n) 0 0 ≡ 48 → ⊥
no_zero zero n l h e = omega arith
no_zero (suc bound) n l h e =
    ⊎_elim
    (λ (small : n < 10). omega (arith, ap (λ (d : List ℕ). get_or d 0 0) (one-digit n small)))
    (λ (large : 10 ≤ n).
    no_zero bound (n / 10) (omega arith) (omega arith)
    (sym (get_or-append (decimal (n / 10)) ((48 + n % 10) ∷ []) 0 0 (some-digit (n / 10)))
    ∙ ap (λ (d : List ℕ). get_or d 0 0) (sym (one_digit_more n large))
    ∙ e))
    (below-or-past n 10)

pub no-leading-zero : NoLeadingZero
unfolding NoLeadingZero
no-leading-zero n = no_zero (suc n) n (omega arith)
