-- A decimal digit by digit, for a number of any width: one digit below 10, else one more than a tenth of the number has. So a number below 10 to the
-- k has at most k digits.
use Prim.Native.Nat.{ℕ, zero, suc, ◌+◌, ◌/◌, ◌%◌, ◌^◌, ◌≤◌, ◌<◌}
use mathlib.Core.List.{List, [], ◌∷◌, ◌++◌}
use mathlib.Core.Logic.{⊎_elim}
use mathlib.Core.Path.{◌≡◌, ap, ◌∙◌}
use native.Mathlib.Nat.{pow-suc, div-lt_iff_lt-mul}
use native.Mathlib.Omega.{arith}
use lib.ListN.{length, length-append}
use borrow.Author.Tests.{lt-ltb, le-ltb}
use Rattle.laws.proofs.Indices.{below-or-past}
use Rattle.laws.specs.Decimal.{digits, decimal}

-- more digits than are needed change nothing
any-most : (a b n : ℕ) → n < a → n < b → digits a n ≡ digits b n
unfolding digits
any-most zero b n h k = absurd (omega arith)
any-most (suc a) zero n h k = absurd (omega arith)
any-most (suc a) (suc b) n h k =
    ⊎_elim
    (λ (l : n < 10). rw (lt-ltb n 10 l))
    (λ (l : 10 ≤ n).
    rw (le-ltb n 10 l)
    (ap (λ (front : List ℕ). front ++ ((48 + n % 10) ∷ [])) (any-most a b (n / 10) (omega arith) (omega arith))))
    (below-or-past n 10)

pub one-digit : (n : ℕ) → n < 10 → decimal n ≡ (48 + n) ∷ []
unfolding decimal digits
one-digit n h = rw (lt-ltb n 10 h) (ap (λ (d : ℕ). (48 + d) ∷ []) (omega arith))

pub one_digit_more : (n : ℕ) → 10 ≤ n → decimal n ≡ decimal (n / 10) ++ ((48 + n % 10) ∷ [])
unfolding decimal digits
one_digit_more n h =
    rw (le-ltb n 10 h) (ap (λ (front : List ℕ). front ++ ((48 + n % 10) ∷ [])) (any-most n (suc (n / 10)) (n / 10) (omega arith) (omega arith)))

-- ── How many digits ──

pub length-one : (n : ℕ) → n < 10 → length (decimal n) ≡ 1
length-one n h = ap length (one-digit n h)

pub length_more : (n : ℕ) → 10 ≤ n → length (decimal n) ≡ length (decimal (n / 10)) + 1
length_more n h = ap length (one_digit_more n h) ∙ length-append (decimal (n / 10)) ((48 + n % 10) ∷ [])

pub some-digit : (n : ℕ) → 1 ≤ length (decimal n)
some-digit n =
    ⊎_elim (λ (h : n < 10). omega (arith, length-one n h)) (λ (h : 10 ≤ n). omega (arith, length_more n h)) (below-or-past n 10)

-- a number below 10 to the k, if k is above 0
pub at_most : (k n : ℕ) → n < 10 ^ suc k → length (decimal n) ≤ suc k
at_most zero n h = omega (arith, length-one n h)
at_most (suc k) n h =
    let tenth = at_most k (n / 10) ((div-lt_iff_lt-mul (omega arith)).1 (rw pow-suc at h)) in
    ⊎_elim (λ (l : n < 10). omega (arith, length-one n l)) (λ (l : 10 ≤ n). omega (arith, length_more n l)) (below-or-past n 10)
