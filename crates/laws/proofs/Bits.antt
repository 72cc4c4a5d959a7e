-- The bits of one number: none from its width on, odd and even, shifted and cut numbers, numbers with the same bits, and one bit alone.
use Prim.Native.Nat.{ℕ, zero, suc, ◌+◌, ◌-◌, ◌*◌, ◌/◌, ◌%◌, ◌^◌, ◌≤◌, ◌<◌}
use mathlib.Core.Bool.{true, false, ◌&&◌}
use mathlib.Core.Logic.{⊎_elim}
use mathlib.Core.Path.{◌≡◌, refl, sym, ap, subst, ◌∙◌}
use native.Mathlib.Nat.{div-div-eq-div-mul, div-eq_of_lt, lt_of_lt_of_le, mul_assoc, one-mul, pow-succ', zero-div}
use native.Mathlib.Omega.{arith}
use lib.Bits.{shifted_even, shifted_half}
use lib.Dec.{leb, eqb}
use lib.Pow.{pow-add, pow_mono, pow_pos, field, mod-mod-pow, shl-shr, shr-shr}
use borrow.Author.Tests.{leb-true, leb-false, eqb-true, eqb-false, ne_eqb, eq-eqb}
use Rattle.laws.specs.Bytes.{bit}
use Rattle.laws.proofs.Booleans.{decided}
use Rattle.laws.proofs.Indices.{passes-below, eqb-suc}

-- ── A number below 2 ^ n ──

pub bit-blank : (p : ℕ) → bit p 0 ≡ false
unfolding bit
bit-blank p = rw zero-div

pub bit-above : (x n p : ℕ) → x < 2 ^ n → n ≤ p → bit p x ≡ false
unfolding bit
bit-above x n p h l = rw (div-eq_of_lt (lt_of_lt_of_le h (pow_mono l)))

pub bit_below : (x n p : ℕ) → x < 2 ^ n → bit p x ≡ true → p < n
bit_below x n p h e = passes-below (bit p x) p n (bit-above x n p h) e

-- ── Odd and even: bit 0 ──

pub even-bit : (x : ℕ) → x % 2 ≡ 0 → bit 0 x ≡ false
unfolding bit
even-bit x e = ne_eqb (x / 2 ^ 0 % 2) 1 (λ z. omega (arith, z))

pub odd-bit : (x : ℕ) → x % 2 ≡ 1 → bit 0 x ≡ true
unfolding bit
odd-bit x e = eq-eqb (x / 2 ^ 0 % 2) 1 (omega arith)

bit-even : (x : ℕ) → bit 0 x ≡ false → x % 2 ≡ 0
unfolding bit
bit-even x e = let odd = eqb-false (x / 2 ^ 0 % 2) 1 e in omega (arith, odd)

pub bit-odd : (x : ℕ) → bit 0 x ≡ true → x % 2 ≡ 1
unfolding bit
bit-odd x e = let odd = eqb-true (x / 2 ^ 0 % 2) 1 e in omega arith

same-parity : (x y : ℕ) → bit 0 x ≡ bit 0 y → x % 2 ≡ y % 2
same-parity x y q =
    ⊎_elim
    (λ (e : bit 0 x ≡ true). bit-odd x e ∙ sym (bit-odd y (sym q ∙ e)))
    (λ (e : bit 0 x ≡ false). bit-even x e ∙ sym (bit-even y (sym q ∙ e)))
    (decided (bit 0 x))

-- ── Shifted ──

-- to the right
pub bit-down : (x s k : ℕ) → bit k (x / 2 ^ s) ≡ bit (s + k) x
unfolding bit
bit-down x s k = rw (shr-shr x s k)

-- to the right by one
pub half-bit : (k x : ℕ) → bit (suc k) x ≡ bit k (x / 2)
unfolding bit
half-bit k x = sym (rw (div-div-eq-div-mul x 2 (2 ^ k), pow-succ' 2 k))

-- to the left, from the shift on
moved-bit : (x s d : ℕ) → bit (s + d) (x * 2 ^ s) ≡ bit d x
unfolding bit
moved-bit x s d = rw (← shr-shr (x * 2 ^ s) s d, shl-shr x s)

vacated : (x d k : ℕ) → bit k (x * 2 ^ (suc d + k)) ≡ false
unfolding bit
vacated x d k =
    rw (pow-add 2 (suc d) k, ← mul_assoc x (2 ^ suc d) (2 ^ k), shl-shr (x * 2 ^ suc d) k, shifted_even x d)

-- to the left, below the shift
pub vacated-bit : (x s k : ℕ) → k < s → bit k (x * 2 ^ s) ≡ false
vacated-bit x s k h = subst (λ (t : ℕ). bit k (x * 2 ^ t) ≡ false) (omega arith) (vacated x (s - k - 1) k)

-- ── Cut to a width ──

kept-bit : (d k x : ℕ) → bit k (x % 2 ^ (d + 1 + k)) ≡ bit k x
unfolding bit
kept-bit d k x = ap (λ (q : ℕ). eqb q 1) (ap (λ (q : ℕ). q % 2) (field x (d + 1) k) ∙ mod-mod-pow (x / 2 ^ k) d 1)

-- in a number cut to w bits
pub bit-lower : (w k x : ℕ) → k < w → bit k (x % 2 ^ w) ≡ bit k x
bit-lower w k x h = subst (λ (v : ℕ). bit k (x % 2 ^ v) ≡ bit k x) (omega arith) (kept-bit (w - k - 1) k x)

-- shifted to the left, in a number of w bits
pub bit_up : (x s w k : ℕ) → k < w → bit k (x * 2 ^ s % 2 ^ w) ≡ (leb s k && bit (k - s) x)
bit_up x s w k h =
    bit-lower w k (x * 2 ^ s) h
    ∙ ⊎_elim
    (λ (e : leb s k ≡ true).
    rw e
    (subst (λ (j : ℕ). bit j (x * 2 ^ s) ≡ bit (k - s) x) (omega (arith, leb-true s k e)) (moved-bit x s (k - s))))
    (λ (e : leb s k ≡ false).
    rw e (vacated-bit x s k (leb-false s k e)))
    (decided (leb s k))

-- ── Numbers with the same bits ──

pub same_bits : (n x y : ℕ) → x < 2 ^ n → y < 2 ^ n → ((p : ℕ) → p < n → bit p x ≡ bit p y) → x ≡ y
same_bits zero x y h k same = omega arith
same_bits (suc n) x y h k same =
    omega (
      arith,
      same_bits n (x / 2) (y / 2) (omega (arith, pow-succ' 2 n)) (omega (arith, pow-succ' 2 n))
          (λ p l. sym (half-bit p x) ∙ same (suc p) (omega arith) ∙ half-bit p y),
      same-parity x y (same 0 (omega arith)),
    )

pub no_bits : (n x : ℕ) → x < 2 ^ n → ((p : ℕ) → p < n → bit p x ≡ false) → x ≡ 0
no_bits n x h none = same_bits n x 0 h (pow_pos n) (λ p l. none p l ∙ sym (bit-blank p))

-- ── One bit alone ──

pub bit-one : (k q : ℕ) → bit q (1 * 2 ^ k) ≡ eqb k q
bit-one zero zero = odd-bit 1 refl
bit-one zero (suc q) = half-bit q 1 ∙ bit-blank q ∙ sym (ne_eqb 0 (suc q) (λ z. omega (arith, z)))
bit-one (suc k) zero =
    even-bit (1 * 2 ^ suc k) (shifted_even 1 k) ∙ sym (ne_eqb (suc k) 0 (λ z. omega (arith, z)))
bit-one (suc k) (suc q) =
    half-bit q (1 * 2 ^ suc k) ∙ ap (bit q) (shifted_half 1 k) ∙ bit-one k q ∙ sym (eqb-suc k q)

pub bit-power : (k q : ℕ) → bit q (2 ^ k) ≡ eqb k q
bit-power k q = ap (bit q) (sym (one-mul (2 ^ k))) ∙ bit-one k q
