-- The bits from a place on: none exactly if the quotient is 0. The bits below n: all exactly if the number is 2 ^ n - 1.
use Prim.Native.Nat.{ℕ, zero, suc, ◌+◌, ◌-◌, ◌*◌, ◌/◌, ◌%◌, ◌^◌, ◌≤◌, ◌<◌}
use mathlib.Core.Bool.{true, false, not}
use mathlib.Core.Logic.{⊎_elim}
use mathlib.Core.Path.{◌≡◌, refl, sym, ap, ◌∙◌}
use native.Mathlib.Nat.{div-eq_of_lt, div-eq-sub-div, lt_of_le_of_lt, lt_of_lt_of_le, mod-eq_of_lt, mod-lt, mod-one, one-mul, pow-succ', zero-lt-suc}
use native.Mathlib.Omega.{arith}
use lib.Arith.{mod-mul}
use lib.Count.{ones_in, ones, ones_cat}
use lib.Dec.{leb, eqb}
use lib.Pow.{pow_mono, pow_pos, shl_exact, shr_le}
use borrow.Author.Tests.{leb-true, leb-false, lt-leb, ne_eqb}
use Rattle.laws.specs.Bytes.{bit}
use Rattle.std.specs.Prelude.{if◌then◌else◌}
use Rattle.laws.specs.Folds.{count_of}
use Rattle.laws.proofs.Booleans.{decided, never_both}
use Rattle.laws.proofs.Indices.{below-or-past}
use Rattle.laws.proofs.Bits.{bit-blank, bit-above, bit-lower, bit-down, half-bit, odd-bit, same_bits, no_bits}

-- ── From a place on ──

pub no-bits-from : (d n x : ℕ) → x < 2 ^ n → ((i : ℕ) → d ≤ i → i < n → bit i x ≡ false) → x / 2 ^ d ≡ 0
no-bits-from d n x h none =
    no_bits n (x / 2 ^ d) (lt_of_le_of_lt (shr_le x d) h)
    (λ p l.
    bit-down x d p
    ∙ ⊎_elim
    (λ (m : d + p < n). none (d + p) (omega arith) m)
    (λ (m : n ≤ d + p). bit-above x n (d + p) h m)
    (below-or-past (d + p) n))

pub bit-from : (d i x : ℕ) → d ≤ i → bit i x ≡ true → x / 2 ^ d ≡ 0 → ⊥
bit-from d i x l set empty =
    let at : d + (i - d) ≡ i = omega arith in
    never_both set
    (ap (λ (j : ℕ). bit j x) (sym at)
    ∙ sym (bit-down x d (i - d))
    ∙ ap (bit (i - d)) empty
    ∙ bit-blank (i - d))

pub reaches : (n x : ℕ) → not (eqb (x / 2 ^ n) 0) ≡ leb (2 ^ n) x
reaches n x =
    ⊎_elim
    (λ (e : leb (2 ^ n) x ≡ true).
    rw (e, ne_eqb (x / 2 ^ n) 0 (λ z. omega (arith, div-eq-sub-div (pow_pos n) (leb-true (2 ^ n) x e)))))
    (λ (e : leb (2 ^ n) x ≡ false). rw (e, div-eq_of_lt (leb-false (2 ^ n) x e)))
    (decided (leb (2 ^ n) x))

-- a number below 2 ^ m reaches no higher power
pub reaches-none : (m n x : ℕ) → x < 2 ^ m → m ≤ n → leb (2 ^ n) x ≡ false
reaches-none m n x h l = lt-leb (2 ^ n) x (lt_of_lt_of_le h (pow_mono l))

pub reaches-nothing : (n : ℕ) → leb (2 ^ n) 0 ≡ false
reaches-nothing n = lt-leb (2 ^ n) 0 (pow_pos n)

-- ── All bits below n ──

pub full-each : (n x p : ℕ) → x + 1 ≡ 2 ^ n → p < n → bit p x ≡ true
full-each zero x p e l = absurd (omega arith)
full-each (suc n) x zero e l = odd-bit x (omega (arith, pow-succ' 2 n))
full-each (suc n) x (suc p) e l = half-bit p x ∙ full-each n (x / 2) p (omega (arith, pow-succ' 2 n)) (omega arith)

pub all-full : (n x : ℕ) → x < 2 ^ n → ((p : ℕ) → p < n → bit p x ≡ true) → x + 1 ≡ 2 ^ n
all-full n x h all =
    let full = 2 ^ n - 1 in
    let whole : full + 1 ≡ 2 ^ n = omega (arith, pow_pos n) in
    omega (arith, whole, same_bits n x full h (omega arith) (λ p l. all p l ∙ sym (full-each n full p whole l)))

-- ── How many bits below n ──

-- a digit counts itself
digit : (d : ℕ) → d < 2 → (if eqb d 1 then 1 else 0) ≡ ones d
unfolding ones ones_in
digit zero h = refl
digit (suc zero) h = refl
digit (suc (suc d)) h = absurd (omega arith)

-- the ones among the n lowest digits
lowest-ones : (n x : ℕ) → count_of (λ p. bit p x) n ≡ ones (x % 2 ^ n)
unfolding count_of bit ones
lowest-ones zero x = sym (ap ones (mod-one x))
lowest-ones (suc n) x =
    rw (
      pow-succ' 2 n,
      mod-mul x {m = 2} {c = 2 ^ n} (zero-lt-suc 1) (pow_pos n),
      ones_cat n (x / 2 ^ n % 2) (x % 2 ^ n) (mod-lt x (pow_pos n)),
      lowest-ones n x,
      digit (x / 2 ^ n % 2) (mod-lt (x / 2 ^ n) (zero-lt-suc 1)),
    )
    (omega arith)

pub ones-counted : (n x : ℕ) → x < 2 ^ n → count_of (λ p. bit p x) n ≡ ones x
ones-counted n x h = lowest-ones n x ∙ ap ones (mod-eq_of_lt h)

-- ── The first n bits, in a word ──

-- a one that is shifted by less than the width
pub shifted : (w k : ℕ) → k < w → 1 * 2 ^ k % 2 ^ w ≡ 1 * 2 ^ k
shifted w k l = shl_exact 1 k w (omega arith) (omega arith)

pub shifted-some : (w k : ℕ) → k < w → 0 < 1 * 2 ^ k % 2 ^ w
shifted-some w k l = rw (shifted w k l) (omega (arith, pow_pos k))

-- in a word of 64 bits
abbrev pub firsts : ℕ → ℕ → ℕ
firsts n x = x % (1 * 2 ^ n % 2 ^ 64)

module _ (n x : ℕ) (room : n < 64) where
  firsts-are : firsts n x ≡ x % 2 ^ n
  firsts-are = rw (shifted 64 n room, one-mul (2 ^ n))

  pub firsts-within : firsts n x < 2 ^ n
  firsts-within = rw firsts-are (mod-lt x (pow_pos n))

  pub firsts-bit : (i : ℕ) → i < n → bit i (firsts n x) ≡ bit i x
  firsts-bit i l = ap (bit i) firsts-are ∙ bit-lower n i x l
