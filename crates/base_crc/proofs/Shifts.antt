-- A register, bits further. A number that is combined with it above the bits that go out only moves down; this gives the way by bytes and a table.
-- Two registers with the same bits from 32 on never become one: bit 31 of the polynomial tells which lowest bit went out.
use Prim.Native.Nat.{ℕ, zero, suc, ◌+◌, ◌*◌, ◌/◌, ◌%◌, ◌^◌, ◌<◌}
use mathlib.Core.Bool.{Bool, true, false}
use mathlib.Core.List.{List}
use mathlib.Core.Path.{◌≡◌, refl, sym, ap, ◌∙◌}
use native.Mathlib.Nat.{suc-add, zero-add, mul_assoc, mul-one, pow-suc}
use native.Mathlib.Omega.{arith}
use lib.Bits.{bit_xor, xor_comm, xor_lt, xor_shr, xor_zero_r}
use lib.ListN.{get_or}
use lib.Pow.{shr-shr}
use Rattle.laws.specs.Bytes.{bit}
use Rattle.std.specs.Prelude.{if◌then◌else◌}
use Rattle.laws.proofs.Bits.{half-bit, bit-down, even-bit}
use Rattle.laws.proofs.Lists.{list_at}
use Rattle.laws.proofs.JoinedBits.{other, other_none, other-twice, bit-xor}
use Rattle.base_crc.specs.Crc.{polynomial, shifted, shifted_by, entries, taken}
use Rattle.laws.proofs.ExclusiveOr.{same_numbers, xor-swap, xor-cancel, xor-split}

-- ── A number above the bits that go out ──

-- the lowest bit and the half of a register that is combined with a number from bit 1 on
lowest-kept : (x y : ℕ) → bit 0 (bit_xor x (y * 2)) ≡ bit 0 x
lowest-kept x y = bit-xor 0 x (y * 2) ∙ ap (other (bit 0 x)) (even-bit (y * 2) (omega arith)) ∙ other_none (bit 0 x)

half-added : (x y : ℕ) → bit_xor x (y * 2) / 2 ≡ bit_xor (x / 2) y
half-added x y = xor_shr x (y * 2) 1 ∙ ap (bit_xor (x / 2)) (omega arith)

shifted-added : (x y : ℕ) → shifted (bit_xor x (y * 2)) ≡ bit_xor (shifted x) y
unfolding shifted
shifted-added x y = rw (lowest-kept x y, half-added x y) (added (bit 0 x))
  where
    added :
        (low : Bool) →
        (if low then bit_xor (bit_xor (x / 2) y) polynomial else bit_xor (x / 2) y) ≡ bit_xor (if low then bit_xor (x / 2) polynomial else x / 2) y
    added true = xor-swap (x / 2) y polynomial
    added false = refl

pub shifted-by-added : (n x y : ℕ) → shifted_by n (bit_xor x (y * 2 ^ n)) ≡ bit_xor (shifted_by n x) y
unfolding shifted_by
shifted-by-added zero x y = ap (bit_xor x) (mul-one y)
shifted-by-added (suc n) x y =
    let e : y * 2 ^ suc n ≡ y * 2 ^ n * 2 = ap (λ (z : ℕ). y * z) (pow-suc 2 n) ∙ sym (mul_assoc y (2 ^ n) 2) in
    rw (e, shifted-added x (y * 2 ^ n)) (shifted-by-added n (shifted x) y)

-- so only the lowest n bits need the way bit by bit
pub shifted-by-parts : (n x : ℕ) → shifted_by n x ≡ bit_xor (shifted_by n (x % 2 ^ n)) (x / 2 ^ n)
shifted-by-parts n x = ap (shifted_by n) (xor-split x n) ∙ shifted-by-added n (x % 2 ^ n) (x / 2 ^ n)

pub shifted-by-more : (m n x : ℕ) → shifted_by (m + n) x ≡ shifted_by n (shifted_by m x)
unfolding shifted_by
shifted-by-more zero n x = rw zero-add
shifted-by-more (suc m) n x = rw (suc-add m n) (shifted-by-more m n (shifted x))

-- the way by bytes: the lowest eight bits by the table, and the rest moves down
pub lowest-small : (register byte : ℕ) → byte < 256 → bit_xor (register % 256) byte < 256
lowest-small register byte h = xor_lt 8 (register % 256) byte (omega arith) h

by_parts : (register byte : ℕ) → taken register byte ≡ bit_xor (shifted_by 8 (bit_xor (register % 256) byte)) (register / 256)
unfolding taken
by_parts register byte =
    ap (λ (x : ℕ). shifted_by 8 (bit_xor x byte)) (xor-split register 8)
    ∙ ap (shifted_by 8) (xor-swap (register % 256) (register / 256 * 256) byte)
    ∙ shifted-by-added 8 (bit_xor (register % 256) byte) (register / 256)

pub by-table :
    (table : List ℕ) (register byte : ℕ) →
    table ≡ entries →
    byte < 256 →
    bit_xor (get_or table (bit_xor (register % 256) byte) 0) (register / 256) ≡ taken register byte
unfolding entries
by-table table register byte e h =
    rw (e, list_at (shifted_by 8) 256 (bit_xor (register % 256) byte) 0 (lowest-small register byte h)) (sym (by_parts register byte))

-- ── A register has 32 bits ──

shifted-small : (x : ℕ) → x < 2 ^ 32 → shifted x < 2 ^ 32
unfolding shifted
shifted-small x h = by (bit 0 x)
  where
    by : (low : Bool) → (if low then bit_xor (x / 2) polynomial else x / 2) < 2 ^ 32
    by true = xor_lt 32 (x / 2) polynomial (omega arith) (omega arith)
    by false = omega arith

pub shifted-by-small : (n x : ℕ) → x < 2 ^ 32 → shifted_by n x < 2 ^ 32
unfolding shifted_by
shifted-by-small zero x h = h
shifted-by-small (suc n) x h = shifted-by-small n (shifted x) (shifted-small x h)

-- ── Registers do not become one ──

top_bit : bit 31 polynomial ≡ true
unfolding bit
top_bit = refl

-- bit 31 afterwards is bit 32 before, inverted if the lowest bit was 1
told : (x : ℕ) → bit 31 (shifted x) ≡ other (bit 32 x) (bit 0 x)
unfolding shifted
told x = by (bit 0 x)
  where
    by : (low : Bool) → bit 31 (if low then bit_xor (x / 2) polynomial else x / 2) ≡ other (bit 32 x) low
    by true = rw (bit-xor 31 (x / 2) polynomial, top_bit, half-bit 31 x)
    by false = sym (half-bit 31 x) ∙ sym (other_none (bit 32 x))

-- the bits from 32 on only move down
above : (x : ℕ) → shifted x / 2 ^ 32 ≡ x / 2 ^ 32 / 2
unfolding shifted
above x = by (bit 0 x) ∙ shr-shr x 1 32 ∙ sym (shr-shr x 32 1)
  where
    by : (low : Bool) → (if low then bit_xor (x / 2) polynomial else x / 2) / 2 ^ 32 ≡ x / 2 / 2 ^ 32
    by true = xor_shr (x / 2) polynomial 32 ∙ xor_zero_r (x / 2 / 2 ^ 32)
    by false = refl

module _ (x y : ℕ) (high : x / 2 ^ 32 ≡ y / 2 ^ 32) (e : shifted x ≡ shifted y) where
  same-lowest : bit 0 x ≡ bit 0 y
  same-lowest =
      let same : bit 32 x ≡ bit 32 y = sym (bit-down x 32 0) ∙ ap (bit 0) high ∙ bit-down y 32 0 in
      sym (other-twice (bit 32 x) (bit 0 x))
      ∙ ap (other (bit 32 x)) (sym (told x) ∙ ap (bit 31) e ∙ told y)
      ∙ rw same (other-twice (bit 32 y) (bit 0 y))

  same_half : x / 2 ≡ y / 2
  unfolding shifted
  same_half = by (bit 0 y) (rw same-lowest at e)
    where
      by :
          (low : Bool) →
          (if low then bit_xor (x / 2) polynomial else x / 2) ≡ (if low then bit_xor (y / 2) polynomial else y / 2) →
          x / 2 ≡ y / 2
      by true f =
          xor-cancel polynomial (x / 2) (y / 2) (xor_comm polynomial (x / 2) ∙ f ∙ xor_comm (y / 2) polynomial)
      by false f = f

  same-before : x ≡ y
  same-before = same_numbers x y by
    where
      by : (p : ℕ) → bit p x ≡ bit p y
      by zero = same-lowest
      by (suc p) = half-bit p x ∙ ap (bit p) same_half ∙ sym (half-bit p y)

pub one-to-one : (n x y : ℕ) → x / 2 ^ 32 ≡ y / 2 ^ 32 → shifted_by n x ≡ shifted_by n y → x ≡ y
unfolding shifted_by
one-to-one zero x y high e = e
one-to-one (suc n) x y high e =
    same-before x y high
    (one-to-one n (shifted x) (shifted y) (above x ∙ ap (λ (z : ℕ). z / 2) high ∙ sym (above y)) e)
