-- Bursts are found. The lists as numbers have the same lowest bits, so these leave the same behind when they have gone out; what is left differs at
-- most in 32 bits, and such registers do not become one. A list with its check value behind it always ends in one and the same register.
use Prim.Native.Nat.{ℕ, ◌+◌, ◌*◌, ◌/◌, ◌%◌, ◌^◌}
use mathlib.Core.List.{List, [], ◌∷◌}
use mathlib.Core.Logic.{inl, inr}
use mathlib.Core.Path.{◌≡◌, sym, ap, ◌∙◌}
use native.Mathlib.Nat.{add_comm, add-zero, mod-lt}
use native.Mathlib.Omega.{arith}
use lib.Bits.{bit_xor, xor_comm, xor_shr, xor_mod}
use lib.ListN.{length, get_or, take, drop, set, length-drop, take-append-drop}
use lib.Pow.{pow_pos, shr-shr, split}
use lib.Seq.{get_or-drop, get_or-set_other}
use Rattle.laws.specs.Bytes.{byte_at, two_at, four_at, bit}
use Rattle.laws.proofs.Bits.{same_bits, bit-lower, bit-down}
use Rattle.base_crc.specs.Crc.{all_ones, shifted_by, taken_all, crc}
use Rattle.base_crc.specs.CrcLaws.{EachByte, bit_in, SameAround, SameBytesAround, BytesAreBits, BurstIsFound, Closed, ClosedBurstIsFound}
use Rattle.laws.proofs.ExclusiveOr.{same_numbers, xor_assoc, xor-twice, xor-cancel}
use Rattle.base_crc.proofs.Shifts.{shifted-by-parts, shifted-by-more, one-to-one}
use Rattle.base_crc.proofs.Numbers.{number_of, bit-of-number, same-list, taken-append, taken-number}

-- ── Numbers ──

-- a register combined with a number, k bits further
left : (c n k : ℕ) → shifted_by k (bit_xor c n) ≡ bit_xor (bit_xor (shifted_by k (bit_xor (c % 2 ^ k) (n % 2 ^ k))) (c / 2 ^ k)) (n / 2 ^ k)
left c n k =
    shifted-by-parts k (bit_xor c n)
    ∙ rw (xor_mod c n k, xor_shr c n k) (sym (xor_assoc (shifted_by k (bit_xor (c % 2 ^ k) (n % 2 ^ k))) (c / 2 ^ k) (n / 2 ^ k)))

module _ (c m n k size : ℕ) (low : m % 2 ^ k ≡ n % 2 ^ k) (high : m / 2 ^ (k + 32) ≡ n / 2 ^ (k + 32)) where
  same-combined : shifted_by size (bit_xor c m) ≡ shifted_by size (bit_xor c n) → m ≡ n
  same-combined e =
      let base = bit_xor (shifted_by k (bit_xor (c % 2 ^ k) (n % 2 ^ k))) (c / 2 ^ k) in
      let first : shifted_by k (bit_xor c m) ≡ bit_xor base (m / 2 ^ k) = rw low at (left c m k) in
      let second : shifted_by k (bit_xor c n) ≡ bit_xor base (n / 2 ^ k) = left c n k in
      let above : m / 2 ^ k / 2 ^ 32 ≡ n / 2 ^ k / 2 ^ 32 = shr-shr m k 32 ∙ high ∙ sym (shr-shr n k 32) in
      let ends : shifted_by size (bit_xor base (m / 2 ^ k)) ≡ shifted_by size (bit_xor base (n / 2 ^ k))
      = ap (shifted_by size) (sym first)
      ∙ sym (shifted-by-more k size (bit_xor c m))
      ∙ ap (λ (j : ℕ). shifted_by j (bit_xor c m)) (add_comm k size)
      ∙ shifted-by-more size k (bit_xor c m)
      ∙ ap (shifted_by k) e
      ∙ sym (shifted-by-more size k (bit_xor c n))
      ∙ ap (λ (j : ℕ). shifted_by j (bit_xor c n)) (add_comm size k)
      ∙ shifted-by-more k size (bit_xor c n)
      ∙ ap (shifted_by size) second in
      let rest : m / 2 ^ k ≡ n / 2 ^ k
      = xor-cancel base (m / 2 ^ k) (n / 2 ^ k)
      (one-to-one size (bit_xor base (m / 2 ^ k)) (bit_xor base (n / 2 ^ k))
      (xor_shr base (m / 2 ^ k) 32 ∙ ap (bit_xor (base / 2 ^ 32)) above ∙ sym (xor_shr base (n / 2 ^ k) 32)) ends) in
      sym (split m k) ∙ rw (rest, low) (split n k)

-- ── Lists of bytes ──

module _ (x y : List ℕ) (from : ℕ) (bytes : EachByte x) (others : EachByte y) (around : SameAround from x y) where
  same_low : number_of x % 2 ^ from ≡ number_of y % 2 ^ from
  unfolding SameAround
  same_low =
      same_bits from (number_of x % 2 ^ from) (number_of y % 2 ^ from) (mod-lt (number_of x) (pow_pos from)) (mod-lt (number_of y) (pow_pos from))
      (λ p l.
      bit-lower from p (number_of x) l
      ∙ bit-of-number x bytes p
      ∙ around p (inl l)
      ∙ sym (bit-of-number y others p)
      ∙ sym (bit-lower from p (number_of y) l))

  same-high : number_of x / 2 ^ (from + 32) ≡ number_of y / 2 ^ (from + 32)
  unfolding SameAround
  same-high =
      same_numbers (number_of x / 2 ^ (from + 32)) (number_of y / 2 ^ (from + 32))
      (λ p.
      bit-down (number_of x) (from + 32) p
      ∙ bit-of-number x bytes (from + 32 + p)
      ∙ around (from + 32 + p) (inr (omega arith))
      ∙ sym (bit-of-number y others (from + 32 + p))
      ∙ sym (bit-down (number_of y) (from + 32) p))

  -- the same register at first and at last
  same_taken : (c : ℕ) → length x ≡ length y → taken_all c x ≡ taken_all c y → x ≡ y
  same_taken c long e =
      same-list x y bytes others long
      (same-combined c (number_of x) (number_of y) from (8 * length y) same_low same-high
      (rw long at (sym (taken-number c x bytes) ∙ e ∙ taken-number c y others)))

pub burst-is-found : BurstIsFound
unfolding BurstIsFound crc
burst-is-found x y from bytes others long around e =
    same_taken x y from bytes others around all_ones long
    (xor-cancel all_ones (taken_all all_ones x) (taken_all all_ones y)
    (xor_comm all_ones (taken_all all_ones x) ∙ e ∙ xor_comm (taken_all all_ones y) all_ones))

-- ── Within four bytes ──

pub bytes-are-bits : BytesAreBits
unfolding BytesAreBits SameBytesAround SameAround bit_in
bytes-are-bits i x y around p (inl before) = ap (bit (p % 8)) (around (p / 8) (inl (omega arith)))
bytes-are-bits i x y around p (inr behind) = ap (bit (p % 8)) (around (p / 8) (inr (omega arith)))

-- one byte alone
pub byte-around : (b : List ℕ) (i v : ℕ) → SameBytesAround i b (set b i v)
unfolding SameBytesAround byte_at
byte-around b i v k (inl before) = sym (get_or-set_other b i k v 0 (λ e. omega (arith, e)))
byte-around b i v k (inr behind) = sym (get_or-set_other b i k v 0 (λ e. omega (arith, e)))

-- ── With the check value behind the bytes ──

number-four : (b : List ℕ) → length b ≡ 4 → number_of b ≡ four_at b 0
unfolding number_of four_at two_at byte_at
number-four [] e = absurd (omega arith)
number-four (p ∷ []) e = absurd (omega arith)
number-four (p ∷ q ∷ []) e = absurd (omega arith)
number-four (p ∷ q ∷ r ∷ []) e = absurd (omega arith)
number-four (p ∷ q ∷ r ∷ s ∷ []) e = omega arith
number-four (p ∷ q ∷ r ∷ s ∷ t ∷ b) e = absurd (omega arith)

-- a number of four bytes, where it is and at the start of what follows
pub four-behind : (b : List ℕ) (n : ℕ) → four_at (drop n b) 0 ≡ four_at b n
unfolding four_at two_at byte_at
four-behind b n =
    rw (get_or-drop n b 0 0, get_or-drop n b 1 0, get_or-drop n b 2 0, get_or-drop n b 3 0, add-zero n)
    (ap (λ (k : ℕ). get_or b n 0 + 256 * get_or b (n + 1) 0 + 65536 * (get_or b (n + 2) 0 + 256 * get_or b k 0)) (omega arith))

bytes-behind : (n : ℕ) (b : List ℕ) → EachByte b → EachByte (drop n b)
unfolding byte_at
bytes-behind n b bytes i = rw (get_or-drop n b i 0) (bytes (n + i))

-- the register at the end does not depend on the bytes
closed-end : (n : ℕ) (x : List ℕ) → EachByte x → Closed n x → taken_all all_ones x ≡ shifted_by 32 all_ones
unfolding crc
closed-end n x bytes closed =
    let first = taken_all all_ones (take n x) in
    let size : length (drop n x) ≡ 4 = length-drop n x ∙ omega (arith, closed.size) in
    let number : number_of (drop n x) ≡ bit_xor first all_ones = number-four (drop n x) size ∙ four-behind x n ∙ closed.check in
    ap (taken_all all_ones) (sym (take-append-drop n x))
    ∙ taken-append all_ones (take n x) (drop n x)
    ∙ taken-number first (drop n x) (bytes-behind n x bytes)
    ∙ rw (size, number, xor-twice first all_ones)

pub closed-burst-is-found : ClosedBurstIsFound
unfolding ClosedBurstIsFound
closed-burst-is-found n x y from bytes others first second around =
    same_taken x y from bytes others around all_ones
    (first.size ∙ sym second.size)
    (closed-end n x bytes first ∙ sym (closed-end n y others second))
