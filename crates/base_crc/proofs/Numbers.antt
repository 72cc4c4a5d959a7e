-- A list of bytes as one number, the first byte lowest. Its bits are the bits of the bytes. The register after the list is the register before it,
-- combined with this number, as many bits further as the list has.
use Prim.Native.Nat.{ℕ, zero, suc, ◌+◌, ◌*◌, ◌/◌, ◌%◌, ◌^◌, ◌≤◌, ◌<◌}
use mathlib.Core.List.{List, [], ◌∷◌, ◌++◌}
use mathlib.Core.Path.{◌≡◌, refl, sym, ap, ◌∙◌}
use native.Mathlib.Numerals.{add-one}
use native.Mathlib.Omega.{arith}
use lib.Bits.{bit_xor, xor_comm, xor_lt, xor_zero_r, xor_shifted}
use lib.ListN.{length, get_or, take}
use lib.Seq.{take-suc, take_all}
use Rattle.laws.specs.Bytes.{byte_at, bit}
use Rattle.laws.proofs.Bits.{bit-blank}
use Rattle.laws.proofs.JoinedBits.{first-row, next_row}
use Rattle.base_crc.specs.Crc.{all_ones, shifted_by, taken, taken_all, crc}
use Rattle.base_crc.specs.CrcLaws.{EachByte, CrcIsSmall, bit_in}
use Rattle.laws.proofs.ExclusiveOr.{xor_assoc}
use Rattle.base_crc.proofs.Shifts.{shifted-by-added, shifted-by-more, shifted-by-small}

unfoldable pub number_of : List ℕ → ℕ
number_of [] = 0
number_of (x ∷ rest) = number_of rest * 256 + x

-- ── Its bits ──

number_bit : (b : List ℕ) → EachByte b → (k c : ℕ) → c < 8 → bit (8 * k + c) (number_of b) ≡ bit c (byte_at b k)
unfolding number_of byte_at
number_bit [] bytes k c h = bit-blank (8 * k + c) ∙ sym (bit-blank c)
number_bit (x ∷ rest) bytes zero c h = first-row (number_of rest) x c (bytes 0) h
number_bit (x ∷ rest) bytes (suc k) c h = next_row (number_of rest) x k c (bytes 0) ∙ number_bit rest (λ i. bytes (suc i)) k c h

pub bit-of-number : (b : List ℕ) → EachByte b → (p : ℕ) → bit p (number_of b) ≡ bit_in b p
unfolding bit_in
bit-of-number b bytes p =
    let e : p ≡ 8 * (p / 8) + p % 8 = omega arith in
    ap (λ (q : ℕ). bit q (number_of b)) e ∙ number_bit b bytes (p / 8) (p % 8) (omega arith)

-- ── Lists with the same number ──

pub same-list : (x y : List ℕ) → EachByte x → EachByte y → length x ≡ length y → number_of x ≡ number_of y → x ≡ y
unfolding number_of byte_at
same-list [] [] bytes others long e = refl
same-list [] (b ∷ y) bytes others long e = absurd (omega (arith, long))
same-list (a ∷ x) [] bytes others long e = absurd (omega (arith, long))
same-list (a ∷ x) (b ∷ y) bytes others long e =
    let first : a ≡ b = omega (arith, bytes 0, others 0) in
    let behind : number_of x ≡ number_of y = omega (arith, bytes 0, others 0) in
    rw (first, same-list x y (λ i. bytes (suc i)) (λ i. others (suc i)) (omega arith) behind)

-- ── The register after a list ──

pub taken-append : (c : ℕ) (x y : List ℕ) → taken_all c (x ++ y) ≡ taken_all (taken_all c x) y
unfolding taken_all
taken-append c [] y = refl
taken-append c (a ∷ x) y = taken-append (taken c a) x y

pub taken-number : (c : ℕ) (b : List ℕ) → EachByte b → taken_all c b ≡ shifted_by (8 * length b) (bit_xor c (number_of b))
unfolding taken_all taken number_of shifted_by byte_at
taken-number c [] bytes = sym (xor_zero_r c)
taken-number c (x ∷ rest) bytes =
    let n = 8 * length rest in
    let e : 8 * suc (length rest) ≡ 8 + n = omega arith in
    let joined : bit_xor (bit_xor c x) (number_of rest * 256) ≡ bit_xor c (number_of rest * 256 + x)
    = xor_assoc c x (number_of rest * 256) ∙ ap (bit_xor c) (xor_comm x (number_of rest * 256) ∙ xor_shifted (number_of rest) 8 x (bytes 0)) in
    taken-number (shifted_by 8 (bit_xor c x)) rest (λ i. bytes (suc i))
    ∙ ap (shifted_by n) (sym (shifted-by-added 8 (bit_xor c x) (number_of rest)) ∙ ap (shifted_by 8) joined)
    ∙ sym (ap (λ (m : ℕ). shifted_by m (bit_xor c (number_of rest * 256 + x))) e ∙ shifted-by-more 8 n (bit_xor c (number_of rest * 256 + x)))

-- one byte more of a list
pub taken-one :
    (c : ℕ) (b : List ℕ) (i : ℕ) → i < length b → taken_all c (take (i + 1) b) ≡ taken (taken_all c (take i b)) (get_or b i 0)
unfolding taken_all
taken-one c b i h = rw (add-one i, take-suc b i 0 h) (taken-append c (take i b) (get_or b i 0 ∷ []))

pub taken-whole : (c : ℕ) (b : List ℕ) (i : ℕ) → length b ≤ i → taken_all c (take i b) ≡ taken_all c b
taken-whole c b i h = ap (taken_all c) (take_all i b h)

-- ── The check value has 32 bits ──

taken-small : (c : ℕ) (b : List ℕ) → c < 2 ^ 32 → EachByte b → taken_all c b < 2 ^ 32
unfolding taken_all taken byte_at
taken-small c [] h bytes = h
taken-small c (x ∷ rest) h bytes =
    taken-small (shifted_by 8 (bit_xor c x)) rest (shifted-by-small 8 (bit_xor c x) (xor_lt 32 c x h (omega (arith, bytes 0)))) (λ i. bytes (suc i))

pub crc-is-small : CrcIsSmall
unfolding CrcIsSmall crc
crc-is-small b bytes = xor_lt 32 (taken_all all_ones b) all_ones (taken-small all_ones b (omega arith) bytes) (omega arith)
