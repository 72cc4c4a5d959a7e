-- Numbers in lists of bytes: 0 past the end; a byte behind others is at their length; the bits of four bytes.
use Prim.Native.Nat.{ℕ, zero, suc, ◌+◌, ◌*◌, ◌≤◌, ◌<◌}
use mathlib.Core.List.{List, [], ◌∷◌, ◌++◌}
use mathlib.Core.Path.{◌≡◌, sym, ap, ◌∙◌}
use native.Mathlib.Nat.{mul-le-mul_right}
use native.Mathlib.Numerals.{add-one}
use native.Mathlib.Omega.{arith}
use lib.ListN.{length, take, drop, get_or-eq_default}
use lib.Seq.{get_or_at, get_or-append-add, drop-cons, take-add, drop-drop}
use Rattle.laws.specs.Bytes.{byte_at, two_at, four_at, eight_at, bit}
use Rattle.laws.proofs.JoinedBits.{first-row, next_row}

-- ── Past the end ──

pub byte_past : (b : List ℕ) (i : ℕ) → length b ≤ i → byte_at b i ≡ 0
unfolding byte_at
byte_past b i h = get_or-eq_default b 0 h

pub two_past : (b : List ℕ) (i : ℕ) → length b ≤ i → two_at b i ≡ 0
unfolding two_at
two_past b i h = omega (arith, byte_past b i h, byte_past b (i + 1) (omega arith))

pub four-past : (b : List ℕ) (i : ℕ) → length b ≤ i → four_at b i ≡ 0
unfolding four_at
four-past b i h = omega (arith, two_past b i h, two_past b (i + 2) (omega arith))

pub eight-past : (b : List ℕ) (i : ℕ) → length b ≤ i → eight_at b i ≡ 0
unfolding eight_at
eight-past b i h = omega (arith, four-past b i h, four-past b (i + 4) (omega arith))

-- ── Behind others ──

pub first_byte : (p q : List ℕ) (x at : ℕ) → length p ≡ at → byte_at (p ++ (x ∷ q)) at ≡ x
unfolding byte_at
first_byte p q x at e = get_or_at p x q 0 at e

pub second-byte : (p q : List ℕ) (x y at : ℕ) → length p ≡ at → byte_at (p ++ (x ∷ y ∷ q)) (at + 1) ≡ y
unfolding byte_at
second-byte p q x y at e = rw (sym e) (get_or-append-add p (x ∷ y ∷ q) 1 0)

-- ── A part of a list ──

abbrev pub part : List ℕ → ℕ → ℕ → List ℕ
part b at n = take n (drop at b)

pub part-one : (b : List ℕ) (at : ℕ) → at < length b → byte_at b at ∷ [] ≡ part b at 1
unfolding byte_at
part-one b at h = rw (drop-cons b at 0 h)

pub part-two : (b : List ℕ) (at : ℕ) → at + 1 < length b → byte_at b at ∷ byte_at b (at + 1) ∷ [] ≡ part b at 2
unfolding byte_at
part-two b at h =
    let here : at < length b = omega arith in
    let next : suc at < length b = omega arith in
    rw (add-one at, drop-cons b at 0 here, drop-cons b (suc at) 0 next)

pub part-more : (b : List ℕ) (at m n : ℕ) → part b at (m + n) ≡ part b at m ++ part b (at + m) n
part-more b at m n = take-add m n (drop at b) ∙ ap (λ (r : List ℕ). take m (drop at b) ++ take n r) (drop-drop m at b)

-- record k of n, of w bytes each, is within them all
pub record-within : (w k n : ℕ) → k < n → k * w + w ≤ n * w
record-within w k n l =
    let e : suc k * w ≡ k * w + w = omega arith in
    rw e at (mul-le-mul_right w l)

-- ── The bits of four bytes ──

pub four-bit :
    (b : List ℕ) →
    ((i : ℕ) → byte_at b i < 256) →
    (i k c : ℕ) →
    k < 4 →
    c < 8 →
    bit (8 * k + c) (four_at b i) ≡ bit c (byte_at b (i + k))
unfolding four_at two_at
four-bit b small i zero c h l =
    ap (bit (8 * 0 + c)) (omega arith)
    ∙ first-row (byte_at b (i + 1) + 256 * (byte_at b (i + 2) + 256 * byte_at b (i + 2 + 1))) (byte_at b i) c (small i) l
    ∙ ap (λ (j : ℕ). bit c (byte_at b j)) (omega arith)
four-bit b small i (suc zero) c h l =
    ap (bit (8 * 1 + c)) (omega arith)
    ∙ next_row ((byte_at b (i + 2) + 256 * byte_at b (i + 2 + 1)) * 256 + byte_at b (i + 1)) (byte_at b i) 0 c (small i)
    ∙ first-row (byte_at b (i + 2) + 256 * byte_at b (i + 2 + 1)) (byte_at b (i + 1)) c (small (i + 1)) l
four-bit b small i (suc (suc zero)) c h l =
    ap (bit (8 * 2 + c)) (omega arith)
    ∙ next_row ((byte_at b (i + 2 + 1) * 256 + byte_at b (i + 2)) * 256 + byte_at b (i + 1)) (byte_at b i) 1 c (small i)
    ∙ next_row (byte_at b (i + 2 + 1) * 256 + byte_at b (i + 2)) (byte_at b (i + 1)) 0 c (small (i + 1))
    ∙ first-row (byte_at b (i + 2 + 1)) (byte_at b (i + 2)) c (small (i + 2)) l
four-bit b small i (suc (suc (suc zero))) c h l =
    ap (bit (8 * 3 + c)) (omega arith)
    ∙ next_row (((0 * 256 + byte_at b (i + 2 + 1)) * 256 + byte_at b (i + 2)) * 256 + byte_at b (i + 1)) (byte_at b i) 2 c (small i)
    ∙ next_row ((0 * 256 + byte_at b (i + 2 + 1)) * 256 + byte_at b (i + 2)) (byte_at b (i + 1)) 1 c (small (i + 1))
    ∙ next_row (0 * 256 + byte_at b (i + 2 + 1)) (byte_at b (i + 2)) 0 c (small (i + 2))
    ∙ first-row 0 (byte_at b (i + 2 + 1)) c (small (i + 2 + 1)) l
    ∙ ap (λ (j : ℕ). bit c (byte_at b j)) (omega arith)
four-bit b small i (suc (suc (suc (suc k)))) c h l = absurd (omega arith)
