-- The bits of a tile. A number that has a byte under another number has the byte's bits first and the other's eight further up, and that
-- is how a tile's rows and a product of a row of single bits with a byte are read off.
use Prim.Native.Nat.{ℕ, zero, suc, ◌+◌, ◌-◌, ◌*◌, ◌/◌, ◌%◌, ◌^◌, ◌≤◌, ◌<◌}
use mathlib.Core.Bool.{true, ◌||◌}
use mathlib.Core.List.{List}
use mathlib.Core.Logic.{⊎_elim}
use mathlib.Core.Path.{◌≡◌, sym, ap, subst, ◌∙◌}
use native.Mathlib.Nat.{mul_assoc, mul_comm, add-mul, mul-le-mul_right, not-suc-le-zero}
use native.Mathlib.Omega.{arith}
use lib.Bits.{bit_and, bit_or, and_block, and_le_r, and_mask}
use lib.Pow.{pow-add, pow_mono, shr-shr, split}
use Rattle.laws.specs.Bytes.{byte_at, bit}
use Rattle.laws.proofs.Booleans.{or_left, or_right}
use Rattle.laws.proofs.Indices.{last-or-below}
use Rattle.laws.proofs.Bits.{bit-odd, bit-lower, bit-down}
use Rattle.laws.proofs.JoinedBits.{bit-or, first-row, next_row}

-- ── Rows put one under the other, the last first ──

-- t has the rows from r on
pub record Stacked (b : List ℕ) (at stride rows r t : ℕ) : Type 0 where
  pub within : r ≤ rows
  pub room : t < 2 ^ (8 * (rows - r))
  pub told : (i c : ℕ) → r + i < rows → c < 8 → bit (8 * i + c) t ≡ bit c (byte_at b (at + (r + i) * stride))

module _ {b : List ℕ} {at stride rows : ℕ} where
  pub stacked-more :
      {r t x : ℕ} →
      Stacked b at stride rows r t →
      0 < r →
      x < 256 →
      x ≡ byte_at b (at + (r - 1) * stride) →
      Stacked b at stride rows (r - 1) (t * 256 + x)
  stacked-more {r} {t} {x} stacked h small e =
      record {
        within = omega (arith, stacked.within);
        room =
            subst (λ (m : ℕ). t * 256 + x < m) (sym (pow-add 2 (8 * (rows - r)) 8) ∙ ap (λ (m : ℕ). 2 ^ m) (omega (arith, stacked.within)))
            (omega (arith, stacked.room));
        told = row;
      }
    where
      row : (i c : ℕ) → r - 1 + i < rows → c < 8 → bit (8 * i + c) (t * 256 + x) ≡ bit c (byte_at b (at + (r - 1 + i) * stride))
      row zero c k l = first-row t x c small l ∙ ap (bit c) e ∙ ap (λ (j : ℕ). bit c (byte_at b (at + j * stride))) (omega arith)
      row (suc i) c k l =
          next_row t x i c small ∙ stacked.told i c (omega arith) l
          ∙ ap (λ (j : ℕ). bit c (byte_at b (at + j * stride))) (omega arith)

  -- one more row has room in 64 bits
  pub stacked-room : {r t : ℕ} → Stacked b at stride rows r t → rows ≤ 8 → 0 < r → t < 2 ^ 56
  stacked-room {r} stacked h l = omega (arith, stacked.room, pow_mono {i = 8 * (rows - r)} {j = 56} (omega arith))

-- ── A product of rows of single bits with a byte ──

-- bit 0 of each of n rows
abbrev pub lowest : ℕ → ℕ
lowest zero = 0
lowest (suc n) = lowest n * 256 + 1

single-bit : (x : ℕ) → bit_and (x % 256) 1 ≡ x % 2
single-bit x = and_mask (x % 256) 1 ∙ omega arith

-- the product's row 0 is the byte or nothing, and the others are those of the rows further up
parted : (n x y : ℕ) → bit_and x (lowest (suc n)) * y ≡ bit_and (x / 256) (lowest n) * y * 256 + x % 2 * y
parted n x y =
    ap (λ (z : ℕ). bit_and z (lowest n * 256 + 1) * y) (sym (split x 8))
    ∙ ap (λ (z : ℕ). z * y) (and_block 8 (x / 256) (lowest n) (x % 256) 1 (omega arith) (omega arith))
    ∙ ap (λ (z : ℕ). (bit_and (x / 256) (lowest n) * 256 + z) * y) (single-bit x)
    ∙ add-mul (bit_and (x / 256) (lowest n) * 256) (x % 2) y
    ∙ ap (λ (z : ℕ). z + x % 2 * y)
    (mul_assoc (bit_and (x / 256) (lowest n)) 256 y ∙ ap (λ (z : ℕ). bit_and (x / 256) (lowest n) * z) (mul_comm 256 y)
    ∙ sym (mul_assoc (bit_and (x / 256) (lowest n)) y 256))

part_small : (x y : ℕ) → y < 256 → x % 2 * y < 256
part_small x y h =
    let single : x % 2 ≤ 1 = omega arith in
    omega (arith, mul-le-mul_right y single)

product-bit :
    (n r c x y : ℕ) →
    r < n →
    c < 8 →
    y < 256 →
    bit (8 * r) x ≡ true →
    bit c y ≡ true →
    bit (8 * r + c) (bit_and x (lowest n) * y) ≡ true
product-bit zero r c x y h l small p q = absurd (not-suc-le-zero h)
product-bit (suc n) zero c x y h l small p q =
    ap (bit (8 * 0 + c)) (parted n x y)
    ∙ first-row (bit_and (x / 256) (lowest n) * y) (x % 2 * y) c (part_small x y small) l
    ∙ ap (bit c) (ap (λ (z : ℕ). z * y) (bit-odd x p) ∙ omega arith)
    ∙ q
product-bit (suc n) (suc r) c x y h l small p q =
    ap (bit (8 * suc r + c)) (parted n x y)
    ∙ next_row (bit_and (x / 256) (lowest n) * y) (x % 2 * y) r c (part_small x y small)
    ∙ product-bit n r c (x / 256) y (omega arith) l small
    (bit-down x 8 (8 * r) ∙ ap (λ (j : ℕ). bit j x) (omega arith) ∙ p)
    q

-- the product fits
pub product-room : (x y : ℕ) → y < 256 → bit_and x (lowest 8) * y < 2 ^ 64
product-room x y h = omega (arith, mul-le-mul_right y (and_le_r x (lowest 8)))

-- t has the bits given, and those of the phases before p; the rest of the sets and of the members are yet to be taken
pub record Found (given sets members t left right p : ℕ) : Type 0 where
  pub left_rest : left ≡ sets / 2 ^ p
  pub right_rest : right ≡ members / 2 ^ (8 * p)
  pub kept : (k : ℕ) → bit k given ≡ true → bit k t ≡ true
  pub told :
      (r c q : ℕ) → r < 8 → c < 8 → q < p → bit (8 * r + q) sets ≡ true → bit (8 * q + c) members ≡ true → bit (8 * r + c) t ≡ true

module _ {given sets members : ℕ} where
  pub found_none : Found given sets members given sets members 0
  found_none =
      record { left_rest = omega arith; right_rest = omega arith; kept = λ k e. e; told = λ r c q h l m. absurd (not-suc-le-zero m) }

  pub found-more :
      {t left right p : ℕ} →
      Found given sets members t left right p →
      Found given sets members (bit_or t (bit_and left (lowest 8) * (right % 256))) (left / 2 ^ 1) (right / 2 ^ 8) (p + 1)
  found-more {t} {left} {right} {p} found =
      record {
        left_rest = ap (λ (x : ℕ). x / 2 ^ 1) found.left_rest ∙ shr-shr sets p 1;
        right_rest =
            ap (λ (x : ℕ). x / 2 ^ 8) found.right_rest ∙ shr-shr members (8 * p) 8
            ∙ ap (λ (n : ℕ). members / 2 ^ n) (omega arith);
        kept = λ k e. either k (or_left (bit k taken) (found.kept k e));
        told = λ r c q h l m e f.
            either (8 * r + c)
            (⊎_elim
            (λ (same : q ≡ p). or_right (bit (8 * r + c) t) (fresh r c h l (subst (λ (i : ℕ). bit (8 * r + i) sets ≡ true) same e) (subst (λ (i : ℕ). bit (8 * i + c) members ≡ true) same f)))
            (λ (less : q < p). or_left (bit (8 * r + c) taken) (found.told r c q h l less e f))
            (last-or-below (omega arith)));
      }
    where
      taken : ℕ
      taken = bit_and left (lowest 8) * (right % 256)

      either : (k : ℕ) → (bit k t || bit k taken) ≡ true → bit k (bit_or t taken) ≡ true
      either k e = bit-or k t taken ∙ e

      fresh : (r c : ℕ) → r < 8 → c < 8 → bit (8 * r + p) sets ≡ true → bit (8 * p + c) members ≡ true → bit (8 * r + c) taken ≡ true
      fresh r c h l e f =
          product-bit 8 r c left (right % 256) h l (omega arith)
          (ap (bit (8 * r)) found.left_rest ∙ bit-down sets p (8 * r) ∙ ap (λ (i : ℕ). bit i sets) (omega arith) ∙ e)
          (bit-lower 8 c right l ∙ ap (bit c) found.right_rest ∙ bit-down members (8 * p) c ∙ f)
