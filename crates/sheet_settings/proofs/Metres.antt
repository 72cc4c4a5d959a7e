-- Laws of metres beside whole numbers. A finite value that is not negative is the fraction m * up e / down e, so each comparison with a whole number is one of
-- natural numbers; a whole number cast to a binary64 value has that number's value, and compares as it does.
use Prim.Native.Nat.{ℕ, zero, suc, ◌+◌, ◌*◌, ◌^◌, ◌≤◌, ◌<◌}
use mathlib.Core.Bool.{Bool, true, false, ◌&&◌, ◌||◌, true≢false}
use mathlib.Core.Logic.{⊎_elim}
use mathlib.Core.Path.{◌≡◌, refl, sym, ap, ◌∙◌}
use native.Mathlib.Nat.{zero-lt-suc, zero-mul, mul-pos, mul-one, add-mul, mul_right_comm, eq-or-lt_of_le, mul-le-mul_right, mul-lt-mul_of_pos_right, eq_of_mul-eq-mul_right}
use native.Mathlib.Omega.{arith}
use lib.Dec.{leb, ltb, eqb, lit<, leb-suc-zero, eqb-suc-zero}
use lib.IntN.{ℤ, pos}
use lib.Ieee.{Float, nan, inf, fin, binary64, up, down, below, level, le, mul, round, of_int}
use lib.Ieee.Exact.{HasValue}
use lib.Ieee.Fits.{up_pos, down_pos}
use lib.Ieee.Bits.{is_true}
use lib.Ieee.Back.{round_whole}
use lib.Ieee.Order.{round_mono}
use lib.Ieee.Positive.{num, den}
use lib.Ieee.Scale.{round_same}
use borrow.Author.Tests.{ltb-true, ltb-false, leb-true, leb-false, eqb-true, eqb-false, lt-ltb, le-ltb, eq-eqb, ne_eqb}
use Rattle.laws.proofs.Booleans.{decided, and_left, and_right, and_both, or_left, or_right}
use Rattle.sheet_settings.specs.Sheet.{whole, metres_in_range}

-- ── Fractions of one denominator ──

-- how `le` compares two finite values once they have one denominator: ±a with ±b
abbrev under : Bool → ℕ → Bool → ℕ → Bool
under s a t b = below s a t b || level s a t b

under-is : (a b : ℕ) → under false a false b ≡ leb a b
under-is a b =
    ⊎_elim
    (λ (t : leb a b ≡ true). under_of (leb-true a b t) ∙ sym t)
    (λ (t : leb a b ≡ false). let l = leb-false a b t in rw (le-ltb a b (omega arith), ne_eqb a b (λ q. omega arith)) (sym t))
    (decided (leb a b))
  where
    under_of : a ≤ b → under false a false b ≡ true
    under_of h =
        ⊎_elim
        (λ (e : a ≡ b). or_right (ltb a b) (and_both (eq-eqb a b e) refl))
        (λ (l : a < b). or_left (eqb a b && true) (lt-ltb a b l))
        (eq-or-lt_of_le h)

module _ (a b c : ℕ) (h : 0 < c) where
  scaled-lt : ltb (a * c) (b * c) ≡ ltb a b
  scaled-lt =
      ⊎_elim
      (λ (t : ltb a b ≡ true). lt-ltb (a * c) (b * c) (mul-lt-mul_of_pos_right (ltb-true a b t) h) ∙ sym t)
      (λ (t : ltb a b ≡ false). le-ltb (a * c) (b * c) (mul-le-mul_right c (ltb-false a b t)) ∙ sym t)
      (decided (ltb a b))

  scaled-eq : eqb (a * c) (b * c) ≡ eqb a b
  scaled-eq =
      ⊎_elim
      (λ (t : eqb a b ≡ true). eq-eqb (a * c) (b * c) (ap (λ (k : ℕ). k * c) (eqb-true a b t)) ∙ sym t)
      (λ (t : eqb a b ≡ false). ne_eqb (a * c) (b * c) (λ q. eqb-false a b t (eq_of_mul-eq-mul_right c h a b q)) ∙ sym t)
      (decided (eqb a b))

scaled-zero : (a c : ℕ) → 0 < c → eqb (a * c) 0 ≡ eqb a 0
scaled-zero a c h = rw zero-mul at (scaled-eq a 0 c h)

scaled-sum : (a b c : ℕ) → 0 < c → ltb 0 (a * c + b * c) ≡ ltb 0 (a + b)
scaled-sum a b c h = rw (zero-mul, add-mul) at (scaled-lt 0 (a + b) c h)

under-scaled : (s t : Bool) (a b c : ℕ) → 0 < c → under s (a * c) t (b * c) ≡ under s a t b
under-scaled false false a b c h = rw (scaled-lt a b c h, scaled-eq a b c h)
under-scaled false true a b c h = rw (scaled-eq a b c h, scaled-zero a c h)
under-scaled true false a b c h = rw (scaled-sum a b c h, scaled-eq a b c h, scaled-zero a c h)
under-scaled true true a b c h = rw (scaled-lt b a c h, scaled-eq a b c h)

-- ── A cast whole number ──

-- the value n and the fraction k / d in the denominator that they are compared in
over : (m n u v d : ℕ) → m * u * 1 ≡ n * v → m * u * d ≡ n * 1 * d * v
over m n u v d h = simp mul-one (rw (mul_right_comm n d v, ← h) (simp mul-one))

-- a value of n compares as n does
alike : (n : ℕ) (y x : Float) → HasValue y false n 1 → (le y x ≡ le (whole n) x) × (le x y ≡ le x (whole n))
unfolding le
alike n nan x v = absurd v
alike n (inf s) x v = absurd v
alike n (fin true m e) x v = absurd (true≢false v.0)
alike n (fin false m e) nan v = (refl, refl)
alike n (fin false m e) (inf t) v = (refl, refl)
alike n (fin false m e) (fin t k d) v =
    let p = over m n (up e) (down e) (down d) v.1 in
    let q : k * up d * down e ≡ k * up d * 1 * down e = ap (λ (z : ℕ). z * down e) (sym (mul-one (k * up d))) in (
      rw (p, q) (under-scaled false t (n * 1 * down d) (k * up d * 1) (down e) (down_pos e)),
      rw (p, q) (under-scaled t false (k * up d * 1) (n * 1 * down d) (down e) (down_pos e)),
    )

pub cast-le : (n : ℕ) (x : Float) → n ≤ 2 ^ 53 → le (of_int binary64 (pos n)) x ≡ le (whole n) x
unfolding of_int
cast-le n x h = (alike n (round binary64 false n 1) x (round_whole binary64 false n h)).0

pub le-cast : (n : ℕ) (x : Float) → n ≤ 2 ^ 53 → le x (of_int binary64 (pos n)) ≡ le x (whole n)
unfolding of_int
le-cast n x h = (alike n (round binary64 false n 1) x (round_whole binary64 false n h)).1

-- the factor 36 as the format has it, 9 * 2 ^ 2
pub times-36 : (x : Float) → mul binary64 x (fin false 9 (pos 2)) ≡ mul binary64 x (whole 36)
unfolding mul
times-36 nan = refl
times-36 (inf s) = refl
times-36 (fin s m e) = refl

-- ── The metres of a sheet ──

-- As a fraction of at most 300, which whole numbers are compared with. A whole number that is not below the exact product with 36 is not
-- below the rounded one: rounding never makes a passage time longer.
pub record Fraction (x : Float) : Type 0 where
  pub most : num x ≤ 300 * den x
  pub told : (n : ℕ) → le (whole n) x ≡ leb (n * den x) (num x)
  pub product : (n : ℕ) → num x * 36 ≤ n * den x → n ≤ 2 ^ 53 → le (mul binary64 x (whole 36)) (whole n) ≡ true

-- rounding keeps the order, and n is not rounded
product-under :
    (m : ℕ) (e : ℤ) (n : ℕ) →
    m * up e * 36 ≤ n * down e →
    n ≤ 2 ^ 53 →
    le (mul binary64 (fin false m e) (whole 36)) (whole n) ≡ true
unfolding mul of_int
product-under m e n h small =
    sym (le-cast n (mul binary64 (fin false m e) (whole 36)) small)
    ∙ is_true _ (round_mono binary64 (m * up e * 36) (down e * 1) n 1 (rw mul-one (down_pos e)) (lit< tt) (simp mul-one h))

-- −0 stays −0, and no whole number is below it
product-zero : (e : ℤ) (n : ℕ) → le (mul binary64 (fin true 0 e) (whole 36)) (whole n) ≡ true
unfolding mul round le
product-zero e n =
    ap (λ (y : Float). le y (whole n))
    (round_same binary64 true (0 * up e * 36) (down e * 1) 0 1 (rw mul-one (down_pos e)) (lit< tt) (simp (zero-mul, mul-one)))
    ∙ over_zero n
  where
    over_zero : (n : ℕ) → under true 0 false (n * 1 * 1) ≡ true
    over_zero zero = refl
    over_zero (suc n) = or_left _ (lt-ltb 0 (0 + suc n * 1 * 1) (omega arith))

zero-alone : (n : ℕ) → (eqb n 0 && eqb n 0) ≡ leb n 0
zero-alone zero = refl
zero-alone (suc n) = rw (eqb-suc-zero, leb-suc-zero)

pub as-fraction : (x : Float) → metres_in_range x ≡ true → Fraction x
unfolding metres_in_range le
as-fraction nan h = absurd (true≢false (sym h))
as-fraction (inf true) h = absurd (true≢false (sym h))
as-fraction (inf false) h = absurd (true≢false (sym h))
as-fraction (fin false m e) h =
    let last = and_right (le (whole 0) (fin false m e)) (le (fin false m e) (whole 300)) h in
    let most = rw mul-one at (leb-true (m * up e * 1) (300 * down e) (sym (under-is (m * up e * 1) (300 * down e)) ∙ last)) in
    record {
      most = most;
      told = λ n. simp mul-one (under-is (n * down e) (m * up e));
      product = product-under m e;
    }
as-fraction (fin true zero e) h =
    record {
      most = simp zero-mul (omega arith);
      told = λ n. simp (mul-one, zero-mul) (zero-alone (n * down e));
      product = λ n h small. product-zero e n;
    }
as-fraction (fin true (suc m) e) h =
    let first = and_left (le (whole 0) (fin true (suc m) e)) (le (fin true (suc m) e) (whole 300)) h in
    let z : 0 * down e ≡ suc m * up e * 1 = eqb-true (0 * down e) (suc m * up e * 1) (and_left (eqb (0 * down e) (suc m * up e * 1)) (eqb (0 * down e) 0) first) in
    absurd (omega (arith, simp (zero-mul, mul-one) at z, mul-pos (zero-lt-suc m) (up_pos e)))
