-- The bits of two numbers joined by and, or, xor; they have one in common exactly if their conjunction is not 0.
use Prim.Native.Nat.{ℕ, zero, suc, ◌+◌, ◌*◌, ◌/◌, ◌%◌, ◌^◌, ◌≤◌, ◌<◌, min, max}
use mathlib.Core.Bool.{Bool, true, false, not, ◌&&◌, ◌||◌}
use mathlib.Core.Logic.{⊎_elim}
use mathlib.Core.Path.{◌≡◌, refl, sym, ap, ◌∙◌}
use native.Mathlib.Omega.{arith}
use lib.Bits.{bit_and, bit_or, bit_xor, differ, and_step, and_shr, and_lt, and_le_l, and_le_r, or_step, or_shr, or_lt, or_add_and, or_shifted, xor_step, xor_shr}
use lib.Dec.{leb, ltb, eqb}
use lib.Pow.{high}
use borrow.Author.Tests.{eqb-true, eqb-false, ne_eqb, eq-eqb, leb-true, leb-false, le-leb, lt-leb, lt-ltb, le-ltb, ltb-true, ltb-false}
use Rattle.laws.specs.Bytes.{bit}
use Rattle.laws.specs.Folds.{any_of}
use Rattle.laws.proofs.Booleans.{decided, never_both, not-true-false, and_both, and-false-left, and-false-right}
use Rattle.laws.proofs.Indices.{below-or-past}
use Rattle.laws.proofs.Folds.{any_found, any_false, any-past}
use Rattle.laws.proofs.Bits.{bit-blank, bit-above, bit-down, vacated-bit, no_bits}

-- ── Conjunction ──

lowest : (x y : ℕ) → bit_and x y % 2 ≡ min (x % 2) (y % 2)
lowest x y = omega (arith, and_step x y)

both_one : (u v : ℕ) → u < 2 → v < 2 → eqb (min u v) 1 ≡ (eqb u 1 && eqb v 1)
both_one u v h k =
    ⊎_elim
    (λ (e : eqb u 1 ≡ true).
    ⊎_elim
    (λ (f : eqb v 1 ≡ true). rw (e, f) (eq-eqb (min u v) 1 (omega (arith, eqb-true u 1 e, eqb-true v 1 f))))
    (λ (f : eqb v 1 ≡ false).
    rw (e, f)
    (ne_eqb (min u v) 1 (λ q. eqb-false v 1 f (omega (arith, q, eqb-true u 1 e)))))
    (decided (eqb v 1)))
    (λ (e : eqb u 1 ≡ false). rw e (ne_eqb (min u v) 1 (λ q. eqb-false u 1 e (omega (arith, q)))))
    (decided (eqb u 1))

pub bit-and : (p a b : ℕ) → bit p (bit_and a b) ≡ (bit p a && bit p b)
unfolding bit
bit-and p a b =
    rw (and_shr a b p, lowest (a / 2 ^ p) (b / 2 ^ p))
    (both_one (a / 2 ^ p % 2) (b / 2 ^ p % 2) (omega arith) (omega arith))

-- ── Union ──

highest : (x y : ℕ) → bit_or x y % 2 ≡ max (x % 2) (y % 2)
highest x y = omega (arith, or_step x y)

one_of : (u v : ℕ) → u < 2 → v < 2 → eqb (max u v) 1 ≡ (eqb u 1 || eqb v 1)
one_of u v h k =
    ⊎_elim
    (λ (e : eqb u 1 ≡ true). rw e (eq-eqb (max u v) 1 (omega (arith, eqb-true u 1 e))))
    (λ (e : eqb u 1 ≡ false).
    ⊎_elim
    (λ (f : eqb v 1 ≡ true). rw (e, f) (eq-eqb (max u v) 1 (omega (arith, eqb-true v 1 f))))
    (λ (f : eqb v 1 ≡ false).
    rw (e, f)
    (ne_eqb (max u v) 1 (λ q. omega (arith, q, eqb-false u 1 e, eqb-false v 1 f))))
    (decided (eqb v 1)))
    (decided (eqb u 1))

pub bit-or : (p a b : ℕ) → bit p (bit_or a b) ≡ (bit p a || bit p b)
unfolding bit
bit-or p a b =
    rw (or_shr a b p, highest (a / 2 ^ p) (b / 2 ^ p))
    (one_of (a / 2 ^ p % 2) (b / 2 ^ p % 2) (omega arith) (omega arith))

-- ── Exclusive union ──

-- one of the two tests alone passes
abbrev pub other : Bool → Bool → Bool
other true t = not t
other false t = t

pub other_none : (s : Bool) → other s false ≡ s
other_none true = refl
other_none false = refl

pub other-twice : (s t : Bool) → other s (other s t) ≡ t
other-twice true true = refl
other-twice true false = refl
other-twice false t = refl

pub other-back : (s t : Bool) → other s (other t s) ≡ t
other-back true true = refl
other-back true false = refl
other-back false true = refl
other-back false false = refl

-- the lowest bit, whatever is above it
odd : (w d : ℕ) → d < 2 → (w * 2 + d) % 2 ≡ d
odd w d h = omega arith

digit : (u v w : ℕ) → u < 2 → v < 2 → eqb ((w * 2 + differ u v) % 2) 1 ≡ other (eqb u 1) (eqb v 1)
digit zero zero w h l = rw (odd w 0 (omega arith))
digit zero (suc zero) w h l = rw (odd w 1 (omega arith))
digit (suc zero) zero w h l = rw (odd w 1 (omega arith))
digit (suc zero) (suc zero) w h l = rw (odd w 0 (omega arith))
digit (suc (suc u)) v w h l = absurd (omega arith)
digit zero (suc (suc v)) w h l = absurd (omega arith)
digit (suc zero) (suc (suc v)) w h l = absurd (omega arith)

pub bit-xor : (p a b : ℕ) → bit p (bit_xor a b) ≡ other (bit p a) (bit p b)
unfolding bit
bit-xor p a b =
    rw (xor_shr a b p, xor_step (a / 2 ^ p) (b / 2 ^ p))
    (digit (a / 2 ^ p % 2) (b / 2 ^ p % 2) (bit_xor (a / 2 ^ p / 2) (b / 2 ^ p / 2)) (omega arith) (omega arith))

-- ── Bits in common ──

pub in-common :
    (n a b : ℕ) →
    a < 2 ^ n →
    b < 2 ^ n →
    not (eqb (bit_and a b) 0) ≡ any_of (λ (p : ℕ). bit p a && bit p b) n
in-common n a b h k =
    ⊎_elim
    (λ (e : any_of (λ (p : ℕ). bit p a && bit p b) n ≡ true).
    let w = any_found (λ (p : ℕ). bit p a && bit p b) n e in
    rw e
    (ap not
    (ne_eqb (bit_and a b) 0
    (λ z. never_both (bit-and w.0 a b ∙ w.2) (ap (bit w.0) z ∙ bit-blank w.0)))))
    (λ (e : any_of (λ (p : ℕ). bit p a && bit p b) n ≡ false).
    rw e
    (ap not
    (eq-eqb (bit_and a b) 0
    (no_bits n (bit_and a b) (and_lt n a b h k)
    (λ p l. bit-and p a b ∙ any_false (λ (p : ℕ). bit p a && bit p b) n p e l)))))
    (decided (any_of (λ (p : ℕ). bit p a && bit p b) n))

-- a bit of one is no bit of the other
pub clear-bit : (k a b : ℕ) → bit_and a b ≡ 0 → bit k b ≡ true → bit k a ≡ false
clear-bit k a b e p = not-true-false (bit k a) (λ q. never_both (bit-and k a b ∙ and_both q p) (ap (bit k) e ∙ bit-blank k))

-- of two numbers the one that stays below 2 ^ n has its bits below n
pub common-below :
    (a b n m : ℕ) →
    b < 2 ^ n →
    b < 2 ^ m →
    any_of (λ p. bit p a && bit p b) m ≡ any_of (λ p. bit p a && bit p b) n
common-below a b n m h k =
    ⊎_elim
    (λ (l : n < m). sym (any-past (λ p. bit p a && bit p b) n m (omega arith) (clear n h)))
    (λ (l : m ≤ n). any-past (λ p. bit p a && bit p b) m n l (clear m k))
    (below-or-past n m)
  where
    clear : (n : ℕ) {m : ℕ} → b < 2 ^ n → (p : ℕ) → n ≤ p → p < m → (bit p a && bit p b) ≡ false
    clear n h p l short = and-false-right (bit p a) (bit-above b n p h l)

-- ── How great a union is ──

left-within : (a b : ℕ) → a ≤ bit_or a b
left-within a b = omega (arith, or_add_and a b, and_le_r a b)

right-within : (a b : ℕ) → b ≤ bit_or a b
right-within a b = omega (arith, or_add_and a b, and_le_l a b)

-- one test of the union against a power of two is the test of both
pub joined-below : (k a b : ℕ) → ltb (bit_or a b) (2 ^ k) ≡ (ltb a (2 ^ k) && ltb b (2 ^ k))
joined-below k a b =
    ⊎_elim
    (λ (e : ltb a (2 ^ k) ≡ true).
    ⊎_elim
    (λ (f : ltb b (2 ^ k) ≡ true).
    lt-ltb (bit_or a b) (2 ^ k) (or_lt k a b (ltb-true a (2 ^ k) e) (ltb-true b (2 ^ k) f)) ∙ sym (and_both e f))
    (λ (f : ltb b (2 ^ k) ≡ false).
    le-ltb (bit_or a b) (2 ^ k) (omega (arith, ltb-false b (2 ^ k) f, right-within a b)) ∙ sym (and-false-right (ltb a (2 ^ k)) f))
    (decided (ltb b (2 ^ k))))
    (λ (e : ltb a (2 ^ k) ≡ false).
    le-ltb (bit_or a b) (2 ^ k) (omega (arith, ltb-false a (2 ^ k) e, left-within a b)) ∙ sym (and-false-left (ltb b (2 ^ k)) e))
    (decided (ltb a (2 ^ k)))

-- a union reaches 2 ^ n exactly if one of the two sets does
pub union-reaches : (n x y : ℕ) → leb (2 ^ n) (bit_or x y) ≡ (leb (2 ^ n) x || leb (2 ^ n) y)
union-reaches n x y =
    ⊎_elim
    (λ (e : leb (2 ^ n) x ≡ true).
    rw e (le-leb (2 ^ n) (bit_or x y) (omega (arith, leb-true (2 ^ n) x e, left-within x y))))
    (λ (e : leb (2 ^ n) x ≡ false).
    ⊎_elim
    (λ (f : leb (2 ^ n) y ≡ true).
    rw (e, f) (le-leb (2 ^ n) (bit_or x y) (omega (arith, leb-true (2 ^ n) y f, right-within x y))))
    (λ (f : leb (2 ^ n) y ≡ false).
    rw (e, f) (lt-leb _ _ (or_lt n x y (leb-false (2 ^ n) x e) (leb-false (2 ^ n) y f))))
    (decided (leb (2 ^ n) y)))
    (decided (leb (2 ^ n) x))

-- ── A byte under a number ──

byte-bit : (y x c : ℕ) → x < 256 → c < 8 → bit c (y * 256 + x) ≡ bit c x
byte-bit y x c h l =
    ap (bit c) (sym (or_shifted y 8 x h)) ∙ bit-or c (y * 2 ^ 8) x ∙ ap (λ (t : Bool). t || bit c x) (vacated-bit y 8 c l)

upper-bit : (y x p : ℕ) → x < 256 → bit (8 + p) (y * 256 + x) ≡ bit p y
upper-bit y x p h = sym (bit-down (y * 256 + x) 8 p) ∙ ap (bit p) (high y 8 h)

-- by rows of eight bits: row 0, and the rows further up
pub first-row : (y x c : ℕ) → x < 256 → c < 8 → bit (8 * 0 + c) (y * 256 + x) ≡ bit c x
first-row y x c h l = ap (λ (p : ℕ). bit p (y * 256 + x)) (omega arith) ∙ byte-bit y x c h l

pub next_row : (y x k c : ℕ) → x < 256 → bit (8 * suc k + c) (y * 256 + x) ≡ bit (8 * k + c) y
next_row y x k c h = ap (λ (p : ℕ). bit p (y * 256 + x)) (omega arith) ∙ upper-bit y x (8 * k + c) h
