-- The sum and the greatest of f 0 .. f (n - 1): bounds, parts, and one entry more.
use Prim.Native.Nat.{ℕ, zero, suc, ◌+◌, ◌*◌, ◌≤◌, ◌<◌, max}
use mathlib.Core.Logic.{⊎_elim}
use mathlib.Core.Path.{◌≡◌, refl, sym, ap, ◌∙◌}
use native.Mathlib.Nat.{not-suc-le-zero, suc-mul}
use native.Mathlib.Omega.{arith}
use lib.Dec.{eqb}
use borrow.Author.Tests.{eq-eqb, ne_eqb}
use Rattle.std.specs.Prelude.{if◌then◌else◌}
use Rattle.laws.specs.Folds.{sum_of, greatest_of}
use Rattle.laws.proofs.Folds.{fold_same, fold_at}
use Rattle.laws.proofs.Indices.{last-or-below, same-or-apart}

-- ── Sums ──

pub sum_same : (f g : ℕ → ℕ) (n : ℕ) → ((i : ℕ) → i < n → f i ≡ g i) → sum_of f n ≡ sum_of g n
unfolding sum_of
sum_same = fold_same sum_of (λ f g. refl) (λ f g n front last. rw (front, last))

-- one share is at most the sum
pub sum-at : (f : ℕ → ℕ) (n i : ℕ) → i < n → f i ≤ sum_of f n
unfolding sum_of
sum-at = fold_at sum_of (λ a b. a ≤ b) (λ f n. omega arith) (λ f n a h. omega arith)

-- the shares up to one of them, and that one
pub sum-part : (f : ℕ → ℕ) (i n : ℕ) → i < n → sum_of f i + f i ≤ sum_of f n
unfolding sum_of
sum-part f i zero l = omega arith
sum-part f i (suc n) l =
    ⊎_elim
    (λ (e : i ≡ n). rw e (omega arith))
    (λ (m : i < n). omega (arith, sum-part f i n m))
    (last-or-below l)

-- n shares of at most m each
pub sum-within : (f : ℕ → ℕ) (n m : ℕ) → ((i : ℕ) → i < n → f i ≤ m) → sum_of f n ≤ n * m
unfolding sum_of
sum-within f zero m h = omega arith
sum-within f (suc n) m h = omega (arith, sum-within f n m (λ i l. h i (omega arith)), h n (omega arith), suc-mul n m)

-- shares in two parts
pub sum_both : (f g h : ℕ → ℕ) (n : ℕ) → ((i : ℕ) → h i ≡ f i + g i) → sum_of h n ≡ sum_of f n + sum_of g n
unfolding sum_of
sum_both f g h zero e = refl
sum_both f g h (suc n) e = omega (arith, sum_both f g h n e, e n)

-- each share at most another one
pub sum-most : (f g : ℕ → ℕ) (n : ℕ) → ((i : ℕ) → i < n → f i ≤ g i) → sum_of f n ≤ sum_of g n
unfolding sum_of
sum-most f g zero h = omega arith
sum-most f g (suc n) h = omega (arith, sum-most f g n (λ i l. h i (omega arith)), h n (omega arith))

-- without the share of one index
sum_past : (f : ℕ → ℕ) (n q : ℕ) → n ≤ q → sum_of (λ i. if eqb i q then 0 else f i) n ≡ sum_of f n
unfolding sum_of
sum_past f zero q h = refl
sum_past f (suc n) q h = rw (ne_eqb n q (omega arith)) (omega (arith, sum_past f n q (omega arith)))

pub sum-but : (f : ℕ → ℕ) (n q : ℕ) → q < n → sum_of (λ i. if eqb i q then 0 else f i) n + f q ≡ sum_of f n
unfolding sum_of
sum-but f zero q h = absurd (not-suc-le-zero h)
sum-but f (suc n) q h =
    ⊎_elim
    (λ (e : n ≡ q). rw (eq-eqb n q e) (omega (arith, sum_past f n q (omega arith), ap f e)))
    (λ (ne : n ≡ q → ⊥). rw (ne_eqb n q ne) (omega (arith, sum-but f n q (omega arith))))
    (same-or-apart n q)

-- n shares of at least 1 each, of which one is known
sum-least : (f : ℕ → ℕ) (n : ℕ) → ((i : ℕ) → i < n → 1 ≤ f i) → n ≤ sum_of f n
unfolding sum_of
sum-least f zero h = omega arith
sum-least f (suc n) h = omega (arith, sum-least f n (λ i l. h i (omega arith)), h n (omega arith))

pub sum-least-with : (f : ℕ → ℕ) (n i : ℕ) → i < n → ((i : ℕ) → i < n → 1 ≤ f i) → f i + n ≤ sum_of f n + 1
unfolding sum_of
sum-least-with f zero i l h = absurd (not-suc-le-zero l)
sum-least-with f (suc n) i l h =
    ⊎_elim
    (λ (e : i ≡ n). rw e (omega (arith, sum-least f n (λ i l. h i (omega arith)))))
    (λ (m : i < n). omega (arith, sum-least-with f n i m (λ i l. h i (omega arith)), h n (omega arith)))
    (last-or-below l)

-- ── The greatest ──

pub greatest-same : (f g : ℕ → ℕ) (n : ℕ) → ((i : ℕ) → i < n → f i ≡ g i) → greatest_of f n ≡ greatest_of g n
unfolding greatest_of
greatest-same = fold_same greatest_of (λ f g. refl) (λ f g n front last. rw (front, last))

pub greatest-at : (f : ℕ → ℕ) (n i : ℕ) → i < n → f i ≤ greatest_of f n
unfolding greatest_of
greatest-at = fold_at greatest_of (λ a b. a ≤ b) (λ f n. omega arith) (λ f n a h. omega arith)

pub greatest-most : (f : ℕ → ℕ) (n m : ℕ) → ((i : ℕ) → i < n → f i ≤ m) → greatest_of f n ≤ m
unfolding greatest_of
greatest-most f zero m h = omega arith
greatest-most f (suc n) m h = omega (arith, greatest-most f n m (λ i l. h i (omega arith)), h n (omega arith))

pub greatest-none : (f : ℕ → ℕ) (n : ℕ) → ((i : ℕ) → i < n → f i ≡ 0) → greatest_of f n ≡ 0
greatest-none f n h = omega (arith, greatest-most f n 0 (λ i l. omega (arith, h i l)))
