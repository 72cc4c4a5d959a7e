-- Folds over the indices below n: equal entries give equal folds, and each entry is in its fold; some index, or every index, passes.
use Prim.Native.Nat.{ℕ, zero, suc, ◌+◌, ◌≤◌, ◌<◌}
use mathlib.Core.Bool.{Bool, true, false, ◌&&◌, ◌||◌, or-false, true≢false}
use mathlib.Core.Logic.{⊎_elim}
use mathlib.Core.Path.{◌≡◌, refl, sym, ap, ◌∙◌}
use native.Mathlib.Nat.{eq-or-lt_of_le, not-suc-le-zero}
use native.Mathlib.Numerals.{add-one}
use native.Mathlib.Omega.{arith}
use borrow.Author.Tests.{eqb-true, eq-eqb}
use lib.Dec.{eqb}
use Rattle.laws.specs.Folds.{any_of, all_of}
use Rattle.laws.proofs.Booleans.{and_left, and_right, and_both, or_left, or_right, or_cases, or-false-left, or-false-right, or-false-both, decided, never_both, not-true-false}
use Rattle.laws.proofs.Indices.{last-or-below, same-or-apart}

-- ── Any fold ──

module _ {ℓ ℓ'} {A : Type ℓ} {B : Type ℓ'} (fold : (ℕ → A) → ℕ → B) where
  -- f = g below n, so fold f = fold g: from the start, and from one index to the next
  pub fold_same :
      ((f g : ℕ → A) → fold f 0 ≡ fold g 0) →
      ((f g : ℕ → A) (n : ℕ) → fold f n ≡ fold g n → f n ≡ g n → fold f (suc n) ≡ fold g (suc n)) →
      (f g : ℕ → A) (n : ℕ) →
      ((i : ℕ) → i < n → f i ≡ g i) →
      fold f n ≡ fold g n
  fold_same start next f g zero h = start f g
  fold_same start next f g (suc n) h = next f g n (fold_same start next f g n (λ i l. h i (omega arith))) (h n (omega arith))

  -- each entry is in the fold: the last one is, and what is in it stays
  pub fold_at :
      (P : A → B → Type 0) →
      ((f : ℕ → A) (n : ℕ) → P (f n) (fold f (suc n))) →
      ((f : ℕ → A) (n : ℕ) (a : A) → P a (fold f n) → P a (fold f (suc n))) →
      (f : ℕ → A) (n i : ℕ) →
      i < n →
      P (f i) (fold f n)
  fold_at P last more f zero i l = absurd (not-suc-le-zero l)
  fold_at P last more f (suc n) i l =
      ⊎_elim (λ (e : i ≡ n). rw e (last f n)) (λ (m : i < n). more f n (f i) (fold_at P last more f n i m)) (last-or-below l)

-- ── Some index passes ──

pub any_found : (f : ℕ → Bool) (n : ℕ) → any_of f n ≡ true → (i : ℕ) × (i < n) × (f i ≡ true)
unfolding any_of
any_found f zero h = absurd (true≢false (sym h))
any_found f (suc n) h =
    ⊎_elim
    (λ (p : any_of f n ≡ true). let w = any_found f n p in (w.0, omega (arith, w.1), w.2))
    (λ (p : f n ≡ true). (n, omega arith, p))
    (or_cases (any_of f n) (f n) h)

pub any_at : (f : ℕ → Bool) (n i : ℕ) → i < n → f i ≡ true → any_of f n ≡ true
unfolding any_of
any_at f n i l =
    fold_at any_of (λ t all. t ≡ true → all ≡ true) (λ f n p. or_right (any_of f n) p) (λ f n t below p. or_left (f n) (below p)) f n i l

pub any_none : (f : ℕ → Bool) (n : ℕ) → ((i : ℕ) → i < n → f i ≡ false) → any_of f n ≡ false
unfolding any_of
any_none f zero h = refl
any_none f (suc n) h = or-false-both (any_none f n (λ i l. h i (omega arith))) (h n (omega arith))

pub any_false : (f : ℕ → Bool) (n i : ℕ) → any_of f n ≡ false → i < n → f i ≡ false
unfolding any_of
any_false f n i h l =
    fold_at any_of (λ t all. all ≡ false → t ≡ false)
    (λ f n p. or-false-right (any_of f n) (f n) p)
    (λ f n t below p. below (or-false-left (any_of f n) (f n) p)) f n i l h

pub any_same : (f g : ℕ → Bool) (n : ℕ) → ((i : ℕ) → i < n → f i ≡ g i) → any_of f n ≡ any_of g n
unfolding any_of
any_same = fold_same any_of (λ f g. refl) (λ f g n front last. rw (front, last))

-- a test that passes at t as well, if the other does not
pub any-with :
    (f g : ℕ → Bool) (n t : ℕ) (s : Bool) →
    t < n →
    f t ≡ false →
    g t ≡ s →
    ((i : ℕ) → (i ≡ t → ⊥) → g i ≡ f i) →
    (any_of f n || s) ≡ any_of g n
any-with f g n t s l out own same =
    ⊎_elim
    (λ (e : s ≡ true). or_right (any_of f n) e ∙ sym (any_at g n t l (own ∙ e)))
    (λ (e : s ≡ false).
    rw e (or-false (any_of f n))
    ∙ any_same f g n
    (λ i k.
    ⊎_elim (λ (here : i ≡ t). rw here (out ∙ sym (own ∙ e))) (λ (apart : i ≡ t → ⊥). sym (same i apart)) (same-or-apart i t)))
    (decided s)

-- of the tests below n only that at k counts
pub any-only : (f : ℕ → Bool) (n k : ℕ) → k < n → any_of (λ i. eqb i k && f i) n ≡ f k
any-only f n k l =
    ⊎_elim
    (λ (e : f k ≡ true). any_at (λ i. eqb i k && f i) n k l (rw (eq-eqb k k refl, e)) ∙ sym e)
    (λ (e : f k ≡ false).
    any_none (λ i. eqb i k && f i) n
    (λ i m.
    ⊎_elim
    (λ (t : eqb i k ≡ true). rw t (ap f (eqb-true i k t) ∙ e))
    (λ (t : eqb i k ≡ false). rw t)
    (decided (eqb i k)))
    ∙ sym e)
    (decided (f k))

-- indices from n on that fail add nothing
pub any-past : (f : ℕ → Bool) (n m : ℕ) → n ≤ m → ((k : ℕ) → n ≤ k → k < m → f k ≡ false) → any_of f n ≡ any_of f m
unfolding any_of
any-past f n zero h fails = let last : n ≡ 0 = omega arith in rw last
any-past f n (suc m) h fails =
    ⊎_elim
    (λ (e : n ≡ suc m). rw e)
    (λ (l : n < suc m).
    any-past f n m (omega arith) (λ k a b. fails k a (omega arith))
    ∙ rw (fails m (omega arith) (omega arith)) (sym (or-false (any_of f m))))
    (eq-or-lt_of_le h)

-- two tests, one after the other, are one test of either
pub any-join : (f g : ℕ → Bool) (n : ℕ) → (any_of f n || any_of g n) ≡ any_of (λ i. f i || g i) n
unfolding any_of
any-join f g zero = refl
any-join f g (suc n) = swap (any_of f n) (f n) (any_of g n) (g n) ∙ rw (any-join f g n)
  where
    swap : (a b c d : Bool) → ((a || b) || (c || d)) ≡ ((a || c) || (b || d))
    swap true b c d = refl
    swap false true true d = refl
    swap false true false d = refl
    swap false false c d = refl

-- ── Every index passes ──

pub all-at : (f : ℕ → Bool) (n i : ℕ) → all_of f n ≡ true → i < n → f i ≡ true
unfolding all_of
all-at f n i h l =
    fold_at all_of (λ t all. all ≡ true → t ≡ true)
    (λ f n p. and_right (all_of f n) (f n) p)
    (λ f n t below p. below (and_left (all_of f n) (f n) p)) f n i l h

pub all-each : (f : ℕ → Bool) (n : ℕ) → ((i : ℕ) → i < n → f i ≡ true) → all_of f n ≡ true
unfolding all_of
all-each f zero h = refl
all-each f (suc n) h = and_both (all-each f n (λ i l. h i (omega arith))) (h n (omega arith))

-- one index that fails is enough
pub all-fails : (f : ℕ → Bool) (n i : ℕ) → i < n → f i ≡ false → false ≡ all_of f n
all-fails f n i l e = sym (not-true-false (all_of f n) (λ all. never_both (all-at f n i all l) e))

-- ── One index after the other, as a loop asks ──

pub one_more : (f : ℕ → Bool) (k : ℕ) {t u : Bool} → t ≡ any_of f k → u ≡ f k → (t || u) ≡ any_of f (k + 1)
unfolding any_of
one_more f k e same = rw (e, same, add-one k)

-- the first i of n indices are tested, and all says whether they all pass
pub record Tested (f : ℕ → Bool) (n : ℕ) (all : Bool) (i : ℕ) : Type 0 where
  pub within : i ≤ n
  pub passing : all ≡ all_of f i

module _ {f : ℕ → Bool} {n : ℕ} where
  pub tested-none : Tested f n true 0
  unfolding all_of
  tested-none = record { within = omega arith; passing = refl }

  pub tested-more : {i : ℕ} {all own : Bool} → Tested f n all i → i < n → own ≡ f i → Tested f n (all && own) (i + 1)
  unfolding all_of
  tested-more {i} h l e = record { within = omega arith; passing = rw (h.passing, e, add-one i) }

  pub tested-all : {i : ℕ} {all : Bool} → Tested f n all i → n ≤ i → all ≡ all_of f n
  tested-all {i} h l = let e : i ≡ n = omega (arith, h.within) in rw e at h.passing
