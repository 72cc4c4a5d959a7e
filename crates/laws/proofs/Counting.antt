-- How many indices below n pass: one more past each that passes, so the count before one is its number among them.
use Prim.Native.Nat.{ℕ, zero, suc, ◌+◌, ◌≤◌, ◌<◌}
use mathlib.Core.Bool.{Bool, true, false}
use mathlib.Core.List.{List, [], ◌∷◌, ◌++◌, append-nil}
use mathlib.Core.Logic.{⊎_elim}
use mathlib.Core.Path.{◌≡◌, refl, sym, subst, ◌∙◌}
use lib.Dec.{eqb}
use lib.ListN.{length, get_or, length-append, get_or-append}
use lib.Seq.{get_or_at}
use native.Mathlib.Nat.{not-suc-le-zero, eq-or-lt_of_le}
use native.Mathlib.Numerals.{add-one}
use native.Mathlib.Omega.{arith}
use borrow.Author.Tests.{eqb-true}
use Rattle.std.specs.Prelude.{if◌then◌else◌}
use Rattle.laws.specs.Folds.{any_of, count_of, sum_of, indices_of}
use Rattle.laws.proofs.Folds.{fold_same, any_found}
use Rattle.laws.proofs.Indices.{last-or-below, below-or-past}
use Rattle.laws.proofs.Sums.{sum-within, sum_both, sum-least-with}

-- ── One more index ──

pub count-passed : (f : ℕ → Bool) (n : ℕ) → f n ≡ true → count_of f (suc n) ≡ suc (count_of f n)
unfolding count_of
count-passed f n e = rw e (omega arith)

pub count-failed : (f : ℕ → Bool) (n : ℕ) → f n ≡ false → count_of f (suc n) ≡ count_of f n
unfolding count_of
count-failed f n e = rw e (omega arith)

-- of a running count k
pub count-one-more : (f : ℕ → Bool) (i : ℕ) {k : ℕ} → k ≡ count_of f i → f i ≡ true → k + 1 ≡ count_of f (i + 1)
count-one-more f i e t = rw (add-one i, count-passed f i t, e, add-one)

pub count-as-before : (f : ℕ → Bool) (i : ℕ) {k : ℕ} → k ≡ count_of f i → f i ≡ false → k ≡ count_of f (i + 1)
count-as-before f i e t = rw (add-one i, count-failed f i t) e

count-more : (f : ℕ → Bool) (n : ℕ) → count_of f n ≤ count_of f (suc n)
unfolding count_of
count-more f n = omega arith

pub count_most : (f : ℕ → Bool) (n : ℕ) → count_of f n ≤ n
unfolding count_of
count_most f zero = omega arith
count_most f (suc n) = step (f n) (count_most f n)
  where
    step : (t : Bool) → count_of f n ≤ n → count_of f n + (if t then 1 else 0) ≤ suc n
    step true h = omega arith
    step false h = omega arith

-- ── An index that passes ──

pub count-before : (f : ℕ → Bool) (i n : ℕ) → i < n → f i ≡ true → count_of f i < count_of f n
count-before f i zero h p = absurd (not-suc-le-zero h)
count-before f i (suc n) h p =
    ⊎_elim
    (λ (e : i ≡ n). rw e (omega (arith, count-passed f n (rw e at p))))
    (λ (l : i < n). omega (arith, count-before f i n l p, count-more f n))
    (last-or-below h)

-- two indices that pass with as many before each are the same
pub count-apart : (f : ℕ → Bool) (i j : ℕ) → f i ≡ true → f j ≡ true → count_of f i ≡ count_of f j → i ≡ j
count-apart f i j p q e =
    ⊎_elim
    (λ (l : i < j). omega (arith, count-before f i j l p))
    (λ (l : j ≤ i).
    ⊎_elim
    (λ (m : j ≡ i). sym m)
    (λ (m : j < i). omega (arith, count-before f j i m q))
    (eq-or-lt_of_le l))
    (below-or-past i j)

pub count_same : (f g : ℕ → Bool) (n : ℕ) → ((i : ℕ) → i < n → f i ≡ g i) → count_of f n ≡ count_of g n
unfolding count_of
count_same = fold_same count_of (λ f g. refl) (λ f g n front last. rw (front, last))

-- ── The indices that pass ──

pub indices-length : (f : ℕ → Bool) (n : ℕ) → length (indices_of f n) ≡ count_of f n
unfolding indices_of count_of
indices-length f zero = refl
indices-length f (suc n) = step (f n) (indices-length f n)
  where
    step :
        (t : Bool) →
        length (indices_of f n) ≡ count_of f n →
        length (indices_of f n ++ (if t then n ∷ [] else [])) ≡ count_of f n + (if t then 1 else 0)
    step true h = length-append (indices_of f n) (n ∷ []) ∙ omega arith
    step false h = length-append (indices_of f n) [] ∙ omega arith

-- ith of the indices that pass: it is below n, passes, and has i passing ones before it
abbrev pub IthPassing : (ℕ → Bool) → ℕ → ℕ → ℕ → Type 0
IthPassing f n i at = (at < n) × (f at ≡ true) × (count_of f at ≡ i)

pub indices-at : (f : ℕ → Bool) (n i : ℕ) → i < count_of f n → IthPassing f n i (get_or (indices_of f n) i 0)
unfolding indices_of count_of
indices-at f zero i h = absurd (not-suc-le-zero h)
indices-at f (suc n) i h = step (f n) refl (indices-at f n i) (indices-length f n) h
  where
    wider : (at : ℕ) → IthPassing f n i at → IthPassing f (suc n) i at
    wider at w = (omega (arith, w.0), w.1, w.2)

    step :
        (t : Bool) →
        f n ≡ t →
        (i < count_of f n → IthPassing f n i (get_or (indices_of f n) i 0)) →
        length (indices_of f n) ≡ count_of f n →
        i < count_of f n + (if t then 1 else 0) →
        IthPassing f (suc n) i (get_or (indices_of f n ++ (if t then n ∷ [] else [])) i 0)
    step false e found len l =
        subst (λ (xs : List ℕ). IthPassing f (suc n) i (get_or xs i 0)) (sym (append-nil (indices_of f n)))
        (wider (get_or (indices_of f n) i 0) (found (omega arith)))
    step true e found len l =
        ⊎_elim
        (λ (q : i ≡ count_of f n).
        subst (λ (at : ℕ). IthPassing f (suc n) i at) (sym (get_or_at (indices_of f n) n [] 0 i (len ∙ sym q)))
        (omega arith, e, sym q))
        (λ (q : i < count_of f n).
        subst (λ (at : ℕ). IthPassing f (suc n) i at)
        (sym (get_or-append (indices_of f n) (n ∷ []) 0 i (omega arith)))
        (wider (get_or (indices_of f n) i 0) (found q)))
        (last-or-below (omega arith))

-- ── How many pass ──

-- no index that passes has m before it, so at most m pass
pub count-within :
    (f : ℕ → Bool) (n m : ℕ) →
    ((i : ℕ) → i < n → f i ≡ true → count_of f i ≡ m → ⊥) →
    count_of f n ≤ m
unfolding count_of
count-within f zero m h = omega arith
count-within f (suc n) m h = step (f n) refl (count-within f n m (λ i l. h i (omega arith)))
  where
    step : (t : Bool) → f n ≡ t → count_of f n ≤ m → count_of f (suc n) ≤ m
    step false e l = omega (arith, count-failed f n e)
    step true e l =
        ⊎_elim
        (λ (q : count_of f n ≡ m). absurd (h n (omega arith) e q))
        (λ (q : count_of f n < m). omega (arith, count-passed f n e))
        (eq-or-lt_of_le l)

-- at most one index passes if any two that pass are the same
count-few : (f : ℕ → Bool) (n : ℕ) → ((i j : ℕ) → f i ≡ true → f j ≡ true → i ≡ j) → count_of f n ≤ 1
count-few f n same =
    count-within f n 1
    (λ i l p e.
    let first = indices-at f i 0 (omega arith) in
    omega (arith, same i (get_or (indices_of f i) 0 0) p first.1, first.0))

-- a count is a sum of ones
count-sum : (f : ℕ → Bool) (n : ℕ) → sum_of (λ i. if f i then 1 else 0) n ≡ count_of f n
unfolding sum_of count_of
count-sum f zero = refl
count-sum f (suc n) = omega (arith, count-sum f n)

-- the one index below n that passes
abbrev pub OnlyPassing : (ℕ → Bool) → ℕ → Type 0
OnlyPassing f n = (i : ℕ) × (i < n) × (f i ≡ true) × ((j : ℕ) → j < n → f j ≡ true → j ≡ i)

pub count-one : (f : ℕ → Bool) (n : ℕ) → count_of f n ≡ 1 → OnlyPassing f n
count-one f n e =
    let at = get_or (indices_of f n) 0 0 in
    let found = indices-at f n 0 (omega arith) in
    (at, found.0, found.1, λ j l p. count-apart f j at p found.1 (omega (arith, count-before f j n l p, found.2)))

-- the only index that passes is counted once
pub count-only : (f : ℕ → Bool) (n i : ℕ) → i < n → f i ≡ true → ((j : ℕ) → f j ≡ true → j ≡ i) → count_of f n ≡ 1
count-only f n i l passes only = omega (arith, count-before f i n l passes, count-few f n (λ j k p q. only j p ∙ sym (only k q)))

-- ── As many entries as indices ──

-- an entry counts for one index at most, so all together count at most once for each of the m entries
entries-most : (f : ℕ → ℕ) (n m : ℕ) → sum_of (λ q. count_of (λ i. eqb (f i) q) m) n ≤ m
unfolding count_of
entries-most f n zero = omega (arith, sum-within (λ q. 0) n 0 (λ q l. omega arith))
entries-most f n (suc m) =
    omega (
      arith,
      sum_both (λ q. count_of (λ i. eqb (f i) q) m) (λ q. if eqb (f m) q then 1 else 0) (λ q. count_of (λ i. eqb (f i) q) (suc m)) n
          (λ q. refl),
      entries-most f n m,
      count-sum (eqb (f m)) n,
      count-few (eqb (f m)) n (λ j k p q. sym (eqb-true (f m) j p) ∙ eqb-true (f m) k q),
    )

-- n entries, among which each index below n is: each is among them once
pub listed-once :
    (f : ℕ → ℕ) (n : ℕ) →
    ((q : ℕ) → q < n → any_of (λ i. eqb (f i) q) n ≡ true) →
    (q : ℕ) →
    q < n →
    count_of (λ i. eqb (f i) q) n ≡ 1
listed-once f n all q l =
    omega (arith, some q l, sum-least-with (λ q. count_of (λ i. eqb (f i) q) n) n q l some, entries-most f n n)
  where
    some : (q : ℕ) → q < n → 1 ≤ count_of (λ i. eqb (f i) q) n
    some q l =
        let found = any_found _ n (all q l) in
        omega (arith, count-before (λ i. eqb (f i) q) found.0 n found.1 found.2)
