-- The searches find the largest and the smallest number that passes, and there is only one of each: of two, the one that is
-- further out would have to fail.
use Prim.Native.Nat.{ℕ, zero, suc, ◌+◌, ◌≤◌, ◌<◌}
use mathlib.Core.Bool.{Bool, true, false}
use mathlib.Core.Logic.{⊎_elim}
use mathlib.Core.Path.{◌≡◌, refl, sym}
use native.Mathlib.Omega.{arith}
use native.Mathlib.Nat.{add-zero, add-suc, suc-add, eq-or-lt_of_le, le_antisymm}
use Rattle.std.specs.Prelude.{if◌then◌else◌, Option, Some, None, unwrap_or}
use Rattle.std.specs.Option.{MatchOption}
use Rattle.laws.proofs.Booleans.{never_both}
use Rattle.laws.proofs.Indices.{below-or-past, below_more, fails-to}
use Rattle.sheet_settings.specs.Extremes.{Largest, Smallest, largest_to, smallest_from}

-- ── Only one ──

pub largest-only : (p : ℕ → Bool) {a b : ℕ} → Largest p a → Largest p b → a ≡ b
largest-only p {a} {b} x y = le_antisymm (at_most x y) (at_most y x)
  where
    at_most : {a b : ℕ} → Largest p a → Largest p b → a ≤ b
    at_most {a} {b} x y = ⊎_elim (λ (l : b < a). absurd (never_both x.passed (y.none-greater a l))) (λ (l : a ≤ b). l) (below-or-past b a)

pub smallest-only : (p : ℕ → Bool) {a b : ℕ} → Smallest p a → Smallest p b → a ≡ b
smallest-only p {a} {b} x y = le_antisymm (at_most x y) (at_most y x)
  where
    at_most : {a b : ℕ} → Smallest p a → Smallest p b → a ≤ b
    at_most x y = fails-to p x.none-smaller y.passed

-- ── What the searches find ──

pub largest-found : (p : ℕ → Bool) (top : ℕ) → p 0 ≡ true → ((k : ℕ) → top < k → p k ≡ false) → Largest p (largest_to top p)
unfolding largest_to
largest-found p zero first past = record { passed = first; none-greater = past }
largest-found p (suc top) first past = go (p (suc top)) refl (largest-found p top first)
  where
    go :
        (t : Bool) → p (suc top) ≡ t →
        (((k : ℕ) → top < k → p k ≡ false) → Largest p (largest_to top p)) →
        Largest p (if t then suc top else largest_to top p)
    go true e below = record { passed = e; none-greater = past }
    go false e below =
        below
        (λ k l. ⊎_elim (λ (q : suc top ≡ k). rw (sym q) e) (λ (q : suc top < k). past k q) (eq-or-lt_of_le l))

pub smallest-found :
    (p : ℕ → Bool) (first tries : ℕ) →
    p (first + tries) ≡ true →
    ((k : ℕ) → k < first → p k ≡ false) →
    Smallest p (smallest_from first tries p)
unfolding smallest_from
smallest-found p first zero last before = record { passed = rw add-zero at last; none-smaller = before }
smallest-found p first (suc tries) last before =
    go (p first) refl (smallest-found p (suc first) tries (rw (add-suc, ← suc-add) at last))
  where
    go :
        (t : Bool) → p first ≡ t →
        (((k : ℕ) → k < suc first → p k ≡ false) → Smallest p (smallest_from (suc first) tries p)) →
        Smallest p (if t then first else smallest_from (suc first) tries p)
    go true e after = record { passed = e; none-smaller = before }
    go false e after = after (below_more (λ k. p k ≡ false) first before e)

-- what `find` tells of the numbers below one that passes, which is the answer where none of them does
pub first-smallest :
    (p : ℕ → Bool) (last : ℕ) (r : Option ℕ) →
    p last ≡ true →
    MatchOption r
    ((k : ℕ) → 0 ≤ k → k < last → k ≤ last → p k ≡ false)
    (λ i. (0 ≤ i) × (i < last) × (i ≤ last → p i ≡ true) × ((k : ℕ) → 0 ≤ k → k < i → k ≤ last → p k ≡ false)) →
    Smallest p (unwrap_or r last)
first-smallest p last None passes f = record { passed = passes; none-smaller = λ k l. f k (omega arith) l (omega arith) }
first-smallest p last (Some i) passes f =
    let here : i < last = f.1 in
    record { passed = f.2 (omega arith); none-smaller = λ k l. f.3 k (omega arith) l (omega arith) }
