-- Sums over the entries of a list of numbers; how often a number is in a list is such a sum.
use Prim.Native.Nat.{ℕ, zero, suc, ◌+◌, ◌≤◌, ◌<◌}
use mathlib.Core.List.{List, [], ◌∷◌, ◌++◌}
use mathlib.Core.Path.{◌≡◌, refl}
use native.Mathlib.Omega.{arith}
use borrow.Author.Tests.{eq-eqb, ne_eqb}
use lib.Dec.{eqb}
use lib.ListN.{length}
use Rattle.std.specs.Prelude.{if◌then◌else◌}
use Rattle.laws.specs.Folds.{sum_of}

-- the sum of f over the entries
unfoldable pub total : (ℕ → ℕ) → List ℕ → ℕ
total f [] = 0
total f (x ∷ l) = f x + total f l

-- 1 at q, and 0 elsewhere
unfoldable pub one : ℕ → ℕ → ℕ
one q x = if eqb x q then 1 else 0

-- how many entries are q
abbrev pub places : ℕ → List ℕ → ℕ
places q l = total (one q) l

-- q is in the list
pub record In (q : ℕ) (l : List ℕ) : Type 0 where
  pub found : 0 < places q l

pub one-own : (q : ℕ) → one q q ≡ 1
unfolding one
one-own q = rw (eq-eqb q q refl)

pub one-other : {q x : ℕ} → (x ≡ q → ⊥) → one q x ≡ 0
unfolding one
one-other {q} {x} ne = rw (ne_eqb x q ne)

pub total-append : (f : ℕ → ℕ) (l m : List ℕ) → total f (l ++ m) ≡ total f l + total f m
unfolding total
total-append f [] m = omega arith
total-append f (x ∷ l) m = omega (arith, total-append f l m)

pub total-ones : (l : List ℕ) → total (λ x. 1) l ≡ length l
unfolding total
total-ones [] = refl
total-ones (x ∷ l) = omega (arith, total-ones l)

-- by index, a number is not counted below itself
pub sum-of-one : (q n : ℕ) → n ≤ q → sum_of (one q) n ≡ 0
unfolding sum_of
sum-of-one q zero h = refl
sum-of-one q (suc n) h = omega (arith, sum-of-one q n (omega arith), one-other {q = q} {x = n} (omega arith))

pub in-none : {q : ℕ} → In q [] → ⊥
unfolding total
in-none i = omega arith

pub in-first : (q : ℕ) (l : List ℕ) → In q (q ∷ l)
unfolding total
in-first q l = record { found = omega (arith, one-own q) }

pub in-later : {q : ℕ} (x : ℕ) {l : List ℕ} → In q l → In q (x ∷ l)
unfolding total
in-later x i = record { found = omega arith }

pub later-in : {q x : ℕ} {l : List ℕ} → In q (x ∷ l) → (x ≡ q → ⊥) → In q l
unfolding total
later-in i ne = record { found = omega (arith, one-other ne) }
