-- Tables that are computed: one computation over all indices below n shows a rule at each of them.
use Prim.Native.Nat.{ℕ, ◌<◌}
use mathlib.Core.Bool.{Bool, true, false, not}
use mathlib.Core.Path.{◌≡◌, sym}
use borrow.Author.Tests.{eqb-true, not-true}
use lib.Dec.{eqb}
use Rattle.laws.specs.Folds.{all_of}
use Rattle.laws.proofs.Folds.{all-at}

-- whether two tests agree
abbrev pub agree : Bool → Bool → Bool
agree true t = t
agree false t = not t

agree_same : (s t : Bool) → agree s t ≡ true → s ≡ t
agree_same true t h = sym h
agree_same false t h = sym (not-true t h)

-- A row of n. The premise is `refl` where the table is computed.

-- a test
pub table-holds : (test : ℕ → Bool) (n : ℕ) → all_of test n ≡ true → (i : ℕ) → i < n → test i ≡ true
table-holds test n h i l = all-at test n i h l

-- two tests
pub table_same : (f g : ℕ → Bool) (n : ℕ) → all_of (λ i. agree (f i) (g i)) n ≡ true → (i : ℕ) → i < n → f i ≡ g i
table_same f g n h i l = agree_same (f i) (g i) (all-at (λ i. agree (f i) (g i)) n i h l)

-- two numbers
pub table-equal : (f g : ℕ → ℕ) (n : ℕ) → all_of (λ i. eqb (f i) (g i)) n ≡ true → (i : ℕ) → i < n → f i ≡ g i
table-equal f g n h i l = eqb-true (f i) (g i) (all-at (λ i. eqb (f i) (g i)) n i h l)

-- n rows of m

pub grid-holds :
    (test : ℕ → ℕ → Bool) (n m : ℕ) → all_of (λ i. all_of (test i) m) n ≡ true → (i j : ℕ) → i < n → j < m → test i j ≡ true
grid-holds test n m h i j l k = all-at (test i) m j (all-at (λ i. all_of (test i) m) n i h l) k

pub grid-same :
    (f g : ℕ → ℕ → Bool) (n m : ℕ) →
    all_of (λ i. all_of (λ j. agree (f i j) (g i j)) m) n ≡ true →
    (i j : ℕ) →
    i < n →
    j < m →
    f i j ≡ g i j
grid-same f g n m h i j l k = agree_same (f i j) (g i j) (grid-holds (λ i j. agree (f i j) (g i j)) n m h i j l k)
