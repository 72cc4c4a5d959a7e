-- The set of the indices below k that pass, one more after each turn of a loop.
use Prim.Native.Nat.{ℕ, ◌+◌, ◌<◌, ◌≤◌}
use mathlib.Core.Bool.{Bool, true, false, ◌&&◌, ◌||◌, and-true, and-false, or-false}
use mathlib.Core.Logic.{⊎_elim}
use mathlib.Core.Path.{◌≡◌, sym, ◌∙◌}
use native.Mathlib.Omega.{arith}
use lib.Dec.{ltb, eqb}
use borrow.Author.Tests.{lt-ltb, le-ltb, eq-eqb, ne_eqb}
use Rattle.laws.specs.Bytes.{bit}
use Rattle.laws.specs.Folds.{set_of}
use Rattle.laws.proofs.Bits.{bit-blank}
use Rattle.laws.proofs.ByteSets.{bit-set, set_same, set_told}
use Rattle.laws.proofs.Indices.{below-or-past, same-or-apart}

module _ (f : ℕ → Bool) where
  abbrev pub first_passing : ℕ → ℕ → Bool
  first_passing k i = ltb i k && f i

  pub passing-none : 0 ≡ set_of (first_passing 0)
  passing-none = set_told (first_passing 0) 0 (omega arith) (λ i l. bit-blank i ∙ rw (le-ltb i 0 (omega arith)))

  pub passing-all : {set k : ℕ} → set ≡ set_of (first_passing k) → 8 ≤ k → set ≡ set_of f
  passing-all {k = k} e h = e ∙ set_same (first_passing k) f (λ i l. rw (lt-ltb i k (omega arith)))

  one_more : (k i : ℕ) → (first_passing k i || (f k && eqb i k)) ≡ first_passing (k + 1) i
  one_more k i =
      ⊎_elim
      (λ (h : i < k). rw (lt-ltb i k h, lt-ltb i (k + 1) (omega arith), ne_eqb i k (λ m. omega arith), and-false (f k)) (or-false (f i)))
      (λ (h : k ≤ i).
      ⊎_elim
      (λ (m : i ≡ k). rw (le-ltb i k h, lt-ltb i (k + 1) (omega arith), eq-eqb i k m, m) (and-true (f k)))
      (λ (m : i ≡ k → ⊥). rw (le-ltb i k h, le-ltb i (k + 1) (omega arith), ne_eqb i k m) (and-false (f k)))
      (same-or-apart i k))
      (below-or-past i k)

  -- index k fails
  pub passing-same : {set : ℕ} (k : ℕ) → set ≡ set_of (first_passing k) → f k ≡ false → set ≡ set_of (first_passing (k + 1))
  passing-same k e fails = e ∙ set_same _ _ (λ i l. sym (or-false (first_passing k i)) ∙ rw fails at (one_more k i))

  -- it passes
  pub passing-more :
      {set next : ℕ} (k : ℕ) →
      set ≡ set_of (first_passing k) →
      f k ≡ true →
      next ≡ set_of (λ i. bit i set || eqb i k) →
      next ≡ set_of (first_passing (k + 1))
  passing-more k e passes n = n ∙ set_same _ _ (λ i l. rw (e, bit-set (first_passing k) i l) (rw passes at (one_more k i)))
