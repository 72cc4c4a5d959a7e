-- A word that is the sum of 2 ^ i over the indices below n that pass has the bits that pass and no others.
use Prim.Native.Nat.{ℕ, zero, suc, ◌+◌, ◌%◌, ◌^◌, ◌≤◌, ◌<◌}
use mathlib.Core.Bool.{Bool, true, false}
use mathlib.Core.Logic.{⊎_elim}
use mathlib.Core.Path.{◌≡◌, sym, ap, subst, ◌∙◌}
use native.Mathlib.Nat.{add-zero, add-div_right, div-eq_of_lt, pow-succ', not-suc-le-zero}
use native.Mathlib.Omega.{arith}
use lib.Pow.{pow_pos, low}
use Rattle.laws.specs.Bytes.{bit}
use Rattle.std.specs.Prelude.{if◌then◌else◌}
use Rattle.laws.specs.Folds.{sum_of}
use Rattle.laws.proofs.Indices.{last-or-below}
use Rattle.laws.proofs.Bits.{bit-above, bit-lower}

module _ (f : ℕ → Bool) where
  -- the word of the indices below n that pass
  abbrev pub word_of : ℕ → ℕ
  word_of n = sum_of (λ i. if f i then 2 ^ i else 0) n

  pub word_small : (n : ℕ) → word_of n < 2 ^ n
  unfolding sum_of
  word_small zero = omega arith
  word_small (suc n) = step (f n) (word_small n)
    where
      step : (t : Bool) → word_of n < 2 ^ n → word_of n + (if t then 2 ^ n else 0) < 2 ^ suc n
      step true h = omega (arith, pow-succ' 2 n)
      step false h = omega (arith, pow-succ' 2 n)

  -- the bit of the index that is added
  last_bit : (t : Bool) (n : ℕ) → bit n (word_of n + (if t then 2 ^ n else 0)) ≡ t
  unfolding bit
  last_bit true n = rw (add-div_right (word_of n) (pow_pos n), div-eq_of_lt (word_small n))
  last_bit false n = rw (add-zero (word_of n), div-eq_of_lt (word_small n))

  -- the bits below it
  lower-bit : (t : Bool) (n i : ℕ) → i < n → bit i (word_of n + (if t then 2 ^ n else 0)) ≡ bit i (word_of n)
  lower-bit true n i h =
      let cut : (word_of n + 2 ^ n) % 2 ^ n ≡ word_of n =
      ap (λ (x : ℕ). x % 2 ^ n) (omega arith) ∙ low 1 n (word_small n) in
      sym (bit-lower n i (word_of n + 2 ^ n) h) ∙ ap (bit i) cut
  lower-bit false n i h = ap (bit i) (add-zero (word_of n))

  pub word-bit : (n i : ℕ) → i < n → bit i (word_of n) ≡ f i
  unfolding sum_of
  word-bit zero i h = absurd (not-suc-le-zero h)
  word-bit (suc n) i h =
      ⊎_elim
      (λ (e : i ≡ n). subst (λ (j : ℕ). bit j (word_of (suc n)) ≡ f j) (sym e) (last_bit (f n) n))
      (λ (l : i < n). lower-bit (f n) n i l ∙ word-bit n i l)
      (last-or-below h)

  pub word-past : (n i : ℕ) → n ≤ i → bit i (word_of n) ≡ false
  word-past n i h = bit-above (word_of n) n i (word_small n) h
