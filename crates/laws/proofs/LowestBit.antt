-- The lowest bit of a word and the rest: a pass that takes the lowest bit of what is left takes each bit once.
use Prim.Native.Nat.{ℕ, zero, suc, ◌-◌, ◌*◌, ◌/◌, ◌%◌, ◌^◌, ◌≤◌, ◌<◌}
use mathlib.Core.Bool.{Bool, true, false, not, ◌&&◌, and-true, and-false, and-not_self}
use mathlib.Core.Logic.{⊎_elim}
use mathlib.Core.Path.{◌≡◌, refl, sym, ◌∙◌}
use native.Mathlib.Nat.{pow-succ', lt_of_lt_of_le}
use native.Mathlib.Omega.{arith}
use lib.Bits.{bit_and, and_step, and_self, and_le_r}
use lib.Count.{count_trailing_zeros, under}
use lib.Dec.{eqb}
use lib.Pow.{pow_mono}
use borrow.Author.Tests.{ne_eqb, eq-eqb}
use Rattle.laws.specs.Bytes.{bit}
use Rattle.laws.proofs.Booleans.{and_left}
use Rattle.laws.proofs.Indices.{same-or-apart, eqb-suc}
use Rattle.laws.proofs.Bits.{bit-blank, bit_below, even-bit, odd-bit, half-bit}

-- ── Without the lowest bit ──

below_one : (x : ℕ) → 0 < x → x < 1 → ⊥
below_one x h l = omega arith

lowest_set : (k x : ℕ) → 0 < x → x < 2 ^ k → bit (count_trailing_zeros k x) x ≡ true
unfolding count_trailing_zeros
lowest_set zero x h l = absurd (below_one x h l)
lowest_set (suc k) x h l = go (x % 2) refl (λ e. lowest_set k (x / 2) (omega (arith, e)) (omega (arith, pow-succ' 2 k)))
  where
    go : (r : ℕ) → x % 2 ≡ r → (x % 2 ≡ 0 → bit (count_trailing_zeros k (x / 2)) (x / 2) ≡ true) → bit (under r (count_trailing_zeros k (x / 2))) x ≡ true
    go zero e ih = half-bit (count_trailing_zeros k (x / 2)) x ∙ ih e
    go (suc r) e ih = odd-bit x (omega (arith, e))

-- one less than an odd number, and than an even one
odd-less : (x r : ℕ) → x % 2 ≡ suc r → bit_and x (x - 1) ≡ x / 2 * 2
odd-less x r e =
    let same : (x - 1) / 2 ≡ x / 2 = omega (arith, e) in
    let even : (x - 1) % 2 ≡ 0 = omega (arith, e) in
    and_step x (x - 1) ∙ rw (same, even) (omega (arith, and_self (x / 2)))

even-less : (x : ℕ) → 0 < x → x % 2 ≡ 0 → bit_and x (x - 1) ≡ bit_and (x / 2) (x / 2 - 1) * 2
even-less x h e =
    let same : (x - 1) / 2 ≡ x / 2 - 1 = omega (arith, e) in
    and_step x (x - 1) ∙ rw (same, e) (omega arith)

without-lowest :
    (k x i : ℕ) →
    0 < x →
    x < 2 ^ k →
    bit i (bit_and x (x - 1)) ≡ (bit i x && not (eqb i (count_trailing_zeros k x)))
unfolding count_trailing_zeros
without-lowest zero x i h l = absurd (below_one x h l)
without-lowest (suc k) x i h l = go (x % 2) refl i (λ e j. without-lowest k (x / 2) j (omega (arith, e)) (omega (arith, pow-succ' 2 k)))
  where
    double : (y : ℕ) → y * 2 / 2 ≡ y
    double y = omega arith

    go :
        (r : ℕ) → x % 2 ≡ r → (i : ℕ) →
        (x % 2 ≡ 0 → (j : ℕ) → bit j (bit_and (x / 2) (x / 2 - 1)) ≡ (bit j (x / 2) && not (eqb j (count_trailing_zeros k (x / 2))))) →
        bit i (bit_and x (x - 1)) ≡ (bit i x && not (eqb i (under r (count_trailing_zeros k (x / 2)))))
    go zero e zero ih =
        rw (even-less x h e, even-bit x e) (even-bit (bit_and (x / 2) (x / 2 - 1) * 2) (omega arith))
    go zero e (suc i) ih =
        rw (
          even-less x h e,
          half-bit i (bit_and (x / 2) (x / 2 - 1) * 2),
          double (bit_and (x / 2) (x / 2 - 1)),
          half-bit i x,
          eqb-suc i (count_trailing_zeros k (x / 2)),
        )
        (ih e i)
    go (suc r) e zero ih = rw (odd-less x r e, odd-bit x (omega (arith, e))) (even-bit (x / 2 * 2) (omega arith))
    go (suc r) e (suc i) ih =
        let apart : eqb (suc i) 0 ≡ false = ne_eqb (suc i) 0 (λ z. omega (arith, z)) in
        rw (odd-less x r e, half-bit i (x / 2 * 2), double (x / 2), half-bit i x, apart) (sym (and-true (bit i (x / 2))))

-- the place of the lowest bit of a word, and the word without it
abbrev pub lowest : ℕ → ℕ
lowest word = count_trailing_zeros 64 word

abbrev pub others : ℕ → ℕ
others word = bit_and word (word - 1)

module _ (word : ℕ) (some : 0 < word) (room : word < 2 ^ 64) where
  lowest-in : bit (lowest word) word ≡ true
  lowest-in = lowest_set 64 word some room

  others-in : (i : ℕ) → bit i (others word) ≡ (bit i word && not (eqb i (lowest word)))
  others-in i = without-lowest 64 word i some room

  lowest-gone : bit (lowest word) (others word) ≡ false
  lowest-gone = others-in (lowest word) ∙ rw (lowest-in, eq-eqb (lowest word) (lowest word) refl)

  others_same : (i : ℕ) → (i ≡ lowest word → ⊥) → bit i (others word) ≡ bit i word
  others_same i apart = others-in i ∙ rw (ne_eqb i (lowest word) apart) (and-true (bit i word))

-- ── A pass over the bits of a word, the lowest first ──

-- bit i of the word is taken: it is no longer in the rest
unfoldable pub taken : ℕ → ℕ → ℕ → Bool
taken word rest i = bit i word && not (bit i rest)

-- the rest has n bits, each of them one of the word's
pub record Left (word n rest : ℕ) : Type 0 where
  pub within : rest < 2 ^ n
  pub left : (i : ℕ) → bit i rest ≡ true → bit i word ≡ true

pub left-all : (word n : ℕ) → word < 2 ^ n → Left word n word
left-all word n within = record { within = within; left = λ i e. e }

pub taken_none : (word i : ℕ) → taken word word i ≡ false
unfolding taken
taken_none word i = and-not_self (bit i word)

pub taken-all : (word i : ℕ) {rest : ℕ} → rest ≡ 0 → taken word rest i ≡ bit i word
unfolding taken
taken-all word i e = rw (e, bit-blank i) (and-true (bit i word))

-- a turn takes the lowest bit of the rest
module _ {word n rest : ℕ} (known : Left word n rest) (some : 0 < rest) (few : n ≤ 64) where
  room : rest < 2 ^ 64
  room = lt_of_lt_of_le known.within (pow_mono few)

  -- it is one of the word's
  pub next-left : bit (lowest rest) word ≡ true
  next-left = known.left (lowest rest) (lowest-in rest some room)

  pub next-within : lowest rest < n
  next-within = bit_below rest n (lowest rest) known.within (lowest-in rest some room)

  pub left_less : others rest < rest
  left_less = omega (arith, and_le_r rest (rest - 1))

  pub left-more : Left word n (others rest)
  left-more =
      record {
        within = lt_of_lt_of_le left_less (omega (arith, known.within));
        left = λ i e. known.left i (and_left (bit i rest) (not (eqb i (lowest rest))) (sym (others-in rest some room i) ∙ e));
      }

  pub next-untaken : taken word rest (lowest rest) ≡ false
  unfolding taken
  next-untaken = rw (lowest-in rest some room, next-left)

  pub next-taken : taken word (others rest) (lowest rest) ≡ true
  unfolding taken
  next-taken = rw (lowest-gone rest some room, next-left)

  pub taken-other : (i : ℕ) → (i ≡ lowest rest → ⊥) → taken word (others rest) i ≡ taken word rest i
  unfolding taken
  taken-other i apart = rw (others_same rest some room i apart)

-- ── Of the bits taken, those that pass a test ──

abbrev pub counted : ℕ → (ℕ → Bool) → ℕ → ℕ → Bool
counted word passes rest i = taken word rest i && passes i

module _ {word n rest : ℕ} (known : Left word n rest) (some : 0 < rest) (few : n ≤ 64) (passes : ℕ → Bool) where
  pub counted-other : (i : ℕ) → (i ≡ lowest rest → ⊥) → counted word passes (others rest) i ≡ counted word passes rest i
  counted-other i apart = rw (taken-other known some few i apart)

  pub counted-own : passes (lowest rest) ≡ true → counted word passes (others rest) (lowest rest) ≡ true
  counted-own e = rw (next-taken known some few, e)

  -- a bit that fails alters nothing
  pub counted_same : passes (lowest rest) ≡ false → (i : ℕ) → counted word passes rest i ≡ counted word passes (others rest) i
  counted_same e i =
      ⊎_elim
      (λ (here : i ≡ lowest rest).
      rw (here, e) (and-false (taken word rest (lowest rest)) ∙ sym (and-false (taken word (others rest) (lowest rest)))))
      (λ (apart : i ≡ lowest rest → ⊥). sym (counted-other i apart))
      (same-or-apart i (lowest rest))
