-- A byte as the set of its bits: the members of a set, of a union, and of a set with one member more or less.
use Prim.Native.Nat.{ℕ, ◌-◌, ◌*◌, ◌/◌, ◌%◌, ◌^◌, ◌≤◌, ◌<◌}
use mathlib.Core.Bool.{Bool, true, false, not, ◌&&◌, ◌||◌}
use mathlib.Core.Logic.{◌⊎◌, inl, inr, ⊎_elim}
use mathlib.Core.Path.{◌≡◌, refl, sym, ◌∙◌}
use native.Mathlib.Nat.{mod-lt, lt_of_le_of_lt}
use native.Mathlib.Omega.{arith}
use lib.Bits.{bit_and, bit_or, and_le_l, or_lt}
use lib.Dec.{eqb, ltb}
use borrow.Author.Tests.{eqb-true, eqb-false, lt-ltb, le-ltb}
use Rattle.laws.specs.Bytes.{bit}
use Rattle.laws.specs.Folds.{all_of, set_of}
use Rattle.laws.proofs.Booleans.{decided, never_both, not-true-false}
use Rattle.laws.proofs.Indices.{below-or-past, eqb-turned}
use Rattle.laws.proofs.Folds.{all-at, all-each}
use Rattle.laws.proofs.Sums.{sum_same}
use Rattle.laws.proofs.Tables.{grid-same}
use Rattle.laws.proofs.Bits.{same_bits, bit-one}
use Rattle.laws.proofs.BitRanges.{no-bits-from, bit-from, shifted}
use Rattle.laws.proofs.JoinedBits.{bit-and, bit-or}
use Rattle.laws.proofs.Words.{word_small, word-bit}

-- ── The members of a set ──

module _ (f : ℕ → Bool) where
  pub set-small : set_of f < 256
  unfolding set_of
  set-small = word_small f 8

  pub bit-set : (i : ℕ) → i < 8 → bit i (set_of f) ≡ f i
  unfolding set_of
  bit-set i h = word-bit f 8 i h

pub set_same : (f g : ℕ → Bool) → ((i : ℕ) → i < 8 → f i ≡ g i) → set_of f ≡ set_of g
unfolding set_of
set_same f g same = sum_same _ _ 8 (λ i l. rw (same i l))

-- ── A byte with the members of a set ──

pub set_told : (f : ℕ → Bool) (x : ℕ) → x < 256 → ((i : ℕ) → i < 8 → bit i x ≡ f i) → x ≡ set_of f
set_told f x small told = same_bits 8 x (set_of f) small (set-small f) (λ i l. told i l ∙ sym (bit-set f i l))

pub self-told : (x : ℕ) → x < 256 → x ≡ set_of (λ i. bit i x)
self-told x small = set_told (λ i. bit i x) x small (λ i l. refl)

-- the members of either
pub union-told : (f g : ℕ → Bool) (x y : ℕ) → x ≡ set_of f → y ≡ set_of g → bit_or x y ≡ set_of (λ i. f i || g i)
union-told f g x y e k =
    set_told (λ i. f i || g i) (bit_or x y) (rw (e, k) (or_lt 8 (set_of f) (set_of g) (set-small f) (set-small g)))
    (λ i l. rw (e, k) (bit-or i (set_of f) (set_of g) ∙ rw (bit-set f i l, bit-set g i l)))

-- every member is below the count if no bit is left from there on
pub below-told : (set count : ℕ) → set < 256 → eqb (set / 2 ^ count) 0 ≡ all_of (λ i. not (bit i set) || ltb i count) 8
below-told set count small =
    ⊎_elim
    (λ (e : eqb (set / 2 ^ count) 0 ≡ true). e ∙ sym (all-each _ 8 (λ i l. inside i (eqb-true _ 0 e) (decided (bit i set)))))
    (λ (e : eqb (set / 2 ^ count) 0 ≡ false).
    e ∙ sym (not-true-false _ (λ all. eqb-false _ 0 e (no-bits-from count 8 set small (λ i past l. outside i past (all-at _ 8 i all l))))))
    (decided (eqb (set / 2 ^ count) 0))
  where
    inside : (i : ℕ) → set / 2 ^ count ≡ 0 → (bit i set ≡ true) ⊎ (bit i set ≡ false) → (not (bit i set) || ltb i count) ≡ true
    inside i none (inl e) =
        rw e
        (⊎_elim (λ (l : i < count). lt-ltb i count l) (λ (past : count ≤ i). absurd (bit-from count i set past e none)) (below-or-past i count))
    inside i none (inr e) = rw e

    outside : (i : ℕ) → count ≤ i → (not (bit i set) || ltb i count) ≡ true → bit i set ≡ false
    outside i past h = not-true-false (bit i set) (λ e. never_both (rw e at h) (le-ltb i count past))

-- ── A byte with all bits but one, and with every bit turned ──

bit-others : (k p : ℕ) → k < 8 → p < 8 → bit p (255 - 1 * 2 ^ k % 256) ≡ not (eqb p k)
unfolding bit all_of
bit-others = grid-same (λ k p. bit p (255 - 1 * 2 ^ k % 256)) (λ k p. not (eqb p k)) 8 8 refl

bit-flipped : (x p : ℕ) → x < 256 → p < 8 → bit p (255 - x) ≡ not (bit p x)
unfolding bit all_of
bit-flipped = grid-same (λ x p. bit p (255 - x)) (λ x p. not (bit p x)) 256 8 refl

-- ── One member more, one less, and all of another set less ──

pub with-told : (set k : ℕ) → set < 256 → k < 8 → bit_or set (1 * 2 ^ k % 256) ≡ set_of (λ i. bit i set || eqb i k)
with-told set k small l =
    set_told (λ i. bit i set || eqb i k) _ (or_lt 8 set (1 * 2 ^ k % 256) small (mod-lt (1 * 2 ^ k) (omega arith)))
    (λ i m. rw (shifted 8 k l, bit-or i set (1 * 2 ^ k), bit-one k i, eqb-turned k i))

pub without-told : (set k : ℕ) → set < 256 → k < 8 → bit_and set (255 - 1 * 2 ^ k % 256) ≡ set_of (λ i. bit i set && not (eqb i k))
without-told set k small l =
    set_told (λ i. bit i set && not (eqb i k)) _ (lt_of_le_of_lt (and_le_l set _) small)
    (λ i m. rw (bit-and i set (255 - 1 * 2 ^ k % 256), bit-others k i l m))

pub except-told : (set other : ℕ) → set < 256 → other < 256 → bit_and set (255 - other) ≡ set_of (λ i. bit i set && not (bit i other))
except-told set other small h =
    set_told (λ i. bit i set && not (bit i other)) _ (lt_of_le_of_lt (and_le_l set _) small)
    (λ i l. rw (bit-and i set (255 - other), bit-flipped other i h l))
