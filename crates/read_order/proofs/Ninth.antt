-- An order of phases: the set of the phases listed has them all exactly if it is one less than 2 ^ P, and as many entries as phases list each
-- of them once.
use Prim.Native.Nat.{ℕ, ◌+◌, ◌*◌, ◌%◌, ◌^◌, ◌≤◌, ◌<◌}
use mathlib.Core.Bool.{true, false, not, or-false}
use mathlib.Core.List.{List}
use mathlib.Core.Logic.{⊎_elim}
use mathlib.Core.Path.{◌≡◌, sym, ap, ◌∙◌}
use native.Mathlib.Nat.{one-mul}
use native.Mathlib.Numerals.{add-one}
use native.Mathlib.Omega.{arith}
use lib.Bits.{bit_or, or_lt}
use lib.Dec.{eqb}
use lib.Pow.{pow_pos, pow_mono}
use borrow.Author.Tests.{eqb-true, eqb-false, eq-eqb, ne_eqb, not-false}
use Rattle.laws.specs.Bytes.{bit}
use Rattle.laws.specs.Folds.{any_of}
use Rattle.rules.specs.Personality.{phase_count, order_at, phase_not_once}
use Rattle.laws.proofs.Booleans.{decided}
use Rattle.laws.proofs.Folds.{any_at, any_none, any_false}
use Rattle.laws.proofs.Counting.{count-one, listed-once}
use Rattle.laws.proofs.Bits.{bit-blank, bit-one}
use Rattle.laws.proofs.BitRanges.{shifted, full-each, all-full}
use Rattle.laws.proofs.JoinedBits.{bit-or}

-- ── The phases listed, as a set ──

-- those that the first i entries list
pub record Listed (b : List ℕ) (set i : ℕ) : Type 0 where
  pub within : set < 2 ^ phase_count b
  pub told : (q : ℕ) → q < phase_count b → bit q set ≡ any_of (λ j. eqb (order_at b j) q) i

module _ (b : List ℕ) where
  pub listed-none : Listed b 0 0
  unfolding any_of
  listed-none = record { within = pow_pos (phase_count b); told = λ q l. bit-blank q }

  module _ (few : phase_count b ≤ 7) where
    module _ {set i phase : ℕ} (listed : Listed b set i) (read : phase ≡ order_at b i) where
      pub listed_more : phase < phase_count b → Listed b (bit_or set (1 * 2 ^ phase % 2 ^ 8)) (i + 1)
      unfolding any_of
      listed_more l =
          rw (shifted 8 phase (omega arith))
          (record {
            within = or_lt (phase_count b) set (1 * 2 ^ phase) listed.within (omega (arith, pow_mono l));
            told = λ q m. bit-or q set (1 * 2 ^ phase) ∙ rw (add-one i, bit-one phase q, listed.told q m, read);
          })

      -- an entry that is no phase lists none
      pub listed-other : phase_count b ≤ phase → Listed b set (i + 1)
      unfolding any_of
      listed-other l =
          record {
            within = listed.within;
            told = λ q m. listed.told q m ∙ rw (add-one i, ne_eqb (order_at b i) q (λ e. omega (arith, read, e))) (sym (or-false _));
          }

    pub listed-decided :
        {set i : ℕ} → Listed b set i → i ≡ phase_count b → eqb (set + 1) (1 * 2 ^ phase_count b % 2 ^ 8) ≡ not (phase_not_once b)
    unfolding phase_not_once
    listed-decided {set} {i} listed whole =
        rw (shifted 8 (phase_count b) (omega arith), one-mul)
        (⊎_elim
        (λ (e : eqb (set + 1) (2 ^ phase_count b) ≡ true).
        let full = eqb-true (set + 1) (2 ^ phase_count b) e in
        rw e
        (sym (ap not (any_none _ (phase_count b)
        (λ q l. ap not (eq-eqb _ 1 (listed-once (order_at b) (phase_count b)
        (λ q l. sym (all q l) ∙ full-each (phase_count b) set q full l) q l)))))))
        (λ (e : eqb (set + 1) (2 ^ phase_count b) ≡ false).
        rw e
        (⊎_elim
        (λ (t : phase_not_once b ≡ true). sym (ap not t))
        (λ (t : phase_not_once b ≡ false).
        absurd (eqb-false (set + 1) (2 ^ phase_count b) e
        (all-full (phase_count b) set listed.within
        (λ q l.
        let only = count-one _ (phase_count b) (eqb-true _ 1 (not-false _ (any_false _ _ q t l))) in
        all q l ∙ any_at _ (phase_count b) only.0 only.1 only.2))))
        (decided (phase_not_once b))))
        (decided (eqb (set + 1) (2 ^ phase_count b))))
      where
        all : (q : ℕ) → q < phase_count b → bit q set ≡ any_of (λ j. eqb (order_at b j) q) (phase_count b)
        all q l = rw whole at (listed.told q l)
