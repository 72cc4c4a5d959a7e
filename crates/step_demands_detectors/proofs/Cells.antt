-- The pass over the occupied detectors: those that are taken have their cells in the table. A cell is the bit of a mode and a phase, and of
-- no other.
use Prim.Native.Nat.{ℕ, ◌+◌, ◌*◌, ◌%◌, ◌^◌, ◌≤◌, ◌<◌}
use mathlib.Core.Bool.{Bool, true, false, ◌&&◌, ◌||◌}
use mathlib.Core.List.{List}
use mathlib.Core.Logic.{⊎_elim}
use mathlib.Core.Path.{◌≡◌, sym, ap, ◌∙◌}
use native.Mathlib.Omega.{arith}
use borrow.Author.Tests.{eqb-true, eqb-false, eq-eqb, ne_eqb}
use lib.Bits.{bit_or}
use lib.Dec.{eqb}
use lib.ListN.{length}
use Rattle.rules.specs.declared.site.Detector.{Detector}
use Rattle.laws.specs.Bytes.{bit}
use Rattle.laws.specs.Folds.{any_of}
use Rattle.rules.specs.Site.{detector_of}
use Rattle.rules.specs.Demands.{occupied, detected_among}
use Rattle.laws.proofs.Booleans.{decided}
use Rattle.laws.proofs.Folds.{any_none, any_same, any-with}
use Rattle.laws.proofs.Bits.{bit-blank, bit-one}
use Rattle.laws.proofs.BitRanges.{shifted, firsts, firsts-within, firsts-bit}
use Rattle.laws.proofs.JoinedBits.{bit-or}
use Rattle.laws.proofs.LowestBit.{lowest, others, taken, Left, left-all, taken_none, taken-all, next-within, left-more, next-untaken, next-taken, taken-other}
use Rattle.step_demands_detectors.specs.Sensed.{Tabled}

-- ── One cell ──

cell-told : (phase mode m p : ℕ) → phase < 8 → p < 8 → eqb (8 * mode + phase) (8 * m + p) ≡ (eqb phase p && eqb mode m)
cell-told phase mode m p room l =
    ⊎_elim
    (λ (e : eqb phase p ≡ true).
    ⊎_elim
    (λ (f : eqb mode m ≡ true).
    rw (e, f) (eq-eqb (8 * mode + phase) (8 * m + p) (omega (arith, eqb-true phase p e, eqb-true mode m f))))
    (λ (f : eqb mode m ≡ false).
    rw (e, f) (ne_eqb (8 * mode + phase) (8 * m + p) (λ z. eqb-false mode m f (omega (arith, z, l, room)))))
    (decided (eqb mode m)))
    (λ (e : eqb phase p ≡ false).
    rw e (ne_eqb (8 * mode + phase) (8 * m + p) (λ z. eqb-false phase p e (omega (arith, z, l, room)))))
    (decided (eqb phase p))

-- a set with one cell more
cell-more :
    (set phase mode m p : ℕ) →
    phase < 8 →
    mode ≤ 6 →
    p < 8 →
    bit (8 * m + p) (bit_or set (1 * 2 ^ (8 * mode + phase) % 2 ^ 64)) ≡ (bit (8 * m + p) set || (eqb phase p && eqb mode m))
cell-more set phase mode m p room few l =
    rw (shifted 64 (8 * mode + phase) (omega arith), bit-or (8 * m + p) set (1 * 2 ^ (8 * mode + phase)), bit-one (8 * mode + phase) (8 * m + p))
    (ap (λ (t : Bool). bit (8 * m + p) set || t) (cell-told phase mode m p room l))

-- ── The pass ──

module _ (detectors : List Detector) (inputs : ℕ) where
  abbrev n : ℕ
  n = length detectors

  -- the inputs of the detectors
  abbrev word : ℕ
  word = firsts n inputs

  abbrev at : ℕ → Detector
  at d = detector_of detectors d

  -- the table has the cells of the detectors taken
  pub record Entered (rest set : ℕ) : Type 0 where
    pub left : Left word n rest
    pub told :
        (m p : ℕ) →
        p < 8 →
        bit (8 * m + p) set ≡ any_of (λ d. (taken word rest d && eqb (at d).phase p) && eqb (at d).mode m) n

  module _ (tabled : Tabled detectors) where
    pub none-entered : Entered word 0
    none-entered =
        record {
          left = left-all word n (firsts-within n inputs (omega (arith, tabled.room)));
          told = λ m p l. bit-blank (8 * m + p) ∙ sym (any_none _ n (λ d k. rw (taken_none word d)));
        }

    module _ {rest set : ℕ} (entered : Entered rest set) (some : 0 < rest) where
      few : n ≤ 64
      few = omega (arith, tabled.room)

      pub turn-within : lowest rest < n
      turn-within = next-within entered.left some few

      -- the cell of a turn is within the table
      pub cell-within : 8 * (at (lowest rest)).mode + (at (lowest rest)).phase < 64
      cell-within = omega (arith, tabled.phase (lowest rest) turn-within, tabled.mode (lowest rest) turn-within)

      pub one-entered : Entered (others rest) (bit_or set (1 * 2 ^ (8 * (at (lowest rest)).mode + (at (lowest rest)).phase) % 2 ^ 64))
      one-entered =
          record {
            left = left-more entered.left some few;
            told = λ m p l.
                cell-more set (at (lowest rest)).phase (at (lowest rest)).mode m p (tabled.phase (lowest rest) turn-within) (tabled.mode (lowest rest) turn-within) l
                ∙ rw (entered.told m p l)
                (any-with _ _ n (lowest rest) (eqb (at (lowest rest)).phase p && eqb (at (lowest rest)).mode m) turn-within
                (rw (next-untaken entered.left some few))
                (rw (next-taken entered.left some few))
                (λ d apart. rw (taken-other entered.left some few d apart)));
          }

    pub all-entered :
        {rest set : ℕ} →
        Entered rest set →
        rest ≡ 0 →
        (m p : ℕ) →
        p < 8 →
        bit (8 * m + p) set ≡ detected_among detectors n (λ mode. eqb mode m) inputs p
    unfolding detected_among occupied
    all-entered entered e m p l =
        entered.told m p l
        ∙ any_same _ _ n (λ d k. rw (taken-all word d e, firsts-bit n inputs (omega (arith, tabled.room)) d k))
