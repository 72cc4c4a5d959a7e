-- What the table of the occupied detectors says: the row of a mode has the phases of the detectors with that mode, a union of rows those of
-- either, and each of the three things that a detector may ask is asked by some of the modes.
use Prim.Native.Nat.{ℕ, ◌≤◌, ◌<◌}
use mathlib.Core.Bool.{Bool, true, ◌&&◌, ◌||◌, and-or_distrib_left}
use mathlib.Core.List.{List}
use mathlib.Core.Path.{◌≡◌, refl, sym, ◌∙◌}
use native.Mathlib.Omega.{arith}
use lib.Bits.{bit_or}
use lib.Dec.{eqb}
use lib.ListN.{length}
use Rattle.rules.specs.declared.site.Detector.{Detector}
use Rattle.laws.specs.Bytes.{bit}
use Rattle.laws.specs.Folds.{all_of}
use Rattle.rules.specs.Site.{detector_of}
use Rattle.rules.specs.Demands.{occupied, calling, locking, extending, detected_among}
use Rattle.laws.proofs.Folds.{any_same, any-join}
use Rattle.laws.proofs.Tables.{agree, table_same}
use Rattle.laws.proofs.JoinedBits.{bit-or}
use Rattle.step_demands_detectors.specs.Sensed.{Tabled}

-- ── What each mode asks ──

-- two tests agree on every mode up to 6
pub record Same (f g : ℕ → Bool) : Type 0 where
  pub told : (m : ℕ) → m ≤ 6 → f m ≡ g m

tried : (f g : ℕ → Bool) → all_of (λ m. agree (f m) (g m)) 7 ≡ true → Same f g
tried f g h = record { told = λ m l. table_same f g 7 h m (omega arith) }

pub locking-modes : Same (λ m. eqb m 2 || eqb m 6) locking
unfolding locking all_of
locking-modes = tried (λ m. eqb m 2 || eqb m 6) locking refl

pub calling-modes : Same (λ m. eqb m 1 || eqb m 5) calling
unfolding calling all_of
calling-modes = tried (λ m. eqb m 1 || eqb m 5) calling refl

pub extending-modes : Same (λ m. (eqb m 4 || eqb m 5) || eqb m 6) extending
unfolding extending all_of
extending-modes = tried (λ m. (eqb m 4 || eqb m 5) || eqb m 6) extending refl

-- ── The rows of the table ──

-- the set has the phases of the occupied detectors with a mode of the kind
pub record Of (detectors : List Detector) (inputs : ℕ) (kind : ℕ → Bool) (set : ℕ) : Type 0 where
  pub told : (p : ℕ) → p < 8 → bit p set ≡ detected_among detectors (length detectors) kind inputs p

-- detector d is occupied and is of phase p
abbrev has : List Detector → ℕ → ℕ → ℕ → Bool
has detectors inputs p d = occupied inputs d && eqb (detector_of detectors d).phase p

module _ {detectors : List Detector} {inputs : ℕ} {f g : ℕ → Bool} where
  pub of_either :
      {a b : ℕ} → Of detectors inputs f a → Of detectors inputs g b → Of detectors inputs (λ m. f m || g m) (bit_or a b)
  unfolding detected_among
  of_either {a} {b} left right =
      record {
        told = λ p l.
            let has-f : ℕ → Bool = λ d. has detectors inputs p d && f (detector_of detectors d).mode in
            let has-g : ℕ → Bool = λ d. has detectors inputs p d && g (detector_of detectors d).mode in
            bit-or p a b
            ∙ rw (left.told p l, right.told p l) (any-join has-f has-g (length detectors))
            ∙ any_same _ _ (length detectors)
            (λ d k. sym (and-or_distrib_left (has detectors inputs p d) (f (detector_of detectors d).mode) (g (detector_of detectors d).mode)));
      }

  pub of-kind :
      {a : ℕ} →
      Tabled detectors →
      Same f g →
      Of detectors inputs f a →
      (p : ℕ) →
      p < 8 →
      bit p a ≡ detected_among detectors (length detectors) g inputs p
  unfolding detected_among
  of-kind known agree own p l =
      own.told p l ∙ any_same _ _ (length detectors) (λ d k. rw (agree.told (detector_of detectors d).mode (known.mode d k)))
