-- The records that are asked in turn whether they have one of the outputs.
use Prim.Native.Nat.{ℕ, ◌+◌, ◌<◌}
use mathlib.Core.Bool.{Bool, true, false, not, ◌&&◌}
use mathlib.Core.List.{List}
use mathlib.Core.Path.{◌≡◌, refl, sym, ◌∙◌}
use native.Mathlib.Numerals.{add-one}
use native.Mathlib.Omega.{arith}
use borrow.Author.Tests.{eq-eqb, ne_eqb}
use lib.Dec.{eqb}
use lib.ListN.{length, get_or}
use Rattle.std.proofs.lemmas.List.{get_or_default}
use Rattle.laws.specs.Folds.{any_of}
use Rattle.laws.proofs.Folds.{any_at}
use Rattle.cabinet_records.specs.declared.Record.{Record}
use Rattle.cabinet_records.specs.Cabinet.{record_count, free_record, record_of, meets_record, overlaps}

abbrev pub meeting : List Record → ℕ → ℕ → ℕ → ℕ → Bool
meeting row k first count j = not (eqb j k) && meets_record first count (record_of row j)

module _ (row : List Record) (k first count : ℕ) where
  pub asked-none : any_of (meeting row k first count) 0 ≡ false
  unfolding any_of
  asked-none = refl

  asked-more : (j : ℕ) → any_of (meeting row k first count) j ≡ false → meeting row k first count j ≡ false → any_of (meeting row k first count) (j + 1) ≡ false
  unfolding any_of
  asked-more j before here = rw (add-one j, before, here)

  -- record k is not asked
  pub asked-itself : {j : ℕ} → any_of (meeting row k first count) j ≡ false → j ≡ k → any_of (meeting row k first count) (j + 1) ≡ false
  asked-itself {j} before same = asked-more j before (rw (eq-eqb j k same))

  -- a record is the same whatever its read gives elsewhere
  module _ {j : ℕ} (other : Record) (l : j < length row) (another : j ≡ k → ⊥) where
    told : {t : Bool} → meets_record first count (get_or row j other) ≡ t → meeting row k first count j ≡ t
    unfolding record_of
    told e = rw (ne_eqb j k another, ← get_or_default row j other free_record l) e

    pub asked-next :
        any_of (meeting row k first count) j ≡ false →
        meets_record first count (get_or row j other) ≡ false →
        any_of (meeting row k first count) (j + 1) ≡ false
    asked-next before e = asked-more j before (told e)

    pub asked-met : length row ≡ record_count → meets_record first count (get_or row j other) ≡ true → true ≡ overlaps row k first count
    unfolding overlaps
    asked-met size e = sym (any_at (meeting row k first count) record_count j (omega (arith, size, l)) (told e))

  pub asked-all : {j : ℕ} → j ≡ length row → length row ≡ record_count → any_of (meeting row k first count) j ≡ false → false ≡ overlaps row k first count
  unfolding overlaps
  asked-all all size e = sym (rw (all ∙ size) at e)
