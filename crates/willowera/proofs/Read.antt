-- What the answers of the cabinet share: the tests that the row has the record, and a call on a record that was read.
use Prim.Native.Nat.{ℕ, ◌≤◌, ◌<◌}
use mathlib.Core.Bool.{Bool, true, false}
use mathlib.Core.List.{List}
use mathlib.Core.Path.{◌≡◌}
use native.Mathlib.Omega.{arith}
use borrow.Author.Tests.{lt-ltb, le-ltb, eq-eqb, ne_eqb}
use lib.Dec.{eqb}
use lib.ListN.{length, get_or, set}
use Rattle.std.proofs.lemmas.List.{get_or_default}
use Rattle.laws.proofs.Booleans.{and-false-right}
use Rattle.cabinet_records.specs.declared.Record.{Record}
use Rattle.cabinet_records.specs.Cabinet.{record_count, free_record, with_state, has_record, outputs_of, overlaps, placing, stepping, taking_out}
use Rattle.cabinet_records.proofs.Checks.{row-length, record-below}
use Rattle.cabinet_parts.specs.Parts.{stepped_parts, placed_parts, taken_out_parts}
use Rattle.cabinet_parts.proofs.Rows.{placing-done, stepping-done, taking-done}

-- ── The record is there, or not ──

module _ (row : List Record) (k : ℕ) where
  pub absent-row : (length row ≡ record_count → ⊥) → has_record row k ≡ false
  unfolding has_record
  absent-row other = rw (ne_eqb (length row) record_count other)

  pub absent-past : record_count ≤ k → has_record row k ≡ false
  unfolding has_record
  absent-past past = and-false-right (eqb (length row) record_count) (le-ltb k record_count past)

  pub present : length row ≡ record_count → k < record_count → has_record row k ≡ true
  unfolding has_record
  present four below = rw (eq-eqb (length row) record_count four, lt-ltb k record_count below)

  pub inside : has_record row k ≡ true → k < length row
  inside has = omega (arith, row-length row k has, record-below row k has)

-- ── A call on the record that was read is the call on the row ──

module _ (row : List Record) (out : List ℕ) (k : ℕ) (four : length row ≡ record_count) (below : k < record_count) (other : Record) where
  has : has_record row k ≡ true
  has = present row k four below

  own : get_or row k other ≡ get_or row k free_record
  own = get_or_default row k other free_record (inside row k has)

  pub stepped-row :
      (inputs : ℕ) {answer : ℕ} {state after : List ℕ} →
      record { answer = answer; state = state; outputs = after } ≡ stepped_parts (get_or row k other) inputs out →
      record { answer = answer; row = set row k (with_state (get_or row k other) state); outputs = after } ≡ stepping row out k inputs
  stepped-row inputs e = rw own (stepping-done row out k has inputs (rw own at e))

  pub taken-row :
      {answer : ℕ} {kept : Record} {after : List ℕ} →
      record { answer = answer; kept = kept; outputs = after } ≡ taken_out_parts (get_or row k other) out →
      record { answer = answer; row = set row k kept; outputs = after } ≡ taking_out row out k
  taken-row e = taking-done row out k has (rw own at e)

  pub placed-row :
      (b : List ℕ) (first : ℕ) {answer : ℕ} {kept : Record} {after : List ℕ} {met : Bool} →
      met ≡ overlaps row k first (outputs_of b) →
      record { answer = answer; kept = kept; outputs = after } ≡ placed_parts (get_or row k other) met b first out →
      record { answer = answer; row = set row k kept; outputs = after } ≡ placing row out b k first
  placed-row b first m e = placing-done row out k has b first m (rw own at e)
