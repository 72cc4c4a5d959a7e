-- What an accepted call tells: of the row, of the record that it names, and of the output buffer.
use Prim.Native.Nat.{ℕ, ◌+◌, ◌≤◌, ◌<◌}
use mathlib.Core.Bool.{Bool, true, false, not, ◌||◌}
use mathlib.Core.List.{List}
use mathlib.Core.Path.{◌≡◌}
use borrow.Author.Tests.{eqb-true, ltb-true, ltb-false, not-false}
use lib.Dec.{eqb}
use lib.ListN.{length}
use Rattle.rules.specs.Verdicts.{Verdict}
use Rattle.rules.specs.Verdicts.{Accepted}
use Rattle.rules.specs.Verdicts.{◌or_else◌, refuse_if}
use Rattle.rules.specs.Personality.{verdict_of}
use Rattle.laws.proofs.Booleans.{and_left, and_right, or-false-left, or-false-right}
use Rattle.rules.proofs.Verdicts.{or-first, or_later, refuse-passed}
use Rattle.cabinet_records.specs.declared.Record.{Record}
use Rattle.cabinet_records.specs.Cabinet.{record_count, output_count, is_free, personality_of, record_of, has_record, outputs_of, past_last, overlaps, is_short, placing_verdict, held_verdict, taking_verdict}

-- ── A record that is there ──

module _ (row : List Record) (k : ℕ) (has : has_record row k ≡ true) where
  pub row-length : length row ≡ record_count
  unfolding has_record
  row-length = eqb-true (length row) record_count (and_left (eqb (length row) record_count) _ has)

  pub record-below : k < record_count
  unfolding has_record
  record-below = ltb-true k record_count (and_right (eqb (length row) record_count) _ has)

-- ── Placing ──

-- checks one after the other, as placing makes them
pub all-passed :
    (v : Verdict) (held taken short : Bool) →
    (v or_else refuse_if held 24 0 or_else refuse_if taken 25 0 or_else refuse_if short 14 0) ≡ Accepted →
    (v ≡ Accepted) × (held ≡ false) × (taken ≡ false) × (short ≡ false)
all-passed v held taken short e =
    let after-own = or_later v _ e in
    let after-24 = or_later (refuse_if held 24 0) _ after-own in (
      or-first v _ e,
      refuse-passed held 24 0 (or-first (refuse_if held 24 0) _ after-own),
      refuse-passed taken 25 0 (or-first (refuse_if taken 25 0) _ after-24),
      refuse-passed short 14 0 (or_later (refuse_if taken 25 0) _ after-24),
    )

module _ (row : List Record) (out b : List ℕ) (k first : ℕ) (e : placing_verdict row out b k first ≡ Accepted) where
  abbrev held : Bool
  held = not (has_record row k) || not (is_free (record_of row k))

  abbrev taken : Bool
  taken = past_last first (outputs_of b) || overlaps row k first (outputs_of b)

  placing-passed : (verdict_of b ≡ Accepted) × (held ≡ false) × (taken ≡ false) × (is_short out ≡ false)
  unfolding placing_verdict
  placing-passed = all-passed (verdict_of b) held taken (is_short out) e

  pub placing-read : verdict_of b ≡ Accepted
  placing-read = placing-passed.0

  pub placing-there : has_record row k ≡ true
  placing-there = not-false (has_record row k) (or-false-left (not (has_record row k)) _ placing-passed.1)

  pub placing-free : is_free (record_of row k) ≡ true
  placing-free = not-false (is_free (record_of row k)) (or-false-right (not (has_record row k)) _ placing-passed.1)

  pub placing-within : first + outputs_of b ≤ output_count
  unfolding past_last
  placing-within = ltb-false output_count (first + outputs_of b) (or-false-left (past_last first (outputs_of b)) _ placing-passed.2)

  pub placing-clear : overlaps row k first (outputs_of b) ≡ false
  placing-clear = or-false-right (past_last first (outputs_of b)) _ placing-passed.2

  pub placing-long : output_count ≤ length out
  unfolding is_short
  placing-long = ltb-false (length out) output_count placing-passed.3

-- ── Stepping and taking out ──

module _ (row : List Record) (k : ℕ) (e : held_verdict row k ≡ Accepted) where
  held-there : (not (has_record row k) || is_free (record_of row k)) ≡ false
  unfolding held_verdict
  held-there = refuse-passed _ 24 0 (or-first (refuse_if _ 24 0) _ e)

  past-24 : (verdict_of (personality_of (record_of row k)) or_else refuse_if (past_last (record_of row k).first (outputs_of (personality_of (record_of row k)))) 25 0) ≡ Accepted
  unfolding held_verdict
  past-24 = or_later (refuse_if _ 24 0) _ e

  pub held-record : has_record row k ≡ true
  held-record = not-false (has_record row k) (or-false-left (not (has_record row k)) _ held-there)

  pub held-busy : is_free (record_of row k) ≡ false
  held-busy = or-false-right (not (has_record row k)) _ held-there

  pub held-read : verdict_of (personality_of (record_of row k)) ≡ Accepted
  held-read = or-first _ (refuse_if _ 25 0) past-24

  pub held-within : (record_of row k).first + outputs_of (personality_of (record_of row k)) ≤ output_count
  unfolding past_last
  held-within = ltb-false output_count _ (refuse-passed _ 25 0 (or_later (verdict_of (personality_of (record_of row k))) _ past-24))

module _ (row : List Record) (out : List ℕ) (k : ℕ) (e : taking_verdict row out k ≡ Accepted) where
  pub taking-held : held_verdict row k ≡ Accepted
  unfolding taking_verdict
  taking-held = or-first (held_verdict row k) _ e

  pub taking-long : output_count ≤ length out
  unfolding taking_verdict is_short
  taking-long = ltb-false (length out) output_count (refuse-passed (is_short out) 14 0 (or_later (held_verdict row k) _ e))
