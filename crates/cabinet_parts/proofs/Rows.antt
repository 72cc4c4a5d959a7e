-- A call on a row is the call on the record that it names, if the row has it: a refused call stores the record as it was.
use Rattle.std.specs.Prelude.{Ok, Err}
use Prim.Native.Nat.{ℕ}
use mathlib.Core.Bool.{Bool, true, false}
use mathlib.Core.List.{List}
use mathlib.Core.Path.{◌≡◌, refl, sym, ap, ◌∙◌}
use lib.ListN.{length, get_or, set}
use lib.Seq.{set-get_or}
use Rattle.rules.specs.Verdicts.{Verdict}
use Rattle.rules.specs.Verdicts.{Refused}
use Rattle.rules.specs.Verdicts.{◌or_else◌, refuse_if}
use Rattle.board_answers.specs.Answers.{packed_verdict}
use Rattle.cabinet_records.specs.declared.Record.{Record}
use Rattle.cabinet_records.specs.Cabinet.{is_free, personality_of, free_record, with_state, record_of, has_record, outputs_of, overlaps, Returned, returned_for, placing, stepping, taking_out}
use Rattle.cabinet_held.specs.Held.{HeldStep, taking_checks, placing_checks}
use Rattle.cabinet_held.proofs.Rows.{placing-checked, taking-checked, stepping-held, stepping-none}
use Rattle.cabinet_parts.specs.Parts.{stepped_parts, OnRecord, on_record_for, placed_parts, taken_out_parts}

module _ (row : List Record) (out : List ℕ) (k : ℕ) (has : has_record row k ≡ true) where
  abbrev own : Record
  own = get_or row k free_record

  -- ── Stepping ──

  module _ (inputs : ℕ) where
    abbrev put : HeldStep → Returned
    put done = record { answer = done.answer; row = set row k (with_state own done.state); outputs = done.outputs }

    stepped-for : (t : Bool) → is_free own ≡ t → put (stepped_parts own inputs out) ≡ stepping row out k inputs
    unfolding stepped_parts record_of with_state
    stepped-for true free =
        rw free (ap (λ (l : List Record). record { answer = 24; row = l; outputs = out }) (set-get_or row k free_record) ∙ stepping-none row out k (rw (has, free)) inputs)
    stepped-for false held = rw held (sym (stepping-held row out k has inputs held))

    pub stepping-done :
        {answer : ℕ} {state after : List ℕ} →
        record { answer = answer; state = state; outputs = after } ≡ stepped_parts own inputs out →
        record { answer = answer; row = set row k (with_state own state); outputs = after } ≡ stepping row out k inputs
    stepping-done e = ap put e ∙ stepped-for (is_free own) refl

  -- ── Taking out and placing ──

  -- the row with what became of record k
  abbrev in_row : OnRecord → Returned
  in_row done = record { answer = done.answer; row = set row k done.kept; outputs = done.outputs }

  in-row : (v : Verdict) (done : OnRecord) → in_row (on_record_for v done own out) ≡ returned_for v (in_row done) row out
  unfolding on_record_for returned_for
  in-row (Ok _) done = refl
  in-row (Err r) done =
      ap (λ (l : List Record). record { answer = packed_verdict (Refused r.number r.place); row = l; outputs = out }) (set-get_or row k free_record)

  pub taking-done :
      {answer : ℕ} {kept : Record} {after : List ℕ} →
      record { answer = answer; kept = kept; outputs = after } ≡ taken_out_parts own out →
      record { answer = answer; row = set row k kept; outputs = after } ≡ taking_out row out k
  unfolding taken_out_parts taking_out record_of
  taking-done e =
      ap in_row e
      ∙ rw (taking-checked row out k has) (in-row (refuse_if (is_free own) 24 0 or_else taking_checks (personality_of own) own.first (length out)) _)

  pub placing-done :
      (b : List ℕ) (first : ℕ) {answer : ℕ} {kept : Record} {after : List ℕ} {met : Bool} →
      met ≡ overlaps row k first (outputs_of b) →
      record { answer = answer; kept = kept; outputs = after } ≡ placed_parts own met b first out →
      record { answer = answer; row = set row k kept; outputs = after } ≡ placing row out b k first
  unfolding placed_parts placing record_of
  placing-done b first m e =
      ap in_row e
      ∙ rw (placing-checked row out k b first (is_free own) (rw has), m)
      (in-row (placing_checks b (is_free own) (overlaps row k first (outputs_of b)) first (length out)) _)
