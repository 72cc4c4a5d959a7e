-- The verdict of a call on a row is that of the checks on what the record that it names holds. Where there is no record for the call it is 24.
use Rattle.std.specs.Prelude.{Ok, Err}
use Prim.Native.Nat.{ℕ}
use mathlib.Core.Bool.{Bool, true, false, not, ◌&&◌, ◌||◌}
use mathlib.Core.List.{List}
use mathlib.Core.Path.{◌≡◌, refl, sym, ap}
use lib.Dec.{ltb}
use lib.ListN.{length, set}
use lib.Seq.{set-get_or}
use Rattle.rules.specs.Verdicts.{Verdict}
use Rattle.rules.specs.Verdicts.{Refused}
use Rattle.rules.specs.Personality.{verdict_of}
use Rattle.rules.specs.Verdicts.{◌or_else◌, refuse_if}
use Rattle.board_answers.specs.Answers.{packed, packed_verdict}
use Rattle.cabinet_records.specs.declared.Record.{Record}
use Rattle.cabinet_records.specs.Cabinet.{output_count, is_free, personality_of, free_record, with_state, record_of, has_record, outputs_of, overlaps, is_short, own_outputs, placing_verdict, held_verdict, taking_verdict, returned_for, placing, stepped, stepping, taking_out}
use Rattle.cabinet_held.specs.Held.{held_checks, taking_checks, placing_checks, held_step_for, held_stepped, held_step}

not-and : (a b : Bool) → (not a || not b) ≡ not (a && b)
not-and true b = refl
not-and false b = refl

not-and-not : (a b : Bool) → (not a || b) ≡ not (a && not b)
not-and-not true true = refl
not-and-not true false = refl
not-and-not false b = refl

or_assoc : (u v w : Verdict) → (u or_else (v or_else w)) ≡ ((u or_else v) or_else w)
unfolding ◌or_else◌
or_assoc (Ok _) v w = refl
or_assoc (Err r) v w = refl

module _ (row : List Record) (out : List ℕ) (k : ℕ) where
  abbrev own : Record
  own = record_of row k

  -- ── Placing ──

  module _ (b : List ℕ) (first : ℕ) where
    pub placing-checked :
        (free : Bool) →
        (has_record row k && is_free own) ≡ free →
        placing_verdict row out b k first ≡ placing_checks b free (overlaps row k first (outputs_of b)) first (length out)
    unfolding placing_verdict placing_checks is_short
    placing-checked free e = rw (not-and (has_record row k) (is_free own), e)

    none-for :
        (v : Verdict) →
        verdict_of b ≡ v →
        (has_record row k && is_free own) ≡ false →
        record { answer = packed_verdict (v or_else Refused 24 0); row = row; outputs = out } ≡ placing row out b k first
    unfolding placing returned_for placing_verdict refuse_if ◌or_else◌
    none-for (Ok _) e none = rw (e, not-and (has_record row k) (is_free own), none)
    none-for (Err r) e none = rw e

    -- no such record, or it is not free
    pub placing-none :
        (has_record row k && is_free own) ≡ false →
        record { answer = packed_verdict (verdict_of b or_else Refused 24 0); row = row; outputs = out } ≡ placing row out b k first
    placing-none = none-for (verdict_of b) refl

  -- ── Stepping and taking out ──

  module _ (has : has_record row k ≡ true) where
    pub held-checked : held_verdict row k ≡ (refuse_if (is_free own) 24 0 or_else held_checks (personality_of own) own.first)
    unfolding held_verdict held_checks
    held-checked = rw has

    pub taking-checked :
        taking_verdict row out k ≡ (refuse_if (is_free own) 24 0 or_else taking_checks (personality_of own) own.first (length out))
    unfolding taking_checks taking_verdict is_short
    taking-checked =
        rw held-checked
        (sym (or_assoc (refuse_if (is_free own) 24 0) (held_checks (personality_of own) own.first) (refuse_if (ltb (length out) output_count) 14 0)))

    -- a step of a held record, by the step call on its personality
    held-for :
        (inputs : ℕ) (v : Verdict) →
        held_checks (personality_of own) own.first ≡ v →
        is_free own ≡ false →
        let done = held_step (personality_of own) own.first own.state inputs out in
        stepping row out k inputs ≡ record { answer = done.answer; row = set row k (with_state own done.state); outputs = done.outputs }
    unfolding stepping stepped returned_for held_step held_step_for held_stepped own_outputs with_state record_of refuse_if ◌or_else◌
    held-for inputs (Ok _) e held = rw (held-checked, held, e)
    held-for inputs (Err r) e held =
        rw (held-checked, held, e)
        (ap (λ (l : List Record). record { answer = packed_verdict (Refused r.number r.place); row = l; outputs = out }) (sym (set-get_or row k free_record)))

    pub stepping-held :
        (inputs : ℕ) →
        is_free own ≡ false →
        let done = held_step (personality_of own) own.first own.state inputs out in
        stepping row out k inputs ≡ record { answer = done.answer; row = set row k (with_state own done.state); outputs = done.outputs }
    stepping-held inputs = held-for inputs (held_checks (personality_of own) own.first) refl

  -- no such record, or it is free
  module _ (none : (has_record row k && not (is_free own)) ≡ false) where
    pub stepping-none : (inputs : ℕ) → record { answer = 24; row = row; outputs = out } ≡ stepping row out k inputs
    unfolding stepping held_verdict returned_for refuse_if ◌or_else◌ packed_verdict packed
    stepping-none inputs = rw (not-and-not (has_record row k) (is_free own), none)

    pub taking-none : record { answer = 24; row = row; outputs = out } ≡ taking_out row out k
    unfolding taking_out taking_verdict held_verdict returned_for refuse_if ◌or_else◌ packed_verdict packed
    taking-none = rw (not-and-not (has_record row k) (is_free own), none)
