-- Internal: no promise cites this file. The calls of a cabinet by the record that they name, and what became of it and of the outputs.
use Rattle.std.specs.Prelude.{ℕ, Bool, List, length, replicate, if◌then◌else◌, Ok, Err}
use Rattle.rules.specs.Verdicts.{Verdict}
use Rattle.rules.specs.Verdicts.{Refused}
use Rattle.rules.specs.Colours.{red}
use Rattle.rules.specs.Verdicts.{◌or_else◌, refuse_if}
use Rattle.board_answers.specs.Answers.{packed_verdict}
use Rattle.cabinet_records.specs.declared.Record.{Record}
use Rattle.cabinet_records.specs.Cabinet.{dark, is_free, personality_of, free_record, holding, fresh_bytes, outputs_of, written_at}
use Rattle.cabinet_held.specs.Held.{HeldStep, held_step, taking_checks, placing_checks}

-- a step, by the bytes of the state: it writes nothing else of the record
unfoldable pub stepped_parts : Record → ℕ → List ℕ → HeldStep
stepped_parts r inputs out =
    if is_free r
    then record { answer = 24; state = r.state; outputs = out }
    else held_step (personality_of r) r.first r.state inputs out

-- the answer, and the record and the outputs as the call returns
pub record OnRecord : Type 0 where
  pub answer : ℕ
  pub kept : Record
  pub outputs : List ℕ

unfoldable pub on_record_for : Verdict → OnRecord → Record → List ℕ → OnRecord
on_record_for (Ok _) done r out = done
on_record_for (Err r') done r out = record { answer = packed_verdict (Refused r'.number r'.place); kept = r; outputs = out }

-- placing, by whether another record has one of the outputs
unfoldable pub placed_parts : Record → Bool → List ℕ → ℕ → List ℕ → OnRecord
placed_parts r met b first out =
    on_record_for (placing_checks b (is_free r) met first (length out))
    (record {
      answer = 0;
      kept = holding b first (fresh_bytes b);
      outputs = written_at out first (replicate (outputs_of b) red);
    })
    r
    out

unfoldable pub taken_out_parts : Record → List ℕ → OnRecord
taken_out_parts r out =
    on_record_for (refuse_if (is_free r) 24 0 or_else taking_checks (personality_of r) r.first (length out))
    (record {
      answer = 0;
      kept = free_record;
      outputs = written_at out r.first (replicate (outputs_of (personality_of r)) dark);
    })
    r
    out
