-- What a caller does to a cabinet: it calls the cabinet, or it hands over new times for the site in a record. For new times the cabinet has no call:
-- the caller calls `willowera_retime` with the personality and the state that stand in the record.
use Rattle.std.specs.Prelude.{ℕ, ◌%◌, List, ◌≡◌, length, set}
use Rattle.board_retime.specs.RetimeCall.{retime_answer, retime_after}
use Rattle.cabinet_records.specs.declared.Record.{Record}
use Rattle.cabinet_records.specs.Cabinet.{personality_of, with_state, record_of, Returned, Act, doing}

-- ── New times for the site in record k ──

-- the record's state is replaced, and nothing else changes
unfoldable pub retiming : List Record → List ℕ → ℕ → List ℕ → Returned
retiming row out k new =
    let r = record_of row k in
    record {
      answer = retime_answer (personality_of r) r.state new;
      row = set row k (with_state r (retime_after (personality_of r) r.state new));
      outputs = out;
    }

-- ── Any operation ──

-- a call of the cabinet; or new times for a record, with the bytes of a new personality
pub data Operation : Type 0 where
  cabinet_act : Act → Operation
  retime_site : ℕ → List ℕ → Operation

unfoldable pub operating : List Record → List ℕ → Operation → Returned
operating row out (cabinet_act act) = doing row out act
operating row out (retime_site k new) = retiming row out k new

-- ── What new times leave alone, as `CabinetLaws` says it of the calls of the cabinet ──

-- every other record, and the number of records
unfoldable pub RetimingOthersStay : Type 0
RetimingOthersStay =
    (row : List Record) (out : List ℕ) (k : ℕ) (new : List ℕ) →
    ((j : ℕ) → (j ≡ k → ⊥) → record_of (retiming row out k new).row j ≡ record_of row j)
    × (length (retiming row out k new).row ≡ length row)

-- an answer with a number of a refusal leaves everything
unfoldable pub RetimingRefusalLeaves : Type 0
RetimingRefusalLeaves =
    (row : List Record) (out : List ℕ) (k : ℕ) (new : List ℕ) →
    ((retiming row out k new).answer % 256 ≡ 0 → ⊥) →
    (retiming row out k new).row ≡ row
