-- What a call of the cabinet leaves alone, stated: every other record, every other output, and on a refusal everything. It holds of any row, whatever its
-- records hold, and of an output buffer of any length and content.
use Rattle.std.specs.Prelude.{ℕ, ◌+◌, ◌%◌, ◌≤◌, ◌<◌, List, ◌⊎◌, ◌≡◌, length}
use Rattle.laws.specs.Bytes.{byte_at}
use Rattle.cabinet_records.specs.declared.Record.{Record}
use Rattle.cabinet_records.specs.Cabinet.{personality_of, record_of, outputs_of, Act, place_site, step_site, take_out, doing}

-- the record that a call names
unfoldable pub record_named : Act → ℕ
record_named (place_site b k first) = k
record_named (step_site k inputs) = k
record_named (take_out k) = k

-- the personality that it is about: the one placed, or held
unfoldable pub personality_named : List Record → Act → List ℕ
personality_named row (place_site b k first) = b
personality_named row (step_site k inputs) = personality_of (record_of row k)
personality_named row (take_out k) = personality_of (record_of row k)

-- the first of its outputs
unfoldable pub first_named : List Record → Act → ℕ
first_named row (place_site b k first) = first
first_named row (step_site k inputs) = (record_of row k).first
first_named row (take_out k) = (record_of row k).first

-- no call alters a record other than the one that it names, or the number of records
unfoldable pub OthersStay : Type 0
OthersStay =
    (row : List Record) (out : List ℕ) (act : Act) →
    ((j : ℕ) → (j ≡ record_named act → ⊥) → record_of (doing row out act).row j ≡ record_of row j)
    × (length (doing row out act).row ≡ length row)

-- no call alters an output outside its own, or the length of the buffer
unfoldable pub OutputsStay : Type 0
OutputsStay =
    (row : List Record) (out : List ℕ) (act : Act) →
    let first = first_named row act in
    let count = outputs_of (personality_named row act) in
    ((i : ℕ) → (i < first) ⊎ (first + count ≤ i) → byte_at (doing row out act).outputs i ≡ byte_at out i)
    × (length (doing row out act).outputs ≡ length out)

-- an answer with a number of a refusal leaves the row and the outputs
unfoldable pub RefusalLeaves : Type 0
RefusalLeaves =
    (row : List Record) (out : List ℕ) (act : Act) →
    ((doing row out act).answer % 256 ≡ 0 → ⊥) →
    ((doing row out act).row ≡ row) × ((doing row out act).outputs ≡ out)
