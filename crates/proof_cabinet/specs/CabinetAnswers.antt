-- What the calls of the cabinet and new times answer, and the sizes of the records that they store, stated.
use Rattle.std.specs.Prelude.{ℕ, ◌/◌, ◌%◌, Bool, true, not, ◌||◌, List, ◌⊎◌, ◌≡◌, eqb}
use Rattle.rules.specs.Verdicts.{Verdict}
use Rattle.rules.specs.Verdicts.{◌or_else◌, refuse_if}
use Rattle.rules.specs.Personality.{verdict_of}
use Rattle.rules.specs.Site.{site_of}
use Rattle.rules.specs.Timed.{ruled_site, timed_stepped}
use Rattle.rules.specs.WaitBound.{wait_bound}
use Rattle.rules.specs.Call.{stray_input, bound_for}
use Rattle.rules.specs.TimedCall.{differs_elsewhere}
use Rattle.rules.specs.Laws.{reading_number, step_number, PlaceIn}
use Rattle.rules.specs.TimedLaws.{retime_number}
use Rattle.state_timed.specs.TimedLayout.{timed_decoded}
use Rattle.state_valid.specs.StateOf.{is_state_of}
use Rattle.board_answers.specs.Answers.{packed_verdict, packed_outcome}
use Rattle.cabinet_records.specs.declared.Record.{Record}
use Rattle.cabinet_records.specs.Cabinet.{personality_of, Shaped, record_of, is_short, held_verdict, stepping, Act, doing}
use Rattle.cabinet_records.specs.CabinetLaws.{personality_named}
use Rattle.proof_cabinet.specs.Operations.{retiming, Operation, operating}

-- ── Refusals ──

abbrev pub cabinet_number : ℕ → Bool
cabinet_number number = step_number number || eqb number 24 || eqb number 25

-- a number of the personality's checks with a place of the personality; or 13, 14, 15, 24 or 25 at 0
abbrev pub CabinetWritten : List ℕ → ℕ → ℕ → Type 0
CabinetWritten b number place =
    ((reading_number number ≡ true) × PlaceIn b place) ⊎ ((cabinet_number number ≡ true) × (place ≡ 0))

-- every refusal of a call of the cabinet has a written number and place
unfoldable pub AnswerIsWritten : Type 0
AnswerIsWritten =
    (row : List Record) (out : List ℕ) (act : Act) →
    let answer = (doing row out act).answer in
    (answer % 256 ≡ 0 → ⊥) →
    CabinetWritten (personality_named row act) (answer % 256) (answer / 256)

-- so does every refusal of new times: a number of a personality's checks with a place of the one held or of the new one; or 13 or 26 at 0
abbrev pub RetimingWritten : List ℕ → List ℕ → ℕ → ℕ → Type 0
RetimingWritten b new number place =
    ((reading_number number ≡ true) × (PlaceIn b place ⊎ PlaceIn new place)) ⊎ ((retime_number number ≡ true) × (place ≡ 0))

unfoldable pub RetimingAnswerIsWritten : Type 0
RetimingAnswerIsWritten =
    (row : List Record) (out : List ℕ) (k : ℕ) (new : List ℕ) →
    let answer = (retiming row out k new).answer in
    (answer % 256 ≡ 0 → ⊥) →
    RetimingWritten (personality_of (record_of row k)) new (answer % 256) (answer / 256)

-- the order of the checks of stepping: 24, the held personality's own, 25; then 13, 15 and 14
unfoldable pub stepping_verdict : List Record → List ℕ → ℕ → ℕ → Verdict
stepping_verdict row out k inputs =
    let r = record_of row k in
    held_verdict row k
    or_else refuse_if (not (is_state_of (personality_of r) r.state)) 13 0
    or_else refuse_if (stray_input (site_of (personality_of r)) inputs) 15 0
    or_else refuse_if (is_short out) 14 0

-- stepping answers the first of these refusals, or the wait bound of the times that rule after the step
unfoldable pub SteppingAnswers : Type 0
SteppingAnswers =
    (row : List Record) (out : List ℕ) (k inputs : ℕ) →
    let r = record_of row k in
    let site = site_of (personality_of r) in
    (stepping row out k inputs).answer
    ≡ packed_outcome
    (bound_for (stepping_verdict row out k inputs) (wait_bound (ruled_site site (timed_stepped site (timed_decoded r.state) inputs))))

-- the order of the checks of new times: the held personality's own, 13, the new personality's own, 26
unfoldable pub retiming_verdict : List Record → ℕ → List ℕ → Verdict
retiming_verdict row k new =
    let r = record_of row k in
    verdict_of (personality_of r)
    or_else refuse_if (not (is_state_of (personality_of r) r.state)) 13 0
    or_else verdict_of new
    or_else refuse_if (differs_elsewhere (personality_of r) new) 26 0

unfoldable pub RetimingAnswers : Type 0
RetimingAnswers =
    (row : List Record) (out : List ℕ) (k : ℕ) (new : List ℕ) →
    (retiming row out k new).answer ≡ packed_verdict (retiming_verdict row k new)

-- ── Sizes ──

-- The definitions keep the lengths of the arrays, as the type does: an operation on a row of the type leaves a row of the type.
unfoldable pub ShapeStays : Type 0
ShapeStays =
    (row : List Record) (out : List ℕ) (operation : Operation) →
    ((j : ℕ) → Shaped (record_of row j)) →
    (j : ℕ) → Shaped (record_of (operating row out operation).row j)
