-- Sealing a state before the power goes, and resuming it at power-up. A refused call leaves the buffer as it is.
use Rattle.std.specs.Prelude.{ℕ, not, List, eqb, length}
use Rattle.rules.specs.Verdicts.{Verdict}
use Rattle.rules.specs.Verdicts.{◌or_else◌, refuse_if}
use Rattle.rules.specs.Personality.{verdict_of}
use Rattle.rules.specs.Call.{handed_back}
use Rattle.state_timed.specs.TimedLayout.{timed_bytes}
use Rattle.state_valid.specs.StateOf.{is_state_of}
use Rattle.state_sealed.specs.Sealed.{sealed_bytes, sealed_of, other_version, damaged, other_personality, state_in}
use Rattle.board_answers.specs.Answers.{packed_verdict}

-- ── Sealing: personality, state, buffer for the record ──

unfoldable pub seal_verdict : List ℕ → List ℕ → List ℕ → Verdict
seal_verdict b state old =
    verdict_of b
    or_else refuse_if (not (is_state_of b state)) 13 0
    or_else refuse_if (not (eqb (length old) sealed_bytes)) 14 0

unfoldable pub seal_answer : List ℕ → List ℕ → List ℕ → ℕ
seal_answer b state old = packed_verdict (seal_verdict b state old)

unfoldable pub seal_after : List ℕ → List ℕ → List ℕ → List ℕ
seal_after b state old = handed_back (seal_verdict b state old) (sealed_of b state) old

-- ── Resuming: personality, record, buffer for the state ──

-- The state in the record is tested last: whatever bytes a record has, no board goes on with a state that is not valid.
unfoldable pub record_verdict : List ℕ → List ℕ → Verdict
record_verdict b sealed =
    refuse_if (other_version sealed) 27 0
    or_else refuse_if (damaged sealed) 28 0
    or_else refuse_if (other_personality b sealed) 29 0
    or_else refuse_if (not (is_state_of b (state_in sealed))) 13 0

unfoldable pub resume_verdict : List ℕ → List ℕ → List ℕ → Verdict
resume_verdict b sealed old =
    verdict_of b
    or_else refuse_if (not (eqb (length old) timed_bytes)) 13 0
    or_else record_verdict b sealed

unfoldable pub resume_answer : List ℕ → List ℕ → List ℕ → ℕ
resume_answer b sealed old = packed_verdict (resume_verdict b sealed old)

unfoldable pub resume_after : List ℕ → List ℕ → List ℕ → List ℕ
resume_after b sealed old = handed_back (resume_verdict b sealed old) (state_in sealed) old
