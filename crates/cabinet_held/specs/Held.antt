-- Internal: no promise cites this file. The calls of a cabinet by what a record holds: the parts of specs/Cabinet.antt of `cabinet_records` that do not look at the row.
use Rattle.std.specs.Prelude.{ℕ, Bool, not, ◌||◌, List, ltb, length, replicate, Ok, Err}
use Rattle.rules.specs.Verdicts.{Verdict}
use Rattle.rules.specs.Verdicts.{Refused}
use Rattle.rules.specs.Call.{handed_back}
use Rattle.rules.specs.Colours.{red}
use Rattle.rules.specs.Personality.{verdict_of}
use Rattle.rules.specs.Verdicts.{◌or_else◌, refuse_if}
use Rattle.board_answers.specs.Answers.{packed_verdict}
use Rattle.board_step.specs.StepCall.{step_answer, state_after, colours_after}
use Rattle.cabinet_records.specs.Cabinet.{dark, outputs_of, past_last, outputs_in, written_at}

-- ── Checks ──

-- stepping and taking out, once the record is held
unfoldable pub held_checks : List ℕ → ℕ → Verdict
held_checks b first = verdict_of b or_else refuse_if (past_last first (outputs_of b)) 25 0

unfoldable pub taking_checks : List ℕ → ℕ → ℕ → Verdict
taking_checks b first room = held_checks b first or_else refuse_if (ltb room 32) 14 0

-- placing, by whether the record is free and whether another record has one of the outputs
unfoldable pub placing_checks : List ℕ → Bool → Bool → ℕ → ℕ → Verdict
placing_checks b free met first room =
    verdict_of b
    or_else refuse_if (not free) 24 0
    or_else refuse_if (past_last first (outputs_of b) || met) 25 0
    or_else refuse_if (ltb room 32) 14 0

-- ── Outputs ──

-- the outputs of a personality, turned to a colour if the call is accepted
unfoldable pub turned : Verdict → ℕ → List ℕ → ℕ → List ℕ → List ℕ
turned v colour b first out = handed_back v (written_at out first (replicate (outputs_of b) colour)) out

-- after taking out, and after placing
abbrev pub darkened : List ℕ → ℕ → List ℕ → List ℕ
darkened b first out = turned (taking_checks b first (length out)) dark b first out

abbrev pub reddened : List ℕ → Bool → Bool → ℕ → List ℕ → List ℕ
reddened b free met first out = turned (placing_checks b free met first (length out)) red b first out

-- ── A step ──

-- the answer, and the bytes of the state and the outputs as the call returns
pub record HeldStep : Type 0 where
  pub answer : ℕ
  pub state : List ℕ
  pub outputs : List ℕ

unfoldable pub held_step_for : Verdict → HeldStep → List ℕ → List ℕ → HeldStep
held_step_for (Ok _) done old out = done
held_step_for (Err r) done old out =
    record { answer = packed_verdict (Refused r.number r.place); state = old; outputs = out }

-- the step call on the held personality, lent its own outputs
unfoldable pub held_stepped : List ℕ → ℕ → List ℕ → ℕ → List ℕ → List ℕ → HeldStep
held_stepped b first old inputs out part =
    record {
      answer = step_answer b old inputs (length part);
      state = state_after b old inputs (length part);
      outputs = written_at out first (colours_after b old inputs part);
    }

unfoldable pub held_step : List ℕ → ℕ → List ℕ → ℕ → List ℕ → HeldStep
held_step b first old inputs out =
    held_step_for (held_checks b first) (held_stepped b first old inputs out (outputs_in out first (outputs_of b))) old out
