-- Internal: no promise cites this file. What the checks of both calls leave to say, and a line put into a buffer of any length.
use Rattle.std.specs.Prelude.{ℕ, Option, None, Some, Result, Ok, Err, ◌≤◌, ◌<◌, List, [], ◌++◌, ◌≡◌, ltb, length, drop}
use Rattle.rules.specs.declared.answer.Refusal.{Refusal}
use Rattle.rules.specs.Verdicts.{Accepted}
use Rattle.rules.specs.Verdicts.{refuse_if}
use Rattle.rules.specs.Call.{bound_for, handed_back}
use Rattle.rules.specs.Laws.{greatest_length}
use Rattle.panel_line.specs.declared.Why.{Why}
use Rattle.panel_line.specs.Reasons.{line_of}
use Rattle.board_answers.specs.Answers.{packed_outcome}
use Rattle.board_panel.specs.PanelCall.{why_line, length_checks}

abbrev pub Explains : List ℕ → List ℕ → ℕ → Result (Option Why) Refusal → Type 0
Explains b state inputs (Err refusal) = (length_checks b state inputs ≡ Err refusal) × (refusal.place ≤ greatest_length)
Explains b state inputs (Ok None) = (length_checks b state inputs ≡ Accepted) × ([] ≡ why_line b state inputs)
Explains b state inputs (Ok (Some why)) = (length_checks b state inputs ≡ Accepted) × (line_of why ≡ why_line b state inputs) × (why.phase < 7)

-- 14 if the line is longer than the buffer, which then stays as it is
abbrev pub PutIn : List ℕ → List ℕ → List ℕ → ℕ → Type 0
PutIn line old new answer =
    let verdict = refuse_if (ltb (length old) (length line)) 14 0 in
    (answer ≡ packed_outcome (bound_for verdict (length line))) × (new ≡ handed_back verdict (line ++ drop (length line) old) old)
