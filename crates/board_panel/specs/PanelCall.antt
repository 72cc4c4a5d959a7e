-- The calls for the panel's line with the state as bytes: one answers how many bytes it has, and the other also writes it to the start of a buffer.
-- Their arguments are personality, state, input bits, and the buffer or its length.
use Rattle.std.specs.Prelude.{ℕ, not, List, ◌++◌, ltb, length, drop}
use Rattle.rules.specs.Verdicts.{Verdict}
use Rattle.rules.specs.Verdicts.{◌or_else◌, refuse_if}
use Rattle.rules.specs.Personality.{verdict_of}
use Rattle.rules.specs.Site.{site_of}
use Rattle.rules.specs.Call.{stray_input, bound_for, handed_back}
use Rattle.state_timed.specs.TimedLayout.{timed_decoded}
use Rattle.state_valid.specs.StateOf.{is_state_of}
use Rattle.panel_reasons.specs.PanelLine.{panel_line}
use Rattle.board_answers.specs.Answers.{packed_outcome}

-- the line of the state in the bytes
abbrev pub why_line : List ℕ → List ℕ → ℕ → List ℕ
why_line b state inputs = panel_line (site_of b) (timed_decoded state) inputs

-- the checks of both calls: the personality, then 13 and 15
unfoldable pub length_checks : List ℕ → List ℕ → ℕ → Verdict
length_checks b state inputs =
    verdict_of b
    or_else refuse_if (not (is_state_of b state)) 13 0
    or_else refuse_if (stray_input (site_of b) inputs) 15 0

-- of the writing call: then 14, the buffer is shorter than the line
unfoldable pub why_checks : List ℕ → List ℕ → ℕ → ℕ → Verdict
why_checks b state inputs room = length_checks b state inputs or_else refuse_if (ltb room (length (why_line b state inputs))) 14 0

-- how many bytes the line has, or the refusal
unfoldable pub why_length_answer : List ℕ → List ℕ → ℕ → ℕ
why_length_answer b state inputs = packed_outcome (bound_for (length_checks b state inputs) (length (why_line b state inputs)))

unfoldable pub why_answer : List ℕ → List ℕ → ℕ → ℕ → ℕ
why_answer b state inputs room = packed_outcome (bound_for (why_checks b state inputs room) (length (why_line b state inputs)))

-- the buffer as the writing call returns: the bytes behind the line do not change, and after a refusal none does
unfoldable pub line_after : List ℕ → List ℕ → ℕ → List ℕ → List ℕ
line_after b state inputs buffer =
    let line = why_line b state inputs in
    handed_back (why_checks b state inputs (length buffer)) (line ++ drop (length line) buffer) buffer
