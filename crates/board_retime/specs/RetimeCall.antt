-- The retiming call with the state as bytes: personality, state, new personality. A refused call leaves the state as it is.
use Rattle.std.specs.Prelude.{ℕ, not, List}
use Rattle.rules.specs.Verdicts.{Verdict}
use Rattle.rules.specs.Verdicts.{◌or_else◌, refuse_if}
use Rattle.rules.specs.Personality.{verdict_of}
use Rattle.rules.specs.Site.{times_in}
use Rattle.rules.specs.Call.{handed_back}
use Rattle.rules.specs.TimedCall.{differs_elsewhere, retimed}
use Rattle.state_timed.specs.TimedLayout.{timed_encoded, timed_decoded}
use Rattle.state_valid.specs.StateOf.{is_state_of}
use Rattle.board_answers.specs.Answers.{packed_verdict}

-- the checks: the first personality, 13, the new personality, then 26
unfoldable pub retime_checks : List ℕ → List ℕ → List ℕ → Verdict
retime_checks b old new =
    verdict_of b
    or_else refuse_if (not (is_state_of b old)) 13 0
    or_else verdict_of new
    or_else refuse_if (differs_elsewhere b new) 26 0

unfoldable pub retime_answer : List ℕ → List ℕ → List ℕ → ℕ
retime_answer b old new = packed_verdict (retime_checks b old new)

-- the state in which the new times wait
unfoldable pub retime_after : List ℕ → List ℕ → List ℕ → List ℕ
retime_after b old new = handed_back (retime_checks b old new) (timed_encoded (retimed (timed_decoded old) (times_in new))) old
