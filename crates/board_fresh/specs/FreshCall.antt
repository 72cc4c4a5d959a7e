-- The call for the fresh state of a personality. A refused call leaves the buffer as it is.
use Rattle.std.specs.Prelude.{ℕ, not, List, eqb, length}
use Rattle.rules.specs.Verdicts.{Verdict}
use Rattle.rules.specs.Verdicts.{◌or_else◌, refuse_if}
use Rattle.rules.specs.Personality.{verdict_of}
use Rattle.rules.specs.Site.{site_of}
use Rattle.rules.specs.Timed.{fresh_timed}
use Rattle.rules.specs.Call.{handed_back}
use Rattle.state_timed.specs.TimedLayout.{timed_bytes, timed_encoded}
use Rattle.board_answers.specs.Answers.{packed_verdict}

-- the personality's own refusal, then 13 if the buffer does not have the length of a state
unfoldable pub fresh_verdict : List ℕ → List ℕ → Verdict
fresh_verdict b old = verdict_of b or_else refuse_if (not (eqb (length old) timed_bytes)) 13 0

unfoldable pub fresh_answer : List ℕ → List ℕ → ℕ
fresh_answer b old = packed_verdict (fresh_verdict b old)

unfoldable pub fresh_after : List ℕ → List ℕ → List ℕ
fresh_after b old = handed_back (fresh_verdict b old) (timed_encoded (fresh_timed (site_of b))) old
