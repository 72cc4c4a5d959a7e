-- The step call with the state as bytes: personality, state, input bits, and the colour buffer or its length.
use Rattle.std.specs.Prelude.{ℕ, List, length}
use Rattle.rules.specs.Verdicts.{Verdict}
use Rattle.rules.specs.Verdicts.{◌or_else◌}
use Rattle.rules.specs.Personality.{verdict_of}
use Rattle.rules.specs.Site.{site_of}
use Rattle.rules.specs.Timed.{TimedState, ruled_site, timed_stepped}
use Rattle.rules.specs.WaitBound.{wait_bound}
use Rattle.rules.specs.Call.{step_verdict, bound_for, handed_back, buffer_for}
use Rattle.state_timed.specs.TimedLayout.{timed_encoded, timed_decoded}
use Rattle.state_valid.specs.StateOf.{is_state_of}
use Rattle.board_answers.specs.Answers.{packed_outcome}

-- the checks: the personality, then 13, 15 and 14
unfoldable pub step_checks : List ℕ → List ℕ → ℕ → ℕ → Verdict
step_checks b old inputs room = verdict_of b or_else step_verdict (site_of b) (is_state_of b old) inputs room

-- the state after the step
unfoldable pub stepped_in : List ℕ → List ℕ → ℕ → TimedState
stepped_in b old inputs = timed_stepped (site_of b) (timed_decoded old) inputs

-- the wait of the times that rule after the step, or the refusal
unfoldable pub step_answer : List ℕ → List ℕ → ℕ → ℕ → ℕ
step_answer b old inputs room =
    packed_outcome (bound_for (step_checks b old inputs room) (wait_bound (ruled_site (site_of b) (stepped_in b old inputs))))

-- the bytes of the new state; after a refusal those handed in
unfoldable pub state_after : List ℕ → List ℕ → ℕ → ℕ → List ℕ
state_after b old inputs room = handed_back (step_checks b old inputs room) (timed_encoded (stepped_in b old inputs)) old

-- the colours of the new state, by the times that rule after the step
unfoldable pub colours_after : List ℕ → List ℕ → ℕ → List ℕ → List ℕ
colours_after b old inputs buffer =
    let next = stepped_in b old inputs in
    buffer_for (step_checks b old inputs (length buffer)) (ruled_site (site_of b) next) next.core buffer
