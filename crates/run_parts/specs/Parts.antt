-- The parts of a trace as the program computes them: by the calls of the board interface, on the bytes of a state.
use Rattle.std.specs.Prelude.{ℕ, ◌/◌, ◌%◌, ◌&&◌, List, eqb, ltb, length, take, replicate, if◌then◌else◌}
use Rattle.laws.specs.Bytes.{eight_at}
use Rattle.rules.specs.Personality.{group_count}
use Rattle.rules.specs.TraceText.{step_line}
use Rattle.rules.specs.Trace.{Part, goes_on, refusal, record_part, most_steps}
use Rattle.state_timed.specs.TimedLayout.{timed_decoded}
use Rattle.board_fresh.specs.FreshCall.{fresh_after}
use Rattle.board_step.specs.StepCall.{step_answer, state_after, colours_after}

-- the state behind a personality that should have n bytes: the fresh state once it is accepted
unfoldable pub state_for : ℕ → List ℕ → List ℕ → List ℕ
state_for n b old = if ltb (length b) n then old else fresh_after b old

-- The answer of a step call: its lowest byte is the number of the refusal, 0 if the call is accepted, and the rest is the place.
unfoldable pub answer_part : ℕ → List ℕ → Part
answer_part answer line = if eqb (answer % 256) 0 then goes_on line else refusal (answer % 256) (answer / 256)

-- the line of step n, from the state and the colours that the call leaves
unfoldable pub line_after : List ℕ → List ℕ → ℕ → ℕ → List ℕ
line_after b old n inputs =
    step_line n (timed_decoded (state_after b old inputs 32)).core.position (take (group_count b) (colours_after b old inputs (replicate 32 0)))

-- the last step ends the trace
unfoldable pub up_to_last : ℕ → Part → Part
up_to_last n part = record { text = part.text; more = part.more && ltb n most_steps }

-- the step call of step n
unfoldable pub call_part : List ℕ → List ℕ → ℕ → ℕ → Part
call_part b old n inputs = up_to_last n (answer_part (step_answer b old inputs 32) (line_after b old n inputs))

-- the record of step n, and the state behind it
unfoldable pub part_of : List ℕ → List ℕ → ℕ → List ℕ → Part
part_of b old n bytes = record_part bytes (call_part b old n (eight_at bytes 0))

unfoldable pub state_of : List ℕ → List ℕ → List ℕ → List ℕ
state_of b old bytes = if ltb (length bytes) 8 then old else state_after b old (eight_at bytes 0) 32
