-- The simulated road over the board interface. The answer is 0, or the number of the refusal in the lowest byte and the place above it. A refused
-- call leaves both buffers as they are.
use Rattle.std.specs.Prelude.{ℕ, List, eqb, length}
use Rattle.rules.specs.Verdicts.{Verdict}
use Rattle.rules.specs.Site.{site_of}
use Rattle.rules.specs.Timed.{with_own_times}
use Rattle.rules.specs.Call.{handed_back}
use Rattle.state_timed.specs.TimedLayout.{timed_bytes, timed_encoded}
use Rattle.road_streams.specs.Road.{road_after, road_verdict, road_results}
use Rattle.board_answers.specs.Answers.{packed_verdict}

-- a state buffer of another length than a state is refused with 13
unfoldable pub board_verdict : List ℕ → List ℕ → ℕ → List ℕ → ℕ → Verdict
board_verdict b streams steps state room = road_verdict b streams steps (eqb (length state) timed_bytes) room

unfoldable pub road_answer : List ℕ → List ℕ → ℕ → List ℕ → ℕ → ℕ
road_answer b streams steps state room = packed_verdict (board_verdict b streams steps state room)

-- the bytes of the last state, in which the personality's own times rule and none wait
unfoldable pub last_state : List ℕ → List ℕ → ℕ → List ℕ → ℕ → List ℕ
last_state b streams steps old room =
    handed_back (board_verdict b streams steps old room) (timed_encoded (with_own_times (site_of b) (road_after b streams steps).state)) old

unfoldable pub results_after : List ℕ → List ℕ → ℕ → List ℕ → List ℕ → List ℕ
results_after b streams steps state old = road_results b streams steps (eqb (length state) timed_bytes) old
