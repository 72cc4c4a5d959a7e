-- Check by check.
use Rattle.std.proofs.Common.{arith}
use Rattle.std.proofs.lemmas.Bool.Decides.{nat_tests}
use Rattle.road_streams.specs.Road.{bad_streams, stream_count}
use Rattle.road_streams.proofs.bad_streams.Goals.{then-streams-ne0, else-streams-ne0, then-streams-gt-MOST_STREAMS, else-streams-gt-MOST_STREAMS}
use Rattle.road_streams.proofs.bad_streams.Goals as goal

pub returns-then-steps-gt180000 : goal.returns-then-steps-gt180000
unfolding bad_streams stream_count
returns-then-steps-gt180000 c =
    elim c.if-streams-gt-MOST_STREAMS.branch [
      | then-streams-gt-MOST_STREAMS w ↦ elim c.if-streams-ne0.branch [ then-streams-ne0 v ↦ grind (arith, nat_tests) | else-streams-ne0 v ↦ grind (arith, nat_tests) ]
      | else-streams-gt-MOST_STREAMS w ↦ elim c.if-streams-ne0.branch [ then-streams-ne0 v ↦ grind (arith, nat_tests) | else-streams-ne0 v ↦ grind (arith, nat_tests) ]
    ]

pub returns-else-steps-gt180000 : goal.returns-else-steps-gt180000
unfolding bad_streams stream_count
returns-else-steps-gt180000 c =
    elim c.if-streams-gt-MOST_STREAMS.branch [
      | then-streams-gt-MOST_STREAMS w ↦ elim c.if-streams-ne0.branch [ then-streams-ne0 v ↦ grind (arith, nat_tests) | else-streams-ne0 v ↦ grind (arith, nat_tests) ]
      | else-streams-gt-MOST_STREAMS w ↦ elim c.if-streams-ne0.branch [ then-streams-ne0 v ↦ grind (arith, nat_tests) | else-streams-ne0 v ↦ grind (arith, nat_tests) ]
    ]
