-- The tests of the definition.
use Rattle.std.proofs.Common.{arith}
use Rattle.std.proofs.lemmas.Bool.Decides.{nat_tests}
use Rattle.road_streams.specs.Road.{bad_stream}
use Rattle.road_streams.proofs.bad_stream.Goals.{then-stream-gt1800, else-stream-gt1800}
use Rattle.road_streams.proofs.bad_stream.Goals as goal

pub returns-then-stream-site : goal.returns-then-stream-site
unfolding bad_stream
returns-then-stream-site c =
    elim c.if-stream-gt1800.branch [ then-stream-gt1800 w ↦ grind (arith, nat_tests) | else-stream-gt1800 w ↦ grind (arith, nat_tests) ]

pub returns-else-stream-site : goal.returns-else-stream-site
unfolding bad_stream
returns-else-stream-site c =
    elim c.if-stream-gt1800.branch [ then-stream-gt1800 w ↦ grind (arith, nat_tests) | else-stream-gt1800 w ↦ grind (arith, nat_tests) ]
