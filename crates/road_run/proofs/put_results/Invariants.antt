-- The results of the streams passed are stored.
use Rattle.std.proofs.Common.{length}
use Rattle.state_forms.specs.Forms.{parts_of}
use Rattle.laws.proofs.Arrays.{Stored}
use Rattle.road_streams.specs.Road.{traffic_of, result_of}
use Rattle.road_run.proofs.put_results.Given as goal

abbrev pub invariant-loop-i : goal.invariant-loop-i
invariant-loop-i l = Stored (parts_of (λ i. result_of (traffic_of l.fn.cells i))) l.fn.results 0 (length l.fn.cells) l.results l.i
