-- The row keeps its length.
use Rattle.std.proofs.Common.{◌≡◌, length}
use Rattle.run_road.proofs.watch.Given as goal

abbrev pub invariant-loop-i : goal.invariant-loop-i
invariant-loop-i l = length l.longest ≡ length l.fn.longest
