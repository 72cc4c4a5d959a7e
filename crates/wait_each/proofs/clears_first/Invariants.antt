-- The greatest so far is that of the phases passed.
use Rattle.std.proofs.Common.{◌≡◌}
use Rattle.wait_each.proofs.Waits.{first_of}
use Rattle.wait_each.proofs.clears_first.Given as goal

abbrev pub invariant-loop-r : goal.invariant-loop-r
invariant-loop-r l = l.most ≡ first_of l.site l.q l.r
