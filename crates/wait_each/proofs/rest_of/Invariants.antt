-- The sum is that of the phases passed.
use Rattle.std.proofs.Common.{◌≡◌}
use Rattle.laws.specs.Folds.{sum_of}
use Rattle.wait_each.proofs.Waits.{other_turn}
use Rattle.wait_each.proofs.rest_of.Given as goal

abbrev pub invariant-loop-p : goal.invariant-loop-p
invariant-loop-p l = l.sum ≡ sum_of (other_turn l.site l.q) l.p
