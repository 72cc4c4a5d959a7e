-- The sum is start red and the shares of the phases passed.
use Rattle.std.proofs.Common.{◌+◌, ◌≡◌}
use Rattle.laws.specs.Folds.{sum_of}
use Rattle.wait_bound.proofs.Sums.{share_at}
use Rattle.wait_bound.proofs.wait_bound.Given as goal

abbrev pub invariant-loop-p : goal.invariant-loop-p
invariant-loop-p l = l.sum ≡ l.times.start + sum_of (share_at l.times.phases l.longest) l.p
