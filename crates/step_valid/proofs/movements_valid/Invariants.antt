-- The movement records passed are valid.
use Rattle.std.proofs.Common.{true}
use Rattle.laws.proofs.Folds.{Tested}
use Rattle.step_valid.proofs.Records.{passes}
use Rattle.step_valid.proofs.movements_valid.Given as goal

abbrev pub invariant-loop-k : goal.invariant-loop-k
invariant-loop-k l = Tested (passes l.count l.crossings l.position l.fn.movements) 8 true l.k
