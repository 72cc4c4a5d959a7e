use Rattle.std.proofs.Common.{◌+◌, ◌*◌}
use lib.Dec.{eqb}
use Rattle.laws.specs.Bytes.{byte_at}
use Rattle.laws.proofs.Folds.{Tested}
use Rattle.state_valid.proofs.zeros.all.Given as goal

abbrev pub invariant-loop-i : goal.invariant-loop-i
invariant-loop-i l = Tested (λ k. eqb (byte_at l.bytes (l.at + k)) 0) (4 * l.fours) l.zero (4 * l.i)
