use Rattle.std.proofs.Common.{◌+◌, ◌*◌, ltb}
use Rattle.laws.proofs.Folds.{Tested}
use Rattle.state_bytes.specs.Layout.{stage}
use Rattle.state_bytes.proofs.movements.known.Given as goal

abbrev pub invariant-loop-k : goal.invariant-loop-k
invariant-loop-k l = Tested (λ k. stage.known l.bytes (l.at + k * 3 + 0)) 8 (ltb l.joined 4) l.k
