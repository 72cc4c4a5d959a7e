use Rattle.std.proofs.Common.{ℕ, ap, arith}
use lib.Dec.{eqb}
use Rattle.laws.proofs.Folds.{tested-none, tested-all}
use Rattle.state_valid.proofs.Words.{four-tested}
use Rattle.state_valid.proofs.zeros.all.Goals as goal

pub loop-i-init : goal.loop-i-init
loop-i-init c = tested-none

pub loop-i-preserved : goal.loop-i-preserved
loop-i-preserved c = four-tested c.args.bytes.now c.args.at c.loop-i.invariant c.loop-i-test.true (ap (λ (x : ℕ). eqb x 0) c.four_in.ensures)

pub returns : goal.returns
returns c = tested-all c.loop-i.invariant (omega arith)
