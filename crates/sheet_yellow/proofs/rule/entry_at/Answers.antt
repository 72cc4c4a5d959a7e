-- The quotient rounded up.
use Rattle.std.proofs.Common.{◌*◌, arith}
use Rattle.sheet_yellow.specs.Columns.{entry_at, divisor_at}
use Rattle.sheet_yellow.proofs.Stated.{ceiling-is}
use Rattle.sheet_yellow.proofs.rule.entry_at.Goals as goal

pub returns : goal.returns
unfolding entry_at
returns c = let e = ceiling-is (100000 * c.args.speed) (divisor_at c.args.column) (omega arith) in omega arith
