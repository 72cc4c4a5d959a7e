use Rattle.std.proofs.Common.{◌≡◌, length, arith}
use Rattle.rules.specs.State.{idle}
use Rattle.state_bytes.proofs.movements.put.Goals as goal

pub returns : goal.returns
returns c = let e : length c.args.movements ≡ 8 = omega arith in rw e at (c.put_row.ensures idle)
