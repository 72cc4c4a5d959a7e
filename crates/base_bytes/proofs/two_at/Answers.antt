use Rattle.std.proofs.Common.{arith, sym}
use Rattle.laws.specs.Bytes.{byte_at, two_at}
use Rattle.laws.proofs.Bytes.{two_past}
use Rattle.base_bytes.proofs.two_at.Goals as goal

pub returns-then-i-s : goal.returns-then-i-s
unfolding two_at byte_at
returns-then-i-s c = omega (arith, c.from_le_bytes.ensures, c.byte_at.ensures)

pub returns-else-i-s : goal.returns-else-i-s
returns-else-i-s c = sym (two_past c.args.s.now c.args.i c.if-i-s.false)
