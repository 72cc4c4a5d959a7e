use Rattle.std.proofs.Common.{arith, sym}
use Rattle.laws.specs.Bytes.{byte_at}
use Rattle.laws.proofs.Bytes.{four-past}
use Rattle.base_bytes.proofs.Joined.{four-by-bytes}
use Rattle.base_bytes.proofs.four_at.Goals as goal

pub returns-then-i-s : goal.returns-then-i-s
unfolding byte_at
returns-then-i-s c = rw four-by-bytes (omega (arith, c.from_le_bytes.ensures, c.byte_at.ensures, c.byte_at-then-i-s.ensures, c.byte_at-then-i-s-2.ensures))

pub returns-else-i-s : goal.returns-else-i-s
returns-else-i-s c = sym (four-past c.args.s.now c.args.i c.if-i-s.false)
