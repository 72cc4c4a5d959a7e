use Rattle.std.proofs.Common.{sym}
use Rattle.laws.specs.Bytes.{eight_at}
use Rattle.laws.proofs.Bytes.{eight-past}
use Rattle.base_bytes.proofs.eight_at.Goals as goal

pub returns-then-i-s : goal.returns-then-i-s
unfolding eight_at
returns-then-i-s c = simp (c.from.ensures, c.from-then-i-s.ensures, c.four_at.ensures, c.four_at-then-i-s.ensures)

pub returns-else-i-s : goal.returns-else-i-s
returns-else-i-s c = sym (eight-past c.args.s.now c.args.i c.if-i-s.false)
