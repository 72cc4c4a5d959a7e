use Rattle.std.proofs.Common.{refl, sym, ◌∙◌}
use borrow.Author.Tests.{le-ltb}
use Rattle.laws.specs.Bytes.{bit}
use Rattle.laws.proofs.Bits.{bit-above}
use Rattle.base_bytes.proofs.bit32.Goals as goal

pub returns-then-k-lt32 : goal.returns-then-k-lt32
unfolding bit
returns-then-k-lt32 c = refl

pub returns-else-k-lt32 : goal.returns-else-k-lt32
returns-else-k-lt32 c = le-ltb _ _ c.if-k-lt32.false ∙ sym (bit-above c.args.x 32 c.args.k c.ranges.x.fits c.if-k-lt32.false)
