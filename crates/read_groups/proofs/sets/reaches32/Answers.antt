use Rattle.std.proofs.Common.{sym, ◌∙◌}
use borrow.Author.Tests.{le-ltb}
use Rattle.laws.proofs.BitRanges.{reaches, reaches-none}
use Rattle.read_groups.proofs.sets.reaches32.Goals as goal

pub returns-then-k-lt32 : goal.returns-then-k-lt32
returns-then-k-lt32 c = reaches c.args.k c.args.x

pub returns-else-k-lt32 : goal.returns-else-k-lt32
returns-else-k-lt32 c = le-ltb c.args.k 32 c.if-k-lt32.false ∙ sym (reaches-none 32 c.args.k c.args.x c.ranges.x.fits c.if-k-lt32.false)
