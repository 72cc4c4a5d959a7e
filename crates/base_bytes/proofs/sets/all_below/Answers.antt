use Rattle.std.proofs.Common.{rules}
use Rattle.laws.proofs.ByteSets.{below-told}
use Rattle.base_bytes.proofs.sets.all_below.Goals as goal

pub returns : goal.returns
returns c = rw c.from.ensures (below-told c.args.set c.args.count (search rules))
