use Rattle.std.proofs.Common.{rules}
use Rattle.laws.proofs.ByteSets.{without-told}
use Rattle.base_bytes.proofs.sets.without.Goals as goal

pub returns : goal.returns
returns c = without-told c.args.set c.args.k (search rules) (search rules)
