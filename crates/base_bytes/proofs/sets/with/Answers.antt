use Rattle.std.proofs.Common.{rules}
use Rattle.laws.proofs.ByteSets.{with-told}
use Rattle.base_bytes.proofs.sets.with.Goals as goal

pub returns : goal.returns
returns c = with-told c.args.set c.args.k (search rules) (search rules)
