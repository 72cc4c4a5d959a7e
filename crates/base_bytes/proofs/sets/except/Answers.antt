use Rattle.std.proofs.Common.{rules}
use Rattle.laws.proofs.ByteSets.{except-told}
use Rattle.base_bytes.proofs.sets.except.Goals as goal

pub returns : goal.returns
returns c = except-told c.args.set c.args.other (search rules) (search rules)
