-- Its tests are those of the rule.
use Rattle.state_valid.proofs.Records.{walk-joined}
use Rattle.state_valid.proofs.settings.walk_within.Goals as goal

pub returns : goal.returns
returns c = cc (walk-joined c.args.table c.args.times)
