-- Its tests are those of the rule.
use Rattle.state_valid.proofs.Records.{phase-joined}
use Rattle.state_valid.proofs.settings.phase_within.Goals as goal

pub returns : goal.returns
returns c = cc (phase-joined c.args.table c.args.early c.args.times)
