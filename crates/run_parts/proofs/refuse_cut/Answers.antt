use Rattle.rules.specs.Trace.{cut}
use Rattle.run_parts.proofs.refuse_cut.Goals as goal

pub returns : goal.returns
unfolding cut
returns c = c.refuse.ensures
