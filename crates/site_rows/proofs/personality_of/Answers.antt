-- An accepted personality fits a site, and the pass counts its movements.
use Rattle.std.proofs.Common.{ap}
use Rattle.site_rows.specs.Fitting.{group_rows_in}
use Rattle.site_rows.specs.declared.GroupRows.{GroupRows}
use Rattle.site_rows.proofs.Accepted.{accepted-fits}
use Rattle.site_rows.proofs.personality_of.Goals as goal

pub rows_of-movements-requires : goal.rows_of-movements-requires
rows_of-movements-requires c = accepted-fits c.requires.0 c.requires.1

pub invariant_of-result-2 : goal.invariant_of-result-2
unfolding group_rows_in
invariant_of-result-2 c = (c.requires.0, ap (λ (rows : GroupRows). rows.movements) c.rows_of-movements.ensures)
