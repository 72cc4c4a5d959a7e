-- The bytes fit, and the pass counts their movements.
use Rattle.std.proofs.Common.{ap}
use Rattle.site_rows.specs.Fitting.{group_rows_in}
use Rattle.site_rows.specs.declared.GroupRows.{GroupRows}
use Rattle.site_rows.proofs.Fitted.new.Goals as goal

pub invariant_of-result : goal.invariant_of-result
unfolding group_rows_in
invariant_of-result c = (c.requires, ap (λ (rows : GroupRows). rows.movements) c.rows_of.ensures)
