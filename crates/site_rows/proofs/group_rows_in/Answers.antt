-- A value that fits has the clause of the pass.
use Rattle.site_rows.proofs.group_rows_in.Goals as goal

pub rows_of-requires : goal.rows_of-requires
rows_of-requires c = c.f.invariant.0

pub returns : goal.returns
returns c = rw c.f.view_is at c.rows_of.ensures
