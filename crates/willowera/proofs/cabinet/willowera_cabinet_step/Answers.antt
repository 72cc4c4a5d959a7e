use Rattle.std.proofs.Common.{◌≡◌, false}
use Rattle.laws.proofs.Booleans.{and-false-left}
use Rattle.cabinet_records.specs.Cabinet.{has_record, with_state}
use Rattle.cabinet_held.proofs.Rows.{stepping-none}
use Rattle.willowera.proofs.Read.{absent-row, absent-past, stepped-row}
use Rattle.willowera.proofs.cabinet.willowera_cabinet_step.Goals as goal
use Rattle.willowera.proofs.cabinet.willowera_cabinet_step.Goals.{then-row-ne4-via-then-row-ne4, then-row-ne4-via-else-row-ne4+then-k-ge4}

pub returns-then-row-ne4 : goal.returns-then-row-ne4
returns-then-row-ne4 c =
    let a = c.args in
    let none : has_record a.row.now a.k ≡ false = elim c.then-row-ne4.branch [
      | then-row-ne4-via-then-row-ne4 w ↦ absent-row a.row.now a.k w.if-row-ne4.true
      | then-row-ne4-via-else-row-ne4+then-k-ge4 w ↦ absent-past a.row.now a.k w.if-k-ge4.true
    ] in
    stepping-none a.row.now a.outputs.now a.k (and-false-left _ none) a.inputs

pub returns : goal.returns
unfolding with_state
returns c =
    let a = c.args in
    stepped-row a.row.now a.outputs.now a.k c.if-row-ne4.false c.if-k-ge4.false _ a.inputs c.step.ensures
