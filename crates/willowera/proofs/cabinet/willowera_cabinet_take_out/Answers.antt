use Rattle.std.proofs.Common.{◌≡◌, false}
use Rattle.laws.proofs.Booleans.{and-false-left}
use Rattle.cabinet_records.specs.Cabinet.{has_record}
use Rattle.cabinet_held.proofs.Rows.{taking-none}
use Rattle.willowera.proofs.Read.{absent-row, absent-past, taken-row}
use Rattle.willowera.proofs.cabinet.willowera_cabinet_take_out.Goals as goal
use Rattle.willowera.proofs.cabinet.willowera_cabinet_take_out.Goals.{then-row-ne4-via-then-row-ne4, then-row-ne4-via-else-row-ne4+then-k-ge4}

pub returns-then-row-ne4 : goal.returns-then-row-ne4
returns-then-row-ne4 c =
    let a = c.args in
    let none : has_record a.row.now a.k ≡ false = elim c.then-row-ne4.branch [
      | then-row-ne4-via-then-row-ne4 w ↦ absent-row a.row.now a.k w.if-row-ne4.true
      | then-row-ne4-via-else-row-ne4+then-k-ge4 w ↦ absent-past a.row.now a.k w.if-k-ge4.true
    ] in
    taking-none a.row.now a.outputs.now a.k (and-false-left _ none)

pub returns : goal.returns
returns c =
    let a = c.args in
    taken-row a.row.now a.outputs.now a.k c.if-row-ne4.false c.if-k-ge4.false _ c.take_out.ensures
