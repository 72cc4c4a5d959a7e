use Rattle.std.proofs.Common.{◌≡◌, false, ap, ◌∙◌}
use Rattle.laws.proofs.Booleans.{and-false-left}
use Rattle.cabinet_records.specs.Cabinet.{has_record, overlaps}
use Rattle.cabinet_held.proofs.Rows.{placing-none}
use Rattle.willowera.proofs.Read.{absent-row, absent-past, placed-row}
use Rattle.willowera.proofs.cabinet.willowera_cabinet_place.Goals as goal
use Rattle.willowera.proofs.cabinet.willowera_cabinet_place.Goals.{then-row-ne4-via-then-row-ne4, then-row-ne4-via-else-row-ne4+then-k-ge4}

pub returns-then-row-ne4 : goal.returns-then-row-ne4
returns-then-row-ne4 c =
    let a = c.args in
    let none : has_record a.row.now a.k ≡ false = elim c.then-row-ne4.branch [
      | then-row-ne4-via-then-row-ne4 w ↦ absent-row a.row.now a.k w.if-row-ne4.true
      | then-row-ne4-via-else-row-ne4+then-k-ge4 w ↦ absent-past a.row.now a.k w.if-k-ge4.true
    ] in
    rw c.placed_nowhere.ensures (placing-none a.row.now a.outputs.now a.k a.personality.now a.first (and-false-left _ none))

pub returns : goal.returns
returns c =
    let a = c.args in
    let met = c.overlaps-met.ensures ∙ ap (overlaps a.row.now a.k a.first) c.outputs_of-count.ensures in
    placed-row a.row.now a.outputs.now a.k c.if-row-ne4.false c.if-k-ge4.false _ a.personality.now a.first met c.place.ensures
