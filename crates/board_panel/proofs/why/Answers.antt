-- By what the checks leave to say.
use Rattle.std.proofs.Common.{[], refl, arith}
use Rattle.board_panel.proofs.PanelCalls.{why-refused, why-told, has_room}
use Rattle.board_panel.proofs.why.Goals as goal

pub returns-in-Err : goal.returns-in-Err
returns-in-Err c =
    let a = c.args in
    why-refused a.personality.now a.state.now a.inputs a.line.now c.in-Err.ensures.0 c.refusal.ensures

pub returns-in-Ok-None : goal.returns-in-Ok-None
returns-in-Ok-None c =
    let a = c.args in
    why-told a.personality.now a.state.now a.inputs a.line.now [] (rw c.in-Ok-None.field-0-is at c.in-Ok-None.ensures)
    (has_room [] a.line.now (omega arith) c.packed.ensures refl)

pub returns-in-Ok-Some : goal.returns-in-Ok-Some
returns-in-Ok-Some c =
    let a = c.args in
    let told = rw c.in-Ok-Some.field-0-is at c.in-Ok-Some.ensures in
    why-told a.personality.now a.state.now a.inputs a.line.now _ (told.0, told.1) c.put_in.ensures
