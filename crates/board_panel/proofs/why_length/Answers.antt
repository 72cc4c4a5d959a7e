-- By what the checks leave to say.
use Rattle.std.proofs.Common.{[], ap, ◌∙◌}
use Rattle.board_answers.specs.Answers.{packed}
use Rattle.board_panel.proofs.PanelCalls.{length-refused, length-told}
use Rattle.board_panel.proofs.why_length.Goals as goal

pub returns-in-Err : goal.returns-in-Err
returns-in-Err c =
    let a = c.args in
    length-refused a.personality.now a.state.now a.inputs c.in-Err.ensures.0 c.refusal.ensures

pub returns-in-Ok-None : goal.returns-in-Ok-None
returns-in-Ok-None c =
    let a = c.args in
    length-told a.personality.now a.state.now a.inputs [] (rw c.in-Ok-None.field-0-is at c.in-Ok-None.ensures) c.packed.ensures

pub returns-in-Ok-Some : goal.returns-in-Ok-Some
returns-in-Ok-Some c =
    let a = c.args in
    let told = rw c.in-Ok-Some.field-0-is at c.in-Ok-Some.ensures in
    let e = c.packed-in-Ok-Some.ensures in
    length-told a.personality.now a.state.now a.inputs _ (told.0, told.1)
    (c.packed-in-Ok-Some.ensures ∙ ap (packed 0) c.line_length.ensures.0)
