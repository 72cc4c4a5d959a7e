-- A free record is refused; a held one is stepped.
use Rattle.cabinet_records.specs.declared.Record.{Record}
use Rattle.cabinet_held.proofs.Room.{room-part}
use Rattle.cabinet_parts.proofs.Stepping.{step-free, step-held}
use Rattle.cabinet_parts.proofs.step.Goals as goal

pub returns-then-held-eq0 : goal.returns-then-held-eq0
returns-then-held-eq0 c = step-free _ _ _ c.if-held-eq0.true c.refusal.ensures

pub returns : goal.returns
returns c =
    let a = c.args in
    let own : Record = record { held = a.held; first = a.first; length = a.size.now; personality = a.room.now; state = a.state.now } in
    step-held own _ _ c.if-held-eq0.false (room-part own c.told-room c.held_size-count.ensures) c.held_step.ensures
