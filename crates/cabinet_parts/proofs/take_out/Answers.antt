-- A free record is refused; a held one is taken out.
use Rattle.std.proofs.Common.{arith}
use Rattle.cabinet_held.proofs.Checks.{taking-near, near_err}
use Rattle.cabinet_held.proofs.Room.{room-part}
use Rattle.cabinet_parts.proofs.Taking.{free-record, held-record, taking-free, taking-accepted, taking-refused, cleared}
use Rattle.cabinet_parts.proofs.take_out.Goals as goal

pub returns-then-own-eq0 : goal.returns-then-own-eq0
returns-then-own-eq0 c = taking-free _ _ (free-record _ c.if-own-eq0.true) c.refusal.ensures

pub refusal-requires-in-Err : goal.refusal-requires-in-Err
refusal-requires-in-Err c = near_err c.held_taking.ensures.0 (taking-near _ _ _) c.in-Err.is

pub returns-in-Err : goal.returns-in-Err
returns-in-Err c =
    let own = c.args.own.now in
    let asked = c.held_taking in
    taking-refused own _ (held-record own c.if-own-eq0.false) (room-part own (omega arith) c.held_size-count.ensures) asked.ensures.0 asked.ensures.1
    c.in-Err.is c.refusal-in-Err.ensures

pub returns-in-Ok : goal.returns-in-Ok
returns-in-Ok c =
    let own = c.args.own.now in
    let asked = c.held_taking in
    taking-accepted own _ (held-record own c.if-own-eq0.false) (room-part own (omega arith) c.held_size-count.ensures) asked.ensures.0 asked.ensures.1
    c.in-Ok.is
    (cleared own.length own.personality own.state (omega arith) (c.fill.ensures.after (λ y same. same))
    (omega arith) (c.fill-in-Ok.ensures.after (λ y same. same))
    (omega arith) (c.fill-in-Ok-2.ensures.after (λ y same. same)))
