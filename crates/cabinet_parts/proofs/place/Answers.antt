-- A refusal, or a record that holds the personality and outputs that are red.
use Rattle.std.proofs.Common.{arith, refl}
use Rattle.cabinet_records.specs.Cabinet.{is_free}
use Rattle.cabinet_held.proofs.Checks.{placing-near, placing-read, placing-within, accepted-fits, near_err}
use Rattle.cabinet_parts.proofs.Placing.{placing-refused, placing-accepted, held-parts}
use Rattle.cabinet_parts.proofs.place.Goals as goal

pub refusal-requires : goal.refusal-requires
refusal-requires c = near_err refl (placing-near _ _ _ _ _) c.in-Err.ensures.unplaced.0

pub returns-in-Err : goal.returns-in-Err
unfolding is_free
returns-in-Err c = placing-refused c.args.own.now _ _ _ _ refl c.held_placing.ensures.outputs c.in-Err.ensures.unplaced.0 c.refusal.ensures

pub overflow_cast-own : goal.overflow_cast-own
overflow_cast-own c = record { fits = omega (arith, placing-within _ _ _ _ _ c.in-Ok.ensures.placed.0) }

pub overflow_cast-personality : goal.overflow_cast-personality
overflow_cast-personality c = record { fits = omega (arith, accepted-fits _ (placing-read _ _ _ _ _ c.in-Ok.ensures.placed.0)) }

pub store-requires : goal.store-requires
store-requires c = omega (arith, accepted-fits _ (placing-read _ _ _ _ _ c.in-Ok.ensures.placed.0))

pub returns-in-Ok : goal.returns-in-Ok
unfolding is_free
returns-in-Ok c =
    let own = c.args.own.now in
    let told = c.in-Ok.ensures.placed in
    placing-accepted own _ _ _ _ refl c.held_placing.ensures.outputs told.0
    (held-parts c.args.personality.now own.length own.personality own.state c.args.first
    (omega arith) c.put_two.ensures (omega arith) c.store.ensures (omega arith) (rw told.1 at c.fresh_state.ensures))
