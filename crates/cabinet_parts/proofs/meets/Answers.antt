-- A free record has no outputs; of a held one its personality is asked.
use mathlib.Core.Path.{◌≡◌}
use native.Mathlib.Omega.{arith}
use Rattle.cabinet_records.specs.Cabinet.{has_outputs, meets_record}
use Rattle.cabinet_held.proofs.Room.{room-part}
use Rattle.cabinet_parts.proofs.Taking.{free-record, held-record}
use Rattle.cabinet_parts.proofs.meets.Goals as goal

pub returns-then-own-ne0 : goal.returns-then-own-ne0
unfolding meets_record has_outputs
returns-then-own-ne0 c =
    rw (held-record c.args.own.now c.if-own-ne0.true, ← room-part c.args.own.now (omega arith) c.held_size-length.ensures) c.meets.ensures

pub returns-else-own-ne0 : goal.returns-else-own-ne0
unfolding meets_record has_outputs
returns-else-own-ne0 c = let free : c.args.own.now.held ≡ 0 = omega arith in rw (free-record c.args.own.now free, free)
