use Rattle.std.proofs.Common.{◌≡◌, ◌^◌, ◌∙◌, ◌||◌, leb, nat_eq, not, bit_and}
use Rattle.rules.specs.Personality.{group_count, bad_conflict}
use Rattle.read_conflicts.proofs.ComparedSets.{named-tested}
use Rattle.read_conflicts.proofs.records.bad_conflict.Goals as goal
use Rattle.read_conflicts.proofs.records.bad_conflict.Goals.{Joined-bit32, then-bit32, else-bit32}

-- the set is tested against the groups that name g as a whole
tested :
    (c : Joined-bit32) →
    let set = c.conflict_set-set.result in
    (c.if-bit32.value || not (nat_eq (bit_and set c.args.named) set)) ≡ bad_conflict c.args.m.now c.args.g
tested c =
    let set = c.conflict_set-set.result in
    let either : c.if-bit32.value ≡ (c.bit32.result || leb (2 ^ group_count c.args.m.now) set) =
    elim c.if-bit32.branch [
      | then-bit32 w ↦ rw w.if-bit32.true (w.value-is ∙ w.if-bit32.true)
      | else-bit32 w ↦ rw w.if-bit32.false (w.value-is ∙ rw (c.m.invariant.laid.groupcount, c.m.view_is) at w.reaches32.ensures)
    ]
    in
    rw (either, c.bit32.ensures, c.conflict_set-set.ensures) (named-tested c.requires.1)

pub returns-then-reaches32 : goal.returns-then-reaches32
returns-then-reaches32 c = c.if-reaches32.true ∙ (rw c.if-reaches32.true at (tested (goal.at.returns-then-reaches32 c).Joined-bit32))

pub returns-else-reaches32 : goal.returns-else-reaches32
returns-else-reaches32 c = rw c.if-reaches32.false at (tested (goal.at.returns-else-reaches32 c).Joined-bit32)
