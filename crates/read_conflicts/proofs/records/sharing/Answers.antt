use Rattle.std.proofs.Common.{sym, ◌∙◌}
use Rattle.read_conflicts.proofs.ComparedSets.{united-none, united-with, united-same}
use Rattle.read_conflicts.proofs.records.sharing.Goals as goal
use Rattle.read_conflicts.proofs.records.sharing.Goals.{then-bit32, else-bit32}

pub loop-p-init : goal.loop-p-init
loop-p-init c = united-none

pub loop-p-preserved : goal.loop-p-preserved
loop-p-preserved c =
    let known = c.loop-p.invariant in
    let asked = sym c.bit32.ensures in
    elim c.if-bit32.branch [
      | then-bit32 w ↦ united-with known (asked ∙ w.if-bit32.true) w.all-is
      | else-bit32 w ↦ united-same known (asked ∙ w.if-bit32.false) w.all-is
    ]
