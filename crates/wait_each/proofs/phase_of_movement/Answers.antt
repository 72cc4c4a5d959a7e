use Rattle.std.proofs.Common.{◌∙◌, refl, sym, arith}
use Rattle.laws.specs.Folds.{greatest_of}
use Rattle.wait_each.proofs.Waits.{phase-more, phase-past, all-phases}
use Rattle.wait_each.proofs.phase_of_movement.Goals as goal
use Rattle.wait_each.proofs.phase_of_movement.Goals.{then-bit8, else-bit8}

pub loop-p-init : goal.loop-p-init
unfolding greatest_of
loop-p-init c = refl

pub loop-p-preserved : goal.loop-p-preserved
loop-p-preserved c =
    elim c.if-bit8.branch [
      | then-bit8 w ↦ omega (arith, w.most-is, w.max-most.ensures, c.loop-p.invariant, phase-more _ c.loop-p.p (sym c.bit8.ensures ∙ w.if-bit8.true))
      | else-bit8 w ↦ w.most-is ∙ c.loop-p.invariant ∙ phase-past _ c.loop-p.p (sym c.bit8.ensures ∙ w.if-bit8.false)
    ]

pub returns : goal.returns
returns c =
    rw (← c.site.view_is)
    (all-phases c.site.inside.site c.args.m c.loop-p.most c.loop-p.p (rw c.from.ensures at c.loop-p.invariant) (omega arith))
