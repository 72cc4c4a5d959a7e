use Rattle.std.proofs.Common.{◌∙◌, refl, ap, arith}
use Rattle.laws.specs.Folds.{sum_of}
use Rattle.rules.specs.Laws.{Sound}
use Rattle.rules.specs.Waits.{rest_of}
use Rattle.wait_each.proofs.Waits.{other_turn, turn-fits, turn-more, turn-past}
use Rattle.wait_each.proofs.rest_of.Goals as goal
use Rattle.wait_each.proofs.rest_of.Goals.{then-p-q, else-p-q}

pub loop-p-init : goal.loop-p-init
unfolding sum_of
loop-p-init c = refl

pub overflow_add-sum : goal.overflow_add-sum
overflow_add-sum c =
    let fits = turn-fits c.args.site.now (rw c.site.view_is at c.site.invariant) c.args.q c.requires c.loop-p.p (rw c.site.view_is at c.loop-p-test.true) c.if-p-q.true in
    omega (arith, fits, c.loop-p.invariant, c.turn_of-sum.ensures)

pub loop-p-preserved : goal.loop-p-preserved
loop-p-preserved c =
    let site = c.args.site.now in
    let sound : Sound site = rw c.site.view_is at c.site.invariant in
    let p = c.loop-p.p in
    elim c.if-p-q.branch [
      | then-p-q w ↦ omega (arith, w.sum-is, c.loop-p.invariant, w.turn_of-sum.ensures, turn-more site sound c.args.q c.requires p w.if-p-q.true)
      | else-p-q w ↦ w.sum-is ∙ c.loop-p.invariant ∙ turn-past site sound c.args.q c.requires p w.if-p-q.false
    ]

pub returns : goal.returns
unfolding rest_of
returns c =
    c.loop-p.invariant ∙ ap (sum_of (other_turn c.args.site.now c.args.q)) (rw (← c.site.view_is) (omega arith))
