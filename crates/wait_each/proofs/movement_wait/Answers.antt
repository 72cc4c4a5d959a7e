use Rattle.std.proofs.Common.{arith}
use Rattle.rules.specs.Waits.{movement_wait_by}
use Rattle.wait_each.proofs.Waits.{movement-fits}
use Rattle.wait_each.proofs.movement_wait.Goals as goal

pub overflow_add-result : goal.overflow_add-result
unfolding movement_wait_by
overflow_add-result c =
    let pre = c.requires in
    omega (
      arith,
      movement-fits c.args.site.now (rw c.site.view_is at c.site.invariant) c.args.q pre.0 c.args.m pre.1 pre.2,
      c.max.ensures,
      c.own_of.ensures,
      c.clears_first.ensures,
      c.rest_of.ensures,
    )

pub returns : goal.returns
unfolding movement_wait_by
returns c = omega (arith, c.max.ensures, c.own_of.ensures, c.clears_first.ensures, c.rest_of.ensures)
