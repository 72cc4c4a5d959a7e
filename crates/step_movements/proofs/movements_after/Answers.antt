-- The records past the count are idle, so a step leaves them as they were.
use Rattle.std.proofs.Common.{rules, ◌≡◌, length}
use Rattle.rules.specs.Site.{walk_times}
use Rattle.rules.specs.Movements.{movements_after}
use Rattle.laws.proofs.Arrays.{fill_none}
use Rattle.step_movements.proofs.Idle.{pass_more, pass_done}
use Rattle.step_movements.proofs.movements_after.Goals as goal

pub loop-k-init : goal.loop-k-init
loop-k-init c = fill_none _ _

pub loop-k-preserved : goal.loop-k-preserved
loop-k-preserved c = pass_more _ _ _ _ _ _ _ _ c.loop-k.invariant c.loop-k-test.true c.advanced.ensures

pub returns : goal.returns
unfolding movements_after walk_times
returns c =
    let a = c.args in
    let eight : length a.movements ≡ 8 = search rules in
    pass_done a.times.now.walks a.may_end a.movements c.from.result c.loop-k.k c.loop-k.movement-items eight (rw c.from.ensures c.requires) c.loop-k.invariant c.loop-k.auto.k-end
    c.loop-k-test.false
