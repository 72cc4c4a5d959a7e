-- The sets that the scan and the buttons give are those of the rules, and the parts of part 1 follow from them.
use Rattle.std.proofs.Common.{◌<◌, rules, arith}
use Rattle.rules.specs.Laws.{Sound}
use Rattle.step_demands.proofs.Sites.{tabled}
use Rattle.step_demands.proofs.PartOne.{asked-told}
use Rattle.step_demands.proofs.register.Goals as goal

pub sense-sensed-requires : goal.sense-sensed-requires
sense-sensed-requires c =
    let site = c.args.site.now in
    let sound : Sound site = rw c.site.view_is at c.site.invariant in
    (tabled site sound _ c.detectors.ensures.row c.detectors.ensures.count, omega (arith, c.requires, sound.phases.1))

pub returns : goal.returns
returns c =
    let a = c.args in
    let site = a.site.now in
    let sound : Sound site = rw c.site.view_is at c.site.invariant in
    let locks_small : a.state.core.demands.locks < 256 = search rules in
    let kept_small : a.state.kept < 256 = search rules in
    asked-told site a.state a.inputs _ c.sense-sensed.result c.in_green-green.result
    c.except-locking.result c.except-calling.result
    c.detectors.ensures.row c.detectors.ensures.count
    c.sense-sensed.ensures c.in_green-green.ensures c.except-locking.ensures c.except-calling.ensures
    c.press-pressed.result.buttons c.press-pressed.result.phases c.next_after.result
    c.press-pressed.ensures.0 (rw c.site.view_is at c.press-pressed.ensures.1) (rw c.ring.ensures at c.next_after.ensures)
    sound locks_small kept_small
