-- The detector of a turn is one of those there are, so its cell is within the table.
use Rattle.std.proofs.Common.{◌<◌, arith}
use Rattle.rules.specs.Site.{detector_of}
use Rattle.step_demands_detectors.proofs.Cells.{none-entered, turn-within, cell-within, one-entered, all-entered}
use Rattle.step_demands_detectors.proofs.table.Goals as goal

pub loop-rest-init : goal.loop-rest-init
loop-rest-init c = none-entered c.args.detectors.now c.args.inputs c.requires

pub bounds-detectors-rest : goal.bounds-detectors-rest
bounds-detectors-rest c =
    let a = c.args in
    let some : 0 < c.loop-rest.rest = omega arith in
    omega (arith, turn-within a.detectors.now a.inputs c.requires c.loop-rest.invariant some, c.requires.room)

pub overflow_mul-set : goal.overflow_mul-set
unfolding detector_of
overflow_mul-set c =
    let a = c.args in
    let some : 0 < c.loop-rest.rest = omega arith in
    omega (arith, cell-within a.detectors.now a.inputs c.requires c.loop-rest.invariant some)

pub overflow_add-set : goal.overflow_add-set
unfolding detector_of
overflow_add-set c =
    let a = c.args in
    let some : 0 < c.loop-rest.rest = omega arith in
    omega (arith, cell-within a.detectors.now a.inputs c.requires c.loop-rest.invariant some)

pub overflow_shl-set : goal.overflow_shl-set
unfolding detector_of
overflow_shl-set c =
    let a = c.args in
    let some : 0 < c.loop-rest.rest = omega arith in
    cell-within a.detectors.now a.inputs c.requires c.loop-rest.invariant some

pub loop-rest-preserved : goal.loop-rest-preserved
unfolding detector_of
loop-rest-preserved c =
    let a = c.args in
    let some : 0 < c.loop-rest.rest = omega arith in
    one-entered a.detectors.now a.inputs c.requires c.loop-rest.invariant some

pub returns : goal.returns
returns c = all-entered c.args.detectors.now c.args.inputs c.requires c.loop-rest.invariant c.loop-rest-test.false
