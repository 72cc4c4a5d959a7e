-- The turns of the inner loop take the phases of a movement, the lowest first. That W + C1 fits is asked of the caller.
use Rattle.std.proofs.Common.{◌<◌, ◌^◌, refl, ◌∙◌, length-set, get_or, rules, arith}
use Rattle.laws.proofs.LowestBit.{left-all}
use Rattle.wait_bound_movements.proofs.Reached.{none-reached, turn-begins, turn-ends, phase-within, phase-left, phase-more}
use Rattle.wait_bound_movements.proofs.longest_of.Goals as goal

pub loop-k-init : goal.loop-k-init
loop-k-init c = (refl, none-reached c.args.crossings.now c.args.walks.now)

pub loop-rest-init : goal.loop-rest-init
loop-rest-init c =
    let a = c.args in
    let k = c.loop-k in
    let small : get_or a.crossings.now k.k 0 < 2 ^ 8 = search rules in
    rw c.from-rest.ensures (k.invariant.0, left-all _ 8 small, turn-begins a.crossings.now a.walks.now k.k k.longest k.invariant.1)

pub bounds-longest-rest : goal.bounds-longest-rest
bounds-longest-rest c =
    let at = c.loop-rest in
    phase-within c.args.crossings.now c.args.walks.now c.loop-k.k at.longest at.invariant.1 at.invariant.2 (omega arith)

pub loop-rest-preserved : goal.loop-rest-preserved
loop-rest-preserved c =
    let a = c.args in
    let k = c.loop-k.k in
    let at = c.loop-rest in
    let left = at.invariant.1 in
    let by = at.invariant.2 in
    let some : 0 < at.rest = omega arith in (
      length-set _ _ _ ∙ at.invariant.0,
      phase-left a.crossings.now a.walks.now k at.longest left by some,
      phase-more a.crossings.now a.walks.now k at.longest left by some at.invariant.0 c.max-so_far.ensures c.max-so_far-in-loop-rest.ensures,
    )

pub loop-k-preserved : goal.loop-k-preserved
loop-k-preserved c =
    let at = c.loop-rest in
    (at.invariant.0, turn-ends c.args.crossings.now c.args.walks.now c.loop-k.k at.longest c.loop-rest-test.false at.invariant.2)
