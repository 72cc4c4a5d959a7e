-- The button of a turn is one of the eight.
use Rattle.std.proofs.Common.{◌≡◌, ◌<◌, not, Fits, w8, length, get_or, sym, ap, ◌∙◌, rules, arith}
use lib.Count.{count_trailing_zeros}
use Rattle.rules.specs.declared.state.Movement.{Movement}
use Rattle.rules.specs.declared.state.Stage.TheVariants.{Idle}
use Rattle.rules.specs.IntervalTable.{is_walk}
use Rattle.rules.specs.State.{idle}
use Rattle.laws.proofs.Lists.{entry-same}
use Rattle.step_demands_buttons.proofs.Crossed.{turn-within}
use Rattle.step_demands_buttons.proofs.Presses.{stays, none-pressed, one-pressed, one-dropped, all-pressed, all-kept}
use Rattle.step_demands_buttons.proofs.buttons.press.Goals as goal
use Rattle.step_demands_buttons.proofs.buttons.press.Goals.{then-not-dropped, else-not-dropped}

pub loop-rest-init : goal.loop-rest-init
loop-rest-init c = none-pressed c.args.buttons c.args.movements c.args.crossings.now c.args.inputs c.ranges.buttons.fits

pub bounds-movements-i : goal.bounds-movements-i
bounds-movements-i c =
    let some : 0 < c.loop-rest.rest = omega arith in
    omega (arith, turn-within c.loop-rest.invariant.keeps some (omega arith))

pub with-requires : goal.with-requires
with-requires c =
    let some : 0 < c.loop-rest.rest = omega arith in
    turn-within c.loop-rest.invariant.keeps some (omega arith)

pub bounds-crossings-i : goal.bounds-crossings-i
bounds-crossings-i c =
    let some : 0 < c.loop-rest.rest = omega arith in
    omega (arith, turn-within c.loop-rest.invariant.keeps some (omega arith))

pub loop-rest-preserved : goal.loop-rest-preserved
loop-rest-preserved c =
    let at = c.loop-rest in
    let a = c.args in
    let k = count_trailing_zeros 64 at.rest in
    let some : 0 < at.rest = omega arith in
    let within : k < 8 = turn-within at.invariant.keeps some (omega arith) in
    let eight : length a.movements ≡ 8 = search rules in
    let byte : Fits w8 (get_or a.crossings.now k 0) = search rules in
    let own : not c.dropped.result ≡ stays a.movements k =
    ap not (c.dropped.ensures ∙ rw c.from-i.ensures (ap (λ (m : Movement). is_walk m.stage) (entry-same a.movements k (record { stage = Idle; age = 0 }) idle (omega arith)))) in
    elim c.if-not-dropped.branch [
      | then-not-dropped w ↦ rw (w.out-is, w.with.ensures, c.from-i.ensures) (one-pressed at.invariant some byte.fits (sym own ∙ ap not w.if-not-dropped.true))
      | else-not-dropped w ↦ rw w.out-is (one-dropped at.invariant some (sym own ∙ ap not w.if-not-dropped.false))
    ]

pub returns : goal.returns
returns c = (all-pressed c.loop-rest.invariant c.loop-rest-test.false, all-kept c.loop-rest.invariant c.loop-rest-test.false)
