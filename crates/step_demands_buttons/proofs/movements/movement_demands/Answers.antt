-- The movement of a turn is one of those there are.
use Rattle.std.proofs.Common.{◌<◌, Fits, w8, length, get_or, refl, ◌∙◌, rules, arith}
use lib.Count.{count_trailing_zeros}
use mathlib.Core.Bool.{and-true}
use Rattle.laws.specs.Bytes.{bit}
use Rattle.rules.specs.Demands.{movement_demands}
use Rattle.laws.proofs.BitRanges.{firsts, firsts-within, firsts-bit}
use Rattle.step_demands_buttons.proofs.Crossed.{every, none-crossed, turn-within, one-crossed, all-crossed}
use Rattle.step_demands_buttons.proofs.movements.movement_demands.Goals as goal

pub loop-rest-init : goal.loop-rest-init
loop-rest-init c =
    let crossings = c.args.crossings.now in
    let n = length crossings in
    rw c.from.ensures
    (none-crossed crossings (firsts n c.args.buttons) n every (firsts-within n c.args.buttons (omega (arith, c.requires))))

pub bounds-crossings-rest : goal.bounds-crossings-rest
bounds-crossings-rest c =
    let some : 0 < c.loop-rest.rest = omega arith in
    omega (arith, turn-within c.loop-rest.invariant some (omega (arith, c.requires)), c.requires)

pub loop-rest-preserved : goal.loop-rest-preserved
loop-rest-preserved c =
    let some : 0 < c.loop-rest.rest = omega arith in
    let byte : Fits w8 (get_or c.args.crossings.now (count_trailing_zeros 64 c.loop-rest.rest) 0) = search rules in
    one-crossed c.loop-rest.invariant some (omega (arith, c.requires)) byte.fits refl

pub returns : goal.returns
unfolding movement_demands
returns c =
    let n = length c.args.crossings.now in
    let buttons = c.args.buttons in
    all-crossed c.loop-rest.invariant c.loop-rest-test.false (λ k. bit k buttons)
    (λ k l. and-true (bit k (firsts n buttons)) ∙ firsts-bit n buttons (omega (arith, c.requires)) k l)
