-- A record past the count is of no phase.
use Rattle.std.proofs.Common.{◌≡◌, ◌<◌, ◌&&◌, ltb, length, sym, ◌∙◌, rules, arith}
use Rattle.std.proofs.lemmas.Grind.{common_steps}
use Rattle.rules.specs.Site.{crosses}
use Rattle.rules.specs.State.{movements_valid}
use Rattle.laws.proofs.Folds.{tested-none, tested-more, tested-all, all-fails}
use Rattle.step_valid.proofs.Records.{passes, record_passes}
use Rattle.step_valid.proofs.movements_valid.Goals as goal

pub loop-k-init : goal.loop-k-init
loop-k-init c = tested-none

pub returns-then-not-movement_valid : goal.returns-then-not-movement_valid
unfolding movements_valid crosses
returns-then-not-movement_valid c =
    let a = c.args in
    let inside : c.loop-k.k < length a.movements = search rules in
    let of : c.if-k-from.of_phase ≡ (ltb c.loop-k.k a.count && crosses a.crossings.now c.loop-k.k a.position.phase) = grind (arith, common_steps) in
    let own = record_passes a.count c.loop-k.k a.crossings.now a.position a.movements _ inside of c.movement_valid.ensures in
    all-fails (passes a.count a.crossings.now a.position a.movements) 8 c.loop-k.k c.loop-k-test.true (sym own ∙ c.if-not-movement_valid.true)

pub loop-k-preserved : goal.loop-k-preserved
unfolding crosses
loop-k-preserved c =
    let a = c.args in
    let inside : c.loop-k.k < length a.movements = search rules in
    let of : c.if-k-from.of_phase ≡ (ltb c.loop-k.k a.count && crosses a.crossings.now c.loop-k.k a.position.phase) = grind (arith, common_steps) in
    let own = record_passes a.count c.loop-k.k a.crossings.now a.position a.movements _ inside of c.movement_valid.ensures in
    tested-more c.loop-k.invariant c.loop-k-test.true (sym c.if-not-movement_valid.false ∙ own)

pub returns : goal.returns
unfolding movements_valid
returns c = tested-all c.loop-k.invariant c.loop-k-test.false
