use Rattle.std.proofs.Common.{◌+◌, ◌-◌, arith, refl, rules, tests}
use Rattle.std.specs.Bool.{⊤}
use Rattle.std.proofs.lemmas.Iterator.{cases_from_all, YieldsList-from_range}
use Rattle.read_conflicts_quick.specs.Quick.{BlockRight}
use Rattle.read_conflicts_quick.proofs.Pairs.{each_of_range, band-whole}
use Rattle.read_conflicts_quick.proofs.band.Goals as goal

pub returns-then-own_block : goal.returns-then-own_block
returns-then-own_block c e =
    let at = c.args in
    let n = c.bands-bands.result in
    let found =
    cases_from_all _ _ _ (λ a. BlockRight at.m.now a at.k) (λ _. ⊤) c.all.ensures.ran
    (YieldsList-from_range (at.k + 1) n (n - (at.k + 1)) refl refl)
    (λ x q k. search (rules, tests)) (λ x q k. search (rules, tests)) in
    band-whole at.m.now at.k n (c.own_block.ensures c.if-own_block.true)
    (λ i h l. each_of_range (λ a. BlockRight at.m.now a at.k) (at.k + 1) (n - (at.k + 1)) found e i h (omega (arith, h, l)))
    (omega (arith, c.bands-bands.ensures))
