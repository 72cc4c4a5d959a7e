use Rattle.std.proofs.Common.{arith, refl, rules, tests}
use Rattle.std.specs.Bool.{⊤}
use Rattle.std.proofs.lemmas.Iterator.{cases_from_all, YieldsList-from_range}
use Rattle.read_conflicts_quick.specs.Quick.{BandRight}
use Rattle.read_conflicts_quick.proofs.Pairs.{each_of_range, all_sound}
use Rattle.read_conflicts_quick.proofs.bands.Goals as goal

-- of two groups one is not in a band before the other's
pub returns : goal.returns
returns c e =
    let b = c.args.m.now in
    let n = c.bands.result in
    let found =
    cases_from_all _ _ _ (λ k. BandRight b k) (λ _. ⊤) c.all.ensures.ran
    (YieldsList-from_range 0 n n refl (omega arith))
    (λ x q k. search (rules, tests)) (λ x q k. search (rules, tests)) in
    all_sound b n (λ i h l. each_of_range (λ k. BandRight b k) 0 n found e i h (omega (arith, l))) (omega (arith, c.bands.ensures))
