-- The first number of steps that covers the distance is the one that the definition finds.
use Rattle.std.proofs.Common.{ℕ, ◌≡◌, ◌≤◌, sym, ◌∙◌, subst, arith, rules, true, false}
use Rattle.std.proofs.lemmas.Iterator.{first_from_Range}
use lib.Ieee.{of_bits}
use Rattle.laws.proofs.Indices.{fails-to}
use Rattle.sheet_settings.specs.Extremes.{Smallest}
use Rattle.sheet_settings.specs.Sheet.{covered}
use Rattle.sheet_settings.proofs.Extremes.{smallest-only, first-smallest}
use Rattle.sheet_settings.proofs.Metres.{as-fraction}
use Rattle.sheet_settings.proofs.Stated.{covered-tested, covered-last, passage-smallest}
use Rattle.sheet_settings.proofs.passage_over.Goals as goal

found : (c : goal.After-unwrap_or-t) → Smallest (covered c.args.speed c.args.metres) c.unwrap_or-t.result
unfolding of_bits
found c =
    let speed = c.args.speed in
    let x = c.args.metres in
    let fine = c.requires.0 in
    subst (λ (t : ℕ). Smallest (covered speed x) t) (sym c.unwrap_or-t.ensures)
    (first-smallest (covered speed x) 540 c.find.result (covered-last speed (as-fraction x c.requires.1) fine)
    (first_from_Range _ _ _ _ (λ t. t ≤ 540 → covered speed x t ≡ true) (λ t. t ≤ 540 → covered speed x t ≡ false) c.find.ensures.ran
    (λ t q k l. sym (covered-tested speed x t fine l) ∙ search rules)
    (λ t q k. (search rules, λ l. sym (covered-tested speed x t fine l) ∙ search rules))))

pub overflow_cast-result : goal.overflow_cast-result
overflow_cast-result c =
    let most = fails-to (covered c.args.speed c.args.metres) (found c).none-smaller (covered-last c.args.speed (as-fraction c.args.metres c.requires.1) c.requires.0) in omega arith

pub returns : goal.returns
returns c =
    smallest-only (covered c.args.speed c.args.metres) (found c) (passage-smallest c.args.speed (as-fraction c.args.metres c.requires.1) c.requires.0)
