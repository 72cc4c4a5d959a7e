-- Where no demand is gone the set stays, and else those phases are given up that have a demand gone and none left.
use Rattle.std.proofs.Common.{◌≡◌, length, ◌∙◌}
use Rattle.laws.specs.Folds.{set_of}
use Rattle.rules.specs.Demands.{stands}
use Rattle.rules.specs.Kept.{gone}
use Rattle.step_whole.proofs.Keeping.{gone_ones, none-cleared, some-cleared}
use Rattle.step_whole.proofs.kept.kept_left.Goals as goal

pub returns-then-old-new-2 : goal.returns-then-old-new-2
returns-then-old-new-2 c =
    let a = c.args in
    none-cleared a.crossings.now (length a.crossings.now) c.requires a.old a.new a.kept c.ranges.kept.fits c.if-old-new.true c.if-old-new-2.true

pub returns : goal.returns
unfolding gone
returns c =
    let a = c.args in
    let lost : c.stands-cleared.result ≡ set_of (stands a.crossings.now (length a.crossings.now) (gone_ones a.old a.new)) =
    c.stands-cleared.ensures ∙ rw (c.except.ensures, c.except-2.ensures) in
    c.except-4.ensures
    ∙ some-cleared a.crossings.now (length a.crossings.now) c.requires a.old a.new a.kept c.except-3.result
    (rw (lost, c.stands-standing.ensures) at c.except-3.ensures)
