use Rattle.std.proofs.Common.{sym, ◌∙◌}
use borrow.Author.Tests.{not-true}
use Rattle.read_conflicts_quick.proofs.Pairs.{records-good}
use Rattle.read_conflicts_quick.proofs.surely_right.Goals as goal

pub returns-then-groups-le8 : goal.returns-then-groups-le8
returns-then-groups-le8 c e = records-good _ (not-true _ (sym c.below.ensures ∙ c.if-not-below.false)) (c.single_band.ensures e)

pub returns-else-groups-le8 : goal.returns-else-groups-le8
returns-else-groups-le8 c e = records-good _ (not-true _ (sym c.below.ensures ∙ c.if-not-below.false)) (c.bands.ensures e)
