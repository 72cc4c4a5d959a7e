-- The movements below k that walk are in the set.
use Rattle.std.proofs.Common.{◌≡◌}
use Rattle.laws.specs.Folds.{set_of}
use Rattle.panel_reasons.specs.PanelLine.{walking_among}
use Rattle.panel_reasons.proofs.Passing.{first_passing}
use Rattle.panel_reasons.proofs.walking.Given as goal

abbrev pub invariant-loop-k : goal.invariant-loop-k
invariant-loop-k l = l.set ≡ set_of (first_passing (walking_among l.movements) l.k)
