-- No group before g is refused.
use Rattle.std.proofs.Common.{◌≡◌}
use Rattle.rules.specs.Verdicts.{Accepted, first_of}
use Rattle.read_early.proofs.Seventh.{missing_at}
use Rattle.read_early.proofs.early_missing.Given as goal

abbrev pub invariant-loop-g : goal.invariant-loop-g
invariant-loop-g l = first_of (missing_at l.s) l.g ≡ Accepted
