use Rattle.std.proofs.Common.{◌≡◌, ◌^◌, leb}
use Rattle.rules.specs.Personality.{group_count, conflict_set}
use Rattle.laws.specs.Folds.{any_of}
use Rattle.read_conflicts_quick.proofs.below.Given as goal

-- the union so far reaches 2 ^ N exactly where some set of a group before g does
abbrev pub invariant-loop-g : goal.invariant-loop-g
invariant-loop-g l = leb (2 ^ group_count l.m) l.all ≡ any_of (λ g. leb (2 ^ group_count l.m) (conflict_set l.m g)) l.g
