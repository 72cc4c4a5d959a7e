use Rattle.std.proofs.Common.{rules}
use Rattle.rules.specs.Personality.{body_at, record_at, conflict_set}
use Rattle.read_conflicts.proofs.records.conflict_set.Goals as goal

pub four_in-requires : goal.four_in-requires
unfolding body_at
four_in-requires c = search rules

pub returns : goal.returns
unfolding conflict_set record_at body_at
returns c = rw (c.m.invariant.laid.conflicts, c.m.view_is) at c.four_in.ensures
