use Rattle.std.proofs.Common.{◌≡◌}
use Rattle.rules.specs.Personality.{record_at, conflicts_head, conflict_in_phase}
use Rattle.rules.specs.Verdicts.{Accepted, first_of}
use Rattle.rules.proofs.Verdicts.{record_check}
use Rattle.read_conflicts.proofs.records.first_clash.Given as goal

-- no record before g is refused
abbrev pub invariant-loop-g : goal.invariant-loop-g
invariant-loop-g l = first_of (record_check (conflict_in_phase l.m) 10 (record_at (conflicts_head l.m) 4)) l.g ≡ Accepted
