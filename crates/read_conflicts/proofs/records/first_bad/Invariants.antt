use Rattle.std.proofs.Common.{◌≡◌, ◌/◌, ◌%◌}
use mathlib.Core.Logic.{◌≢◌}
use Rattle.rules.specs.Personality.{record_at, conflicts_head, bad_conflict}
use Rattle.rules.specs.Verdicts.{Accepted, first_of}
use Rattle.rules.proofs.Verdicts.{record_check}
use Rattle.read_conflicts_turned.specs.Turned.{Turned, names}
use Rattle.read_conflicts.proofs.records.first_bad.Given as goal

-- no record before g is refused, and the sets for the record of g are at hand, unless they are made anew for it
abbrev pub invariant-loop-g : goal.invariant-loop-g
invariant-loop-g l = record {
  passed : first_of (record_check (bad_conflict l.m) 9 (record_at (conflicts_head l.m) 4)) l.g ≡ Accepted;
  kept : l.g % 8 ≢ 0 → Turned l.m (names l.m (l.g / 8)) l.named;
}
