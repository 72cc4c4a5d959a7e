-- Every record before i has passed.
use Rattle.std.proofs.Common.{◌≡◌, ◌*◌}
use Rattle.rules.specs.Personality.{record_at, times_at}
use Rattle.rules.specs.Verdicts.{Accepted, first_of}
use Rattle.read_time_records.proofs.time_records.Given as goal

abbrev pub invariant-loop-i : goal.invariant-loop-i
invariant-loop-i l = first_of (λ i. times_at l.p (record_at l.head (l.fields * 2) i) l.setting l.fields) l.i ≡ Accepted
