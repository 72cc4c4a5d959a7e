-- Every field before f has passed.
use Rattle.std.proofs.Common.{◌≡◌, ◌+◌, ◌*◌}
use Rattle.rules.specs.Personality.{time_at}
use Rattle.rules.specs.Verdicts.{Accepted, first_of}
use Rattle.read_time_records.proofs.times_at.Given as goal

abbrev pub invariant-loop-f : goal.invariant-loop-f
invariant-loop-f l = first_of (λ f. time_at l.p (l.place + f * 2) (l.setting + f)) l.f ≡ Accepted
