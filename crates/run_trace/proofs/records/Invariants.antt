-- The trace goes on only after a step before the last.
use Rattle.std.proofs.Common.{◌≡◌, true, ◌-◌, ◌≤◌}
use Rattle.rules.specs.Trace.{most_steps}
use Rattle.run_trace.proofs.records.Given as goal

abbrev pub invariant-loop-more : goal.invariant-loop-more
invariant-loop-more g l = (1 ≤ l.step) × (l.more ≡ true → l.step ≤ most_steps)

abbrev pub decreases-loop-more : goal.decreases-loop-more
decreases-loop-more g l = 36001 - l.step
