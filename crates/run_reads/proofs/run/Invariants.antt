-- Each turn reads one vector more, at most 100,000, and counts it.
use Rattle.std.proofs.Common.{◌≤◌, ◌≡◌}
use Rattle.run_reads.proofs.run.Given as goal

abbrev pub invariant-loop : goal.invariant-loop
invariant-loop g l = (l.tally.read ≡ l.counter) × (l.tally.agree ≤ l.tally.read)
