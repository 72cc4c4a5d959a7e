use Rattle.std.proofs.Common.{◌<◌, ◌≤◌, ◌≡◌, ℕ, true, false, length, get_or}
use Rattle.rules.specs.Site.{no_phase_times}
use Rattle.state_times.specs.TimeRows.{phase_in}
use Rattle.state_times.proofs.phases.read.Given as goal

-- the kind 7 times of the phases below p are in place
abbrev pub invariant-loop-p : goal.invariant-loop-p
invariant-loop-p l =
    record {
      long : length l.records ≡ 7;
      timed : (k : ℕ) → k < l.p → get_or l.records k no_phase_times ≡ phase_in l.bytes l.fn.at l.early true k;
      plain : (k : ℕ) → l.p ≤ k → k < l.count → get_or l.records k no_phase_times ≡ phase_in l.bytes l.fn.at l.early false k;
      blanks : (k : ℕ) → l.count ≤ k → get_or l.records k no_phase_times ≡ no_phase_times;
    }
