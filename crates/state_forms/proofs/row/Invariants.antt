use Rattle.std.proofs.Common.{◌<◌, ◌≤◌, ◌≡◌, ℕ, get_or}
use Rattle.state_forms.proofs.row.Given as goal

abbrev pub invariant-loop-k : goal.invariant-loop-k
invariant-loop-k g l = record {
  entries : (k : ℕ) → k < l.k → goal.F-post g l.entry k (get_or l.entries k l.fn.blank);
  blanks : (k : ℕ) → l.k ≤ k → get_or l.entries k l.fn.blank ≡ l.fn.blank;
}
