use Rattle.std.proofs.Common.{length, get_or}
use Rattle.laws.proofs.Arrays.{Stored}
use Rattle.state_forms.specs.Forms.{parts_of}
use Rattle.state_forms.proofs.put_row.Given as goal

abbrev pub invariant-loop-k : goal.invariant-loop-k
invariant-loop-k g l = (d : _) → Stored (parts_of (λ k. g.written (get_or l.records k d))) l.fn.bytes l.at (length l.records) l.bytes l.k
