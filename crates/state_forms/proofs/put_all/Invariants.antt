use Rattle.std.proofs.Common.{length, get_or}
use Rattle.laws.specs.Folds.{list_of}
use Rattle.laws.proofs.Arrays.{Stored}
use Rattle.state_forms.proofs.put_all.Given as goal

-- the first bytes of the part are stored
abbrev pub invariant-loop-i : goal.invariant-loop-i
invariant-loop-i l = Stored (list_of (λ k. get_or l.fn.part k 0)) l.fn.bytes l.at (length l.fn.part) l.bytes l.i
