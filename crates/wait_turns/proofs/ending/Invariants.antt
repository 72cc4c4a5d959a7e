-- The greatest so far is that of the movements passed.
use Rattle.std.proofs.Common.{◌≡◌}
use Rattle.wait_turns.proofs.Parts.{most_of}
use Rattle.wait_turns.proofs.ending.Given as goal

abbrev pub invariant-loop-k : goal.invariant-loop-k
invariant-loop-k l = l.most ≡ most_of l.site-inside.site l.p l.without l.leaving l.z l.b l.k
