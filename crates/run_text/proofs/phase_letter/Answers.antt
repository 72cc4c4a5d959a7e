-- The constant table is the definition's, and both answer the same past its end.
use Rattle.std.proofs.Common.{arith}
use Rattle.rules.specs.TraceText.{phase_letter}
use Rattle.run_text.proofs.phase_letter.Goals as goal

pub returns : goal.returns
unfolding phase_letter
returns c = let told = c.get.ensures.lookup.4 (omega arith) 63 in cc
