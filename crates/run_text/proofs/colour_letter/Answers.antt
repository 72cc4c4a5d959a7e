-- The constant table is the definition's, and both answer the same past its end.
use Rattle.std.proofs.Common.{arith}
use Rattle.rules.specs.TraceText.{colour_letter}
use Rattle.run_text.proofs.colour_letter.Goals as goal

pub returns : goal.returns
unfolding colour_letter
returns c = let told = c.get.ensures.lookup.4 (omega arith) 82 in cc
