-- The letters of the first i groups are put.
use Rattle.std.proofs.Common.{◌+◌, map, take}
use Rattle.rules.specs.TraceText.{colour_letter}
use Rattle.base_text.specs.Put.{Put}
use Rattle.run_text.proofs.put_colours.Given as goal

abbrev pub invariant-loop-i : goal.invariant-loop-i
invariant-loop-i l = Put (map colour_letter (take l.i l.colours)) l.at l.initial.out l.out (l.at + l.i)
