-- The point of the pass: the groups passed have their colours, every other byte is as handed in, and the running count is that of the
-- pedestrian groups passed.
use Rattle.rules.specs.Colours.{PassedTo, colour_of}
use Rattle.step_colours.proofs.buffer_at.Given as goal

abbrev pub invariant-loop-g : goal.invariant-loop-g
invariant-loop-g l = PassedTo l.fn.groups (colour_of l.fn.groups l.closes l.position l.movements) l.initial.buffer l.g l.buffer l.k
