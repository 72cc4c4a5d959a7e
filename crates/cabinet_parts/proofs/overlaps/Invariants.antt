-- No record so far but k has one of the outputs.
use Rattle.std.proofs.Common.{◌≡◌, false}
use Rattle.laws.specs.Folds.{any_of}
use Rattle.cabinet_parts.proofs.Asked.{meeting}
use Rattle.cabinet_parts.proofs.overlaps.Given as goal

abbrev pub invariant-loop-j : goal.invariant-loop-j
invariant-loop-j l = any_of (meeting l.row l.k l.first l.count) l.j ≡ false
