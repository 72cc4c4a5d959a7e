-- The tests of the definition.
use Rattle.std.proofs.Common.{arith}
use Rattle.std.proofs.lemmas.Bool.Decides.{nat_tests}
use mir.Facts.{to_z-of_z}
use Rattle.sheet_yellow.specs.Yellow.{in_range}
use Rattle.sheet_yellow.proofs.in_range.Goals.{then-speed-ge40, else-speed-ge40, then-speed-le110, else-speed-le110}
use Rattle.sheet_yellow.proofs.in_range.Goals as goal

pub returns-then-grade-geminus10 : goal.returns-then-grade-geminus10
unfolding in_range
returns-then-grade-geminus10 c =
    let z = to_z-of_z c.ranges.grade in
    elim c.if-speed-le110.branch [
      | then-speed-le110 w ↦ elim c.if-speed-ge40.branch [ then-speed-ge40 v ↦ grind (arith, nat_tests) | else-speed-ge40 v ↦ grind (arith, nat_tests) ]
      | else-speed-le110 w ↦ elim c.if-speed-ge40.branch [ then-speed-ge40 v ↦ grind (arith, nat_tests) | else-speed-ge40 v ↦ grind (arith, nat_tests) ]
    ]

pub returns-else-grade-geminus10 : goal.returns-else-grade-geminus10
unfolding in_range
returns-else-grade-geminus10 c =
    let z = to_z-of_z c.ranges.grade in
    elim c.if-speed-le110.branch [
      | then-speed-le110 w ↦ elim c.if-speed-ge40.branch [ then-speed-ge40 v ↦ grind (arith, nat_tests) | else-speed-ge40 v ↦ grind (arith, nat_tests) ]
      | else-speed-le110 w ↦ elim c.if-speed-ge40.branch [ then-speed-ge40 v ↦ grind (arith, nat_tests) | else-speed-ge40 v ↦ grind (arith, nat_tests) ]
    ]
