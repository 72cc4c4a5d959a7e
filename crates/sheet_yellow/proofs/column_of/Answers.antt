-- The sum is the column, which is small.
use Rattle.std.proofs.Common.{◌≡◌, ℤ, pos, ◌+ℤ◌, arith, true}
use borrow.Author.Rules.{sfits_of}
use mir.Syntax.{w32}
use mir.Val.{to_z, of_z, SFits}
use mir.Facts.{to_z-of_z}
use Rattle.sheet_yellow.specs.Yellow.{grade_in_range}
use Rattle.sheet_yellow.specs.Columns.{column_of}
use Rattle.sheet_yellow.proofs.Shift.{column-small, column-sum}
use Rattle.sheet_yellow.proofs.column_of.Goals as goal

module _ (g : ℤ) (fits : SFits w32 g) (range : grade_in_range g ≡ true) where
  sum : to_z w32 (of_z w32 g) +ℤ pos 10 ≡ pos (column_of g)
  sum = rw (to_z-of_z fits) (column-sum g range)

  sum-read : to_z w32 (of_z w32 (to_z w32 (of_z w32 g) +ℤ pos 10)) ≡ pos (column_of g)
  sum-read =
      let small : SFits w32 (pos (column_of g)) = sfits_of (omega (arith, column-small g range)) in
      rw sum (to_z-of_z small)

pub returns : goal.returns
returns c = let g = c.args.grade in rw (sum-read g c.ranges.grade c.requires)
