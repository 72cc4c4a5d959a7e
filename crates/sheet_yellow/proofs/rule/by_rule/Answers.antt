-- What `entry_at` computes is the time of the grade's column.
use Rattle.std.proofs.Common.{◌≡◌, arith, true, sym, ◌∙◌}
use mir.Facts.{to_z-of_z}
use Rattle.sheet_yellow.specs.Yellow.{in_range}
use Rattle.sheet_yellow.proofs.Shift.{column-small}
use Rattle.sheet_yellow.proofs.Stated.{in-range-parts, promise-refused, promise-given, entry-stated}
use Rattle.sheet_yellow.proofs.rule.by_rule.Goals as goal

-- what the test tells
fine : (c : goal.Else-not-in_range) → in_range c.args.speed c.args.grade ≡ true
fine c = rw (to_z-of_z c.ranges.grade) at (sym c.in_range.ensures ∙ c.if-not-in_range.false)

pub returns-then-not-in_range : goal.returns-then-not-in_range
returns-then-not-in_range c =
    promise-refused c.args.speed c.args.grade (rw (to_z-of_z c.ranges.grade) at (sym c.in_range.ensures ∙ c.if-not-in_range.true))

pub column_of-requires : goal.column_of-requires
column_of-requires c = rw (to_z-of_z c.ranges.grade) (in-range-parts c.args.speed c.args.grade (fine c)).2

pub entry_at-requires-clause-speed_bound : goal.entry_at-requires-clause-speed_bound
entry_at-requires-clause-speed_bound c = omega (arith, (in-range-parts c.args.speed c.args.grade (fine c.before)).1)

pub entry_at-requires-clause-column_bound : goal.entry_at-requires-clause-column_bound
entry_at-requires-clause-column_bound c =
    rw (c.column_of.ensures, to_z-of_z c.ranges.grade) (column-small c.args.grade (in-range-parts c.args.speed c.args.grade (fine c.before)).2)

pub returns : goal.returns
returns c =
    let range = fine c.before.before in
    promise-given c.args.speed c.args.grade c.entry_at.result range
    (entry-stated c.args.speed c.args.grade c.entry_at.result range (rw (c.column_of.ensures, to_z-of_z c.ranges.grade) at c.entry_at.ensures))
