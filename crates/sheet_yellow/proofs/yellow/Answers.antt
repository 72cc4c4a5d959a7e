-- The entry that is looked up is the one of the speed and the grade, and the table follows the rule.
use Rattle.std.proofs.Common.{ℕ, ◌≡◌, ◌+◌, ◌-◌, ◌*◌, ◌≤◌, ◌<◌, List, ℤ, get_or, arith, true, sym, ap, ◌∙◌}
use mir.Facts.{to_z-of_z}
use Rattle.sheet_yellow.specs.Yellow.{in_range, YellowTime, FollowsTheRule}
use Rattle.sheet_yellow.specs.Columns.{column_of}
use Rattle.sheet_yellow.proofs.Shift.{column-small}
use Rattle.sheet_yellow.proofs.Stated.{in-range-parts, promise-refused, promise-given}
use Rattle.sheet_yellow.proofs.Entries.{column-counted}
use Rattle.sheet_yellow.proofs.yellow.Goals as goal

-- what the test tells
fine : (c : goal.Else-not-in_range) → in_range c.args.speed c.args.grade ≡ true
fine c = rw (to_z-of_z c.ranges.grade) at (sym c.in_range.ensures ∙ c.if-not-in_range.false)

pub returns-then-not-in_range : goal.returns-then-not-in_range
returns-then-not-in_range c =
    promise-refused c.args.speed c.args.grade (rw (to_z-of_z c.ranges.grade) at (sym c.in_range.ensures ∙ c.if-not-in_range.true))

pub overflow_sub-row : goal.overflow_sub-row
overflow_sub-row c = omega (arith, (in-range-parts c.args.speed c.args.grade (fine c)).0)

pub column_of-column-requires : goal.column_of-column-requires
column_of-column-requires c = rw (to_z-of_z c.ranges.grade) (in-range-parts c.args.speed c.args.grade (fine c)).2

-- what is then known of row and column
column : (c : goal.After-table-table) → c.column_of-column.result ≡ column_of c.args.grade
column c = c.column_of-column.ensures ∙ ap column_of (to_z-of_z c.ranges.grade)

known : (c : goal.After-table-table) → (40 ≤ c.args.speed) × (c.args.speed ≤ 110) × (c.column_of-column.result < 21)
known c =
    let parts = in-range-parts c.args.speed c.args.grade (fine c.before.before) in
    (parts.0, parts.1, rw (column c) (column-small c.args.grade parts.2))

pub overflow_add-result : goal.overflow_add-result
overflow_add-result c = omega (arith, known c)

pub bounds-table-row : goal.bounds-table-row
bounds-table-row c = omega (arith, known c)

-- the entry that the table has for the speed and the grade
looked-up :
    (xs : List ℕ) (s : ℕ) (g : ℤ) (k : ℕ) →
    FollowsTheRule xs →
    in_range s g ≡ true →
    k ≡ column_of g →
    YellowTime s g (get_or xs (21 * (s - 40) + k) 0)
looked-up xs s g k follows e p =
    let q = column-counted g (in-range-parts s g e).2 ∙ sym p in rw q at (follows.each s g e)

pub returns : goal.returns
returns c =
    let entry = get_or c.table-table.result (21 * (c.args.speed - 40) + c.column_of-column.result) 0 in
    let range = fine c.before.before in
    promise-given c.args.speed c.args.grade entry range
    (looked-up c.table-table.result c.args.speed c.args.grade c.column_of-column.result c.table-table.ensures range (column c))
