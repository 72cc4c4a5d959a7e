-- The list that the rule gives follows the rule, read at any of its entries.
use Prim.Native.Nat.{ℕ, ◌+◌, ◌-◌, ◌*◌, ◌/◌, ◌%◌, ◌<◌}
use mathlib.Core.Bool.{true}
use mathlib.Core.Path.{◌≡◌, sym, ap, ◌∙◌, subst}
use native.Mathlib.Omega.{arith}
use lib.IntN.{ℤ, pos, nat_abs, ◌+ℤ◌}
use lib.ListN.{get_or}
use Rattle.laws.proofs.Lists.{list_at, list_length}
use Rattle.sheet_yellow.specs.Yellow.{grade_in_range, in_range, YellowTime, yellow_time, FollowsTheRule}
use Rattle.sheet_yellow.specs.Columns.{column_of, entry_at, entries}
use Rattle.sheet_yellow.proofs.Shift.{column-small, column-sum}
use Rattle.sheet_yellow.proofs.Stated.{in-range-parts, time-at, time-stated}

-- the column, as the statement counts it
pub column-counted : (g : ℤ) → grade_in_range g ≡ true → nat_abs (g +ℤ pos 10) ≡ column_of g
column-counted g h = ap nat_abs (column-sum g h)

entry-told : (row column : ℕ) → row < 71 → column < 21 → get_or entries (21 * row + column) 0 ≡ entry_at (40 + row) column
unfolding entries
entry-told row column r h =
    let d : (21 * row + column) / 21 ≡ row = omega arith in
    let m : (21 * row + column) % 21 ≡ column = omega arith in
    let e = list_at (λ k. entry_at (40 + k / 21) (k % 21)) 1491 (21 * row + column) 0 (omega arith) in
    rw (d, m) at e

entry-time : (s : ℕ) (g : ℤ) → in_range s g ≡ true → get_or entries (21 * (s - 40) + nat_abs (g +ℤ pos 10)) 0 ≡ yellow_time s g
entry-time s g range =
    let parts = in-range-parts s g range in
    let least = parts.0 in
    let most = parts.1 in
    let u : 40 + (s - 40) ≡ s = omega arith in
    let e = entry-told (s - 40) (column_of g) (omega arith) (column-small g parts.2) in
    rw (column-counted g parts.2) ((rw u at e) ∙ sym (time-at s g range))

pub entries-follow : FollowsTheRule entries
unfolding entries
entries-follow = record {
  count = list_length (λ k. entry_at (40 + k / 21) (k % 21)) 1491;
  each = λ s g range. subst (λ (y : ℕ). YellowTime s g y) (sym (entry-time s g range)) (time-stated s g range);
}
