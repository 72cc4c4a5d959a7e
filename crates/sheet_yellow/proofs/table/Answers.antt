-- One test over the whole table: the checker computes the list that the rule gives and compares.
use Prim.Native.Nat.{ℕ}
use mathlib.Core.List.{List}
use mathlib.Core.Path.{◌≡◌, refl, sym, subst}
use Rattle.laws.specs.Folds.{list_of}
use Rattle.sheet_yellow.specs.Yellow.{FollowsTheRule}
use Rattle.sheet_yellow.specs.Columns.{entry_at, entries}
use Rattle.sheet_yellow.proofs.Entries.{entries-follow}
use Rattle.sheet_yellow.proofs.table.Goals as goal

follows : (xs : List ℕ) → xs ≡ entries → FollowsTheRule xs
follows xs e = subst (λ (ys : List ℕ). FollowsTheRule ys) (sym e) entries-follow

pub returns : goal.returns
unfolding entries list_of entry_at
returns c = follows _ refl
