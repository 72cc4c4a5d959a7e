-- Internal: no promise cites this file. The sets of a personality turned round: for each group the groups that name it, and for each phase
-- the groups that are in it.
use Rattle.std.specs.Prelude.{ℕ, ◌+◌, ◌*◌, ◌<◌, Bool, List, ◌≡◌, get_or}
use Rattle.laws.specs.Bytes.{bit}
use Rattle.rules.specs.Personality.{group_count, group_set, conflict_set}

-- group j names group r of band a
unfoldable pub names : List ℕ → ℕ → ℕ → ℕ → Bool
names b a r j = bit (8 * a + r) (conflict_set b j)

-- group j is in phase r
unfoldable pub is_in : List ℕ → ℕ → ℕ → Bool
is_in b r j = bit r (group_set b j)

-- the groups of band k, one a column
pub record TurnedTile (b : List ℕ) (turned : ℕ → ℕ → Bool) (k t : ℕ) : Type 0 where
  pub told : (r c : ℕ) → r < 8 → c < 8 → 8 * k + c < group_count b → bit (8 * r + c) t ≡ turned r (8 * k + c)

-- row r of four tiles as one number
pub record RowOf (tiles : List ℕ) (r x : ℕ) : Type 0 where
  pub told : (k c : ℕ) → k < 4 → c < 8 → bit (8 * k + c) x ≡ bit (8 * r + c) (get_or tiles k 0)

-- one for each row
pub record Rows (tiles rows : List ℕ) : Type 0 where
  pub told : (r : ℕ) → r < 8 → RowOf tiles r (get_or rows r 0)

-- A number for each row, which has the groups of the row. Bits at or above N are open, here and in the tiles. No verdict depends on them: a
-- record with such a bit is refused with 9 in any case, and 10 compares records that have none.
pub record Turned (b : List ℕ) (turned : ℕ → ℕ → Bool) (rows : List ℕ) : Type 0 where
  pub told : (r j : ℕ) → r < 8 → j < group_count b → bit j (get_or rows r 0) ≡ turned r j
