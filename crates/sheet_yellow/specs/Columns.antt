-- Internal: the table by rows and columns. Row 0 is 40 km/h, column 0 is −10 percent.
use Rattle.std.specs.Prelude.{ℕ, suc, ◌+◌, ◌-◌, ◌*◌, ◌/◌, ◌%◌, max, List, ℤ, pos, negsuc}
use Rattle.laws.specs.Folds.{list_of}

-- the grade, counted from −10
unfoldable pub column_of : ℤ → ℕ
column_of (pos n) = 10 + n
column_of (negsuc n) = 10 - suc n

-- 36 × (6,000 + 196 × grade), by the column
abbrev pub divisor_at : ℕ → ℕ
divisor_at column = 36 * (4040 + 196 * column)

-- a / b rounded up
abbrev pub ceiling : ℕ → ℕ → ℕ
ceiling a b = (a + (b - 1)) / b

unfoldable pub entry_at : ℕ → ℕ → ℕ
entry_at speed column = max 30 (10 + ceiling (100000 * speed) (divisor_at column))

-- the entries in the order speed, then grade: entry k is in row k / 21 and column k % 21
unfoldable pub entries : List ℕ
entries = list_of (λ k. entry_at (40 + k / 21) (k % 21)) 1491
