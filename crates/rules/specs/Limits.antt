-- The tables of the lowest and highest values of all time settings, one for each edition of the limits. The settings are numbered in this
-- order: start red; L, M, X, G, Y, R of a phase; W, C1, C2 of a movement; early cut-off green of a phase.
use Rattle.std.specs.Prelude.{ℕ, ◌+◌, Bool, ◌&&◌, List, [], ◌∷◌, leb, get_or, set}
use Rattle.rules.specs.Types.{Edition, One, Two, Range}

-- ── The numbers of the settings ──

-- start red, the first of a phase record (L), the first of a pedestrian record (W), and early
-- cut-off green
abbrev pub start_red_setting : ℕ
start_red_setting = 0

abbrev pub phase_settings : ℕ
phase_settings = 1

abbrev pub walk_settings : ℕ
walk_settings = 7

abbrev pub early_setting : ℕ
early_setting = 10

-- how many settings there are
abbrev pub setting_count : ℕ
setting_count = early_setting + 1

-- ── The tables ──

-- edition one
abbrev pub edition_one : List Range
edition_one =
    record { low = 10; high = 150 }
    ∷ record { low = 0; high = 200 }
    ∷ record { low = 10; high = 400 }
    ∷ record { low = 10; high = 1500 }
    ∷ record { low = 0; high = 100 }
    ∷ record { low = 30; high = 100 }
    ∷ record { low = 10; high = 150 }
    ∷ record { low = 10; high = 400 }
    ∷ record { low = 1; high = 400 }
    ∷ record { low = 1; high = 400 }
    ∷ record { low = 0; high = 200 }
    ∷ []

-- the lowest start red and the lowest all-red rise with edition two; nothing else differs
unfoldable pub limits : Edition → List Range
limits One = edition_one
limits Two =
    set (set edition_one start_red_setting (record { low = 30; high = 150 })) (phase_settings + 5) (record { low = 15; high = 150 })

-- the table's entry for a setting; a setting outside the table allows only 0
unfoldable pub limit_of : List Range → ℕ → Range
limit_of table setting = get_or table setting (record { low = 0; high = 0 })

unfoldable pub within : List Range → ℕ → ℕ → Bool
within table setting value = leb (limit_of table setting).low value && leb value (limit_of table setting).high
