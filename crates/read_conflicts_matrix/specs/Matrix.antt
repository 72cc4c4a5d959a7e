-- Internal: no promise cites this file. The conflicts as a matrix of bits in tiles. Band a has the eight groups 8 a to 8 a + 7. A tile is a
-- number of 64 bits in eight rows of eight; bit c of row r is bit 8 r + c.
use Rattle.std.specs.Prelude.{ℕ, ◌+◌, ◌*◌, ◌≤◌, ◌<◌, List, ◌≡◌, length, get_or}
use Rattle.laws.specs.Bytes.{byte_at, bit}
use Rattle.rules.specs.Personality.{body_at, record_at, group_count, group_set, conflict_set}
use Rattle.read_layout.specs.declared.Layout.{Layout}
use Rattle.read_layout.specs.LayoutOf.{LayoutOf}

-- a layout whose counts are in their ranges, of bytes that reach to the end of kind 4
pub record MatrixFits (b : List ℕ) (w : Layout) : Type 0 where
  pub laid : LayoutOf b w
  pub few_phases : w.phasecount ≤ 7
  pub some_groups : 1 ≤ w.groupcount
  pub few_groups : w.groupcount ≤ 32
  pub sets : body_at w.groups + w.groupcount * 2 ≤ length b
  pub conflicts : body_at w.conflicts + w.groupcount * 4 ≤ length b

-- row r of the tile is the byte at `at + r * stride`
pub record ByteRows (b : List ℕ) (at stride rows t : ℕ) : Type 0 where
  pub told : (r c : ℕ) → r < rows → c < 8 → bit (8 * r + c) t ≡ bit c (byte_at b (at + r * stride))

-- byte k of each record of band a, one a row, of a section of count records of this width
pub record BandRows (b : List ℕ) (head width count a k t : ℕ) : Type 0 where
  pub told :
      (r c : ℕ) → r < 8 → c < 8 → 8 * a + r < count → bit (8 * r + c) t ≡ bit c (byte_at b (record_at head width (8 * a + r) + k))

-- the conflicts of band a's groups, one a row, with those of band k
pub record ConflictRows (b : List ℕ) (a k t : ℕ) : Type 0 where
  pub told :
      (r c : ℕ) → r < 8 → c < 8 → 8 * a + r < group_count b → bit (8 * r + c) t ≡ bit (8 * k + c) (conflict_set b (8 * a + r))

-- the phase sets of band a's groups, one a row
pub record SetRows (b : List ℕ) (a t : ℕ) : Type 0 where
  pub told : (r p : ℕ) → r < 8 → p < 8 → 8 * a + r < group_count b → bit (8 * r + p) t ≡ bit p (group_set b (8 * a + r))

-- those of all bands, a tile each
pub record SetTiles (b tiles : List ℕ) : Type 0 where
  pub told : (a : ℕ) → 8 * a < group_count b → SetRows b a (get_or tiles a 0)
