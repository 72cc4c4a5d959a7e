-- Internal: no promise cites this file. What the quick test requires of two tiles, and what follows for two groups, two bands, all groups.
use Rattle.std.specs.Prelude.{ℕ, ◌+◌, ◌*◌, ◌≤◌, ◌<◌, true, false, List, ◌≡◌}
use Rattle.laws.specs.Bytes.{bit}
use Rattle.rules.specs.Personality.{phase_count, group_count, group_set, conflict_set}

-- the members of each phase in band k, one phase a row
pub record MemberRows (b : List ℕ) (k t : ℕ) : Type 0 where
  pub told : (p c : ℕ) → p < 8 → c < 8 → 8 * k + c < group_count b → bit (8 * p + c) t ≡ bit p (group_set b (8 * k + c))

-- a tile's bits are those of the tile back, mirrored; none is one of the bits given, and none is of a row and a column that share a phase
pub record Matched (t back given sets members phases : ℕ) : Type 0 where
  pub mirrored : (r c : ℕ) → r < 8 → c < 8 → bit (8 * c + r) back ≡ bit (8 * r + c) t
  pub clear : (k : ℕ) → bit k given ≡ true → bit k t ≡ false
  pub apart :
      (r c p : ℕ) →
      r < 8 →
      c < 8 →
      p < phases →
      bit (8 * r + p) sets ≡ true →
      bit (8 * p + c) members ≡ true →
      bit (8 * r + c) t ≡ false

-- the conflict of groups g and j is in both records or in none; in none if they are one group or share a phase
pub record PairRight (b : List ℕ) (g j : ℕ) : Type 0 where
  pub answered : bit j (conflict_set b g) ≡ bit g (conflict_set b j)
  pub other : g ≡ j → bit j (conflict_set b g) ≡ false
  pub apart :
      (p : ℕ) →
      p < phase_count b →
      bit j (conflict_set b g) ≡ true →
      bit p (group_set b g) ≡ true →
      bit p (group_set b j) ≡ false

-- the same of each group of band a with each of band k
abbrev pub BlockRight : List ℕ → ℕ → ℕ → Type 0
BlockRight b a k =
    (r c : ℕ) → r < 8 → c < 8 → 8 * a + r < group_count b → 8 * k + c < group_count b → PairRight b (8 * a + r) (8 * k + c)

-- the same of each group of the bands from k on with each of band k
abbrev pub BandRight : List ℕ → ℕ → Type 0
BandRight b k = (a : ℕ) → k ≤ a → BlockRight b a k

-- the same of any two groups
abbrev pub AllRight : List ℕ → Type 0
AllRight b = (g j : ℕ) → g < group_count b → j < group_count b → PairRight b g j
