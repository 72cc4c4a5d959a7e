-- Internal: no promise cites this file. Numbers 9 and 10 of kind 4, each as the first record that is refused with it, and what the sets hold
-- that a record is compared with.
use Rattle.std.specs.Prelude.{ℕ, ◌^◌, ◌<◌, List, ◌≡◌}
use Rattle.laws.specs.Bytes.{bit}
use Rattle.rules.specs.Personality.{record_at, group_count, conflicts_head, conflict_set, bad_conflict, conflict_in_phase}
use Rattle.rules.specs.Verdicts.{Verdict, refuse_if, first_of}

-- a set has the groups that name group g
pub record Named (b : List ℕ) (g set : ℕ) : Type 0 where
  pub told : (j : ℕ) → j < group_count b → bit j set ≡ bit g (conflict_set b j)

-- no set has a bit at or above N, as once 9 has refused no record
abbrev pub SetsBelow : List ℕ → Type 0
SetsBelow b = (g : ℕ) → g < group_count b → conflict_set b g < 2 ^ group_count b

-- 9: the first record with a bad conflict
unfoldable pub first_bad : List ℕ → Verdict
first_bad b = first_of (λ g. refuse_if (bad_conflict b g) 9 (record_at (conflicts_head b) 4 g)) (group_count b)

-- 10: the first record with a conflict of groups that share a phase
unfoldable pub first_clash : List ℕ → Verdict
first_clash b = first_of (λ g. refuse_if (conflict_in_phase b g) 10 (record_at (conflicts_head b) 4 g)) (group_count b)
