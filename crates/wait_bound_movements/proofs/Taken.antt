-- A and C of a phase by a site's own entries of the row of phase sets, cut from it, are A and C by the whole row.
use Rattle.std.proofs.Common.{◌≡◌, ℕ, ◌<◌, List, length, take}
use Rattle.rules.specs.declared.site.WalkTimes.{WalkTimes}
use Rattle.laws.proofs.Sums.{greatest-same}
use Rattle.rules.specs.WaitBound.{longest_walk, longest_clearance}
use Rattle.site_sound.proofs.Rows.{crosses-taken}

module _ (crossings : List ℕ) (n : ℕ) {own : List ℕ} (row : own ≡ take n crossings) (count : length own ≡ n) (walks : List WalkTimes) (p : ℕ) where
  pub walk-taken : longest_walk own walks (length own) p ≡ longest_walk crossings walks n p
  unfolding longest_walk
  walk-taken = rw (count, row) (greatest-same _ _ n (λ k l. rw (crosses-taken crossings n k p l)))

  pub clearance-taken : longest_clearance own walks (length own) p ≡ longest_clearance crossings walks n p
  unfolding longest_clearance
  clearance-taken = rw (count, row) (greatest-same _ _ n (λ k l. rw (crosses-taken crossings n k p l)))
