-- The wait bound of times in a table is at most that of seven phases with every setting the table's highest: each phase's share is at
-- most the greatest share, and there are at most seven. So it is for an accepted personality's.
use Prim.Native.Nat.{ℕ, ◌+◌, ◌≤◌, ◌<◌}
use mathlib.Core.Bool.{Bool, true, false}
use mathlib.Core.List.{List}
use mathlib.Core.Path.{◌≡◌, refl}
use native.Mathlib.Nat.{mul-le-mul_right}
use native.Mathlib.Omega.{arith}
use Rattle.rules.specs.declared.site.Edition.{Edition}
use Rattle.rules.specs.declared.site.Edition.TheVariants.{One, Two}
use Rattle.rules.specs.declared.site.Range.{Range}
use Rattle.rules.specs.declared.site.Size.{Size}
use Rattle.rules.specs.declared.site.Times.{Times}
use Rattle.std.specs.Prelude.{if◌then◌else◌}
use Rattle.laws.specs.Folds.{sum_of}
use Rattle.rules.specs.Limits.{limits, limit_of}
use Rattle.rules.specs.Site.{phase_times, walk_times, crosses, site_of}
use Rattle.rules.specs.WaitBound.{phase_share, longest_walk, longest_clearance, wait_bound}
use Rattle.rules.specs.Laws.{TimesIn, AcceptedIsSound, AcceptedIsInTable, highest, highest_phase, highest_walk, greatest_share, greatest_wait, greatest_bound, WaitIsInTable}
use Rattle.laws.proofs.Sums.{greatest-most, sum-within}
use Rattle.proof_acceptance.proofs.Acceptance.{accepted-is-sound, accepted-is-in-table}

greatest-wait : (edition : Edition) → greatest_wait (limits edition) ≡ greatest_bound
unfolding greatest_wait greatest_share phase_share highest_phase highest_walk highest limit_of limits
greatest-wait One = refl
greatest-wait Two = refl

-- a choice between a number within m and 0 is within m
chosen-within : (t : Bool) (n m : ℕ) → n ≤ m → (if t then n else 0) ≤ m
chosen-within true n m l = l
chosen-within false n m l = omega arith

-- the bound by the parts of a site that it needs
abbrev pub bound_by : Size → Times → List ℕ → ℕ
bound_by size times crossings =
    let a = longest_walk crossings times.walks size.movements in
    let c = longest_clearance crossings times.walks size.movements in
    times.start + sum_of (λ p. phase_share (phase_times times p) (a p) (c p)) size.phases

module _ (table : List Range) (size : Size) (times : Times) (crossings : List ℕ) (sound : TimesIn table size times) where
  -- A and C of a phase
  abbrev walk_of : ℕ → ℕ
  walk_of = longest_walk crossings times.walks size.movements

  abbrev clearance_of : ℕ → ℕ
  clearance_of = longest_clearance crossings times.walks size.movements

  walk-within : (p : ℕ) → walk_of p ≤ (highest_walk table).walk + (highest_walk table).first
  unfolding longest_walk walk_times highest_walk highest
  walk-within p =
      greatest-most _ size.movements _
      (λ k l.
      let own = sound.walk k l in
      chosen-within (crosses crossings k p) _ _ (omega (arith, own.walk.1, own.first.1)))

  clearance-within : (p : ℕ) → clearance_of p ≤ (highest_walk table).second
  unfolding longest_clearance walk_times highest_walk highest
  clearance-within p =
      greatest-most _ size.movements _ (λ k l. chosen-within (crosses crossings k p) _ _ (sound.walk k l).second.1)

  abbrev share_of : ℕ → ℕ
  share_of p = phase_share (phase_times times p) (walk_of p) (clearance_of p)

  share-within : (p : ℕ) → p < size.phases → share_of p ≤ greatest_share table
  unfolding phase_share greatest_share highest_phase highest
  share-within p l =
      let own = sound.phase p l in
      omega (
        arith,
        own.late.1,
        own.minimum.1,
        own.maximum.1,
        walk-within p,
        own.early.1,
        own.yellow.1,
        own.red.1,
        clearance-within p,
      )

  pub wait-within : size.phases ≤ 7 → bound_by size times crossings ≤ greatest_wait table
  unfolding greatest_wait highest
  wait-within few =
      omega (
        arith,
        sound.start.1,
        sum-within share_of size.phases (greatest_share table) share-within,
        mul-le-mul_right (greatest_share table) few,
      )

pub wait-is-in-table : WaitIsInTable
unfolding WaitIsInTable wait_bound AcceptedIsSound AcceptedIsInTable
wait-is-in-table = (
  greatest-wait,
  λ b h.
      let edition = (site_of b).edition in
      rw (greatest-wait edition) at
      (wait-within (limits edition) (site_of b).size (site_of b).times (site_of b).crossings (accepted-is-in-table b h) (accepted-is-sound b h).phases.1),
)
