-- What the site of given bytes answers for each index: below its count the entry that the bytes hold, past it the blank.
use Prim.Native.Nat.{ℕ, ◌≤◌, ◌<◌}
use mathlib.Core.Bool.{false}
use mathlib.Core.List.{List}
use mathlib.Core.Path.{◌≡◌, ap, ◌∙◌}
use lib.Dec.{eqb}
use lib.ListN.{get_or}
use native.Mathlib.Omega.{arith}
use Rattle.rules.specs.declared.site.Group.{Group}
use Rattle.laws.specs.Bytes.{bit}
use Rattle.laws.specs.Folds.{count_of}
use Rattle.rules.specs.Personality.{phase_count, group_count, detector_count, movement_count, group_set, group_mark, conflict_set, detector_phase, detector_mode, pedestrian}
use Rattle.rules.specs.Site.{no_phase_times, no_walk_times, no_group, no_detector, phase_times_at, walk_times_at, times_in, crossing_at, order_in, site_of, group_of, detector_of, phase_times, walk_times, in_phase, crosses, is_pedestrian, movement_of, conflict}
use Rattle.laws.proofs.Counting.{count_same}
use Rattle.laws.proofs.Lists.{row_at, row-past}
use Rattle.laws.proofs.Bits.{bit-blank}

module _ (b : List ℕ) where
  -- ── Times ──

  pub phase-times-at : (p : ℕ) → p < phase_count b → phase_times (site_of b).times p ≡ phase_times_at b p
  unfolding phase_times site_of times_in
  phase-times-at p l = row_at (phase_times_at b) (phase_count b) 7 p no_phase_times l

  pub phase-times-past : (p : ℕ) → phase_count b ≤ p → phase_times (site_of b).times p ≡ no_phase_times
  unfolding phase_times site_of times_in
  phase-times-past p l = row-past (phase_times_at b) (phase_count b) 7 p no_phase_times l

  pub walk-times-at : (k : ℕ) → k < movement_count b → walk_times (site_of b).times k ≡ walk_times_at b k
  unfolding walk_times site_of times_in
  walk-times-at k l = row_at (walk_times_at b) (movement_count b) 8 k no_walk_times l

  pub walk-times-past : (k : ℕ) → movement_count b ≤ k → walk_times (site_of b).times k ≡ no_walk_times
  unfolding walk_times site_of times_in
  walk-times-past k l = row-past (walk_times_at b) (movement_count b) 8 k no_walk_times l

  -- ── The order of phases ──

  pub order-at : (i : ℕ) → i < phase_count b → get_or (site_of b).order i 0 ≡ order_in b i
  unfolding site_of
  order-at i l = row_at (order_in b) (phase_count b) 7 i 0 l

  -- ── Groups ──

  abbrev group_at : ℕ → Group
  group_at g = record { phases = group_set b g; mark = group_mark b g }

  pub group-at : (g : ℕ) → g < group_count b → group_of (site_of b).groups g ≡ group_at g
  unfolding group_of site_of
  group-at g l = row_at group_at (group_count b) 32 g no_group l

  pub group-past : (g : ℕ) → group_count b ≤ g → group_of (site_of b).groups g ≡ no_group
  unfolding group_of site_of
  group-past g l = row-past group_at (group_count b) 32 g no_group l

  pub in-phase-at : (g p : ℕ) → g < group_count b → in_phase (site_of b).groups g p ≡ bit p (group_set b g)
  unfolding in_phase
  in-phase-at g p l = ap (λ (x : Group). bit p x.phases) (group-at g l)

  pub in-phase-past : (g p : ℕ) → group_count b ≤ g → in_phase (site_of b).groups g p ≡ false
  unfolding in_phase
  in-phase-past g p l = ap (λ (x : Group). bit p x.phases) (group-past g l) ∙ bit-blank p

  pub pedestrian-at : (g : ℕ) → g < group_count b → is_pedestrian (site_of b).groups g ≡ pedestrian b g
  unfolding is_pedestrian pedestrian
  pedestrian-at g l = ap (λ (x : Group). eqb x.mark 2) (group-at g l)

  -- ── Conflicts and detectors ──

  pub conflict-at : (g j : ℕ) → g < group_count b → conflict (site_of b) g j ≡ bit j (conflict_set b g)
  unfolding conflict site_of
  conflict-at g j l = ap (bit j) (row_at (conflict_set b) (group_count b) 32 g 0 l)

  pub conflict-past : (g j : ℕ) → group_count b ≤ g → conflict (site_of b) g j ≡ false
  unfolding conflict site_of
  conflict-past g j l = ap (bit j) (row-past (conflict_set b) (group_count b) 32 g 0 l) ∙ bit-blank j

  pub detector-at : (d : ℕ) → d < detector_count b → detector_of (site_of b).detectors d ≡ record { phase = detector_phase b d; mode = detector_mode b d }
  unfolding detector_of site_of
  detector-at d l =
      row_at (λ d. record { phase = detector_phase b d; mode = detector_mode b d }) (detector_count b) 48 d no_detector l

  -- ── Movements ──

  pub crosses-at : (k p : ℕ) → k < movement_count b → crosses (site_of b).crossings k p ≡ bit p (crossing_at b k)
  unfolding crosses site_of
  crosses-at k p l = ap (bit p) (row_at (crossing_at b) (movement_count b) 8 k 0 l)

  pub crosses-past : (k p : ℕ) → movement_count b ≤ k → crosses (site_of b).crossings k p ≡ false
  unfolding crosses site_of
  crosses-past k p l = ap (bit p) (row-past (crossing_at b) (movement_count b) 8 k 0 l) ∙ bit-blank p

  pub movement-at : (g : ℕ) → g < group_count b → movement_of (site_of b).groups g ≡ count_of (pedestrian b) g
  unfolding movement_of
  movement-at g l = count_same (is_pedestrian (site_of b).groups) (pedestrian b) g (λ i m. pedestrian-at i (omega arith))
