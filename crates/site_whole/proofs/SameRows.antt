-- The rows of time records of a personality are those of the site's own times: each record stands where the layout says.
use Prim.Native.Nat.{ℕ, ◌+◌}
use mathlib.Core.List.{List}
use mathlib.Core.Path.{◌≡◌, ap, fun_ext}
use Rattle.rules.specs.declared.site.PhaseTimes.{PhaseTimes}
use Rattle.rules.specs.declared.site.WalkTimes.{WalkTimes}
use Rattle.laws.specs.Folds.{row_of}
use Rattle.rules.specs.Personality.{body_at, record_at, phase_count, movement_count}
use Rattle.rules.specs.Site.{no_phase_times, no_walk_times, early_time_at, phase_times_at, walk_times_at, times_in}
use Rattle.read_layout.specs.declared.Layout.{Layout}
use Rattle.read_layout.specs.LayoutOf.{LayoutOf}
use Rattle.state_times.specs.TimeRows.{phase_in, walk_in}

module _ (b : List ℕ) (w : Layout) (laid : LayoutOf b w) where
  pub phase-own : (p : ℕ) → phase_in b 12 (w.early + 4) w.hasearly p ≡ phase_times_at b p
  unfolding phase_times_at early_time_at record_at body_at
  phase-own p = rw (laid.early, laid.hasearly)

  pub walk-own : (k : ℕ) → walk_in b (w.pedestrians + 4) k ≡ walk_times_at b k
  unfolding walk_times_at record_at body_at
  walk-own k = rw laid.pedestrians

  pub phases-own : row_of (phase_in b 12 (w.early + 4) w.hasearly) w.phasecount 7 no_phase_times ≡ (times_in b).phases
  unfolding times_in
  phases-own = rw laid.phasecount (ap (λ (f : ℕ → PhaseTimes). row_of f (phase_count b) 7 no_phase_times) (fun_ext phase-own))

  pub walks-own : row_of (walk_in b (w.pedestrians + 4)) (movement_count b) 8 no_walk_times ≡ (times_in b).walks
  unfolding times_in
  walks-own = ap (λ (f : ℕ → WalkTimes). row_of f (movement_count b) 8 no_walk_times) (fun_ext walk-own)
