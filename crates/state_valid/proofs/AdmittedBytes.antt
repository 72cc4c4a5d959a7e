-- The tests of the records in the bytes of times are the tests of the times that are read from them.
use Prim.Native.Nat.{ℕ, ◌+◌}
use mathlib.Core.Bool.{Bool, true, ◌&&◌}
use mathlib.Core.List.{List}
use mathlib.Core.Path.{◌≡◌, sym, ap}
use lib.ListN.{get_or}
use Rattle.rules.specs.declared.site.PhaseTimes.{PhaseTimes}
use Rattle.rules.specs.declared.site.WalkTimes.{WalkTimes}
use Rattle.laws.specs.Bytes.{two_at}
use Rattle.laws.specs.Folds.{all_of}
use Rattle.rules.specs.Limits.{limits, within}
use Rattle.rules.specs.Personality.{phase_count, movement_count, has_early, edition_of}
use Rattle.rules.specs.Site.{no_phase_times, no_walk_times, site_of, phase_times, walk_times}
use Rattle.rules.specs.SiteTimes.{record_limits, phase_within, walk_within, admitted}
use Rattle.state_times.specs.TimesLayout.{times}
use Rattle.state_times.specs.TimeRows.{phases_at, walks_at, earlies_at, phase_in, walk_in}
use Rattle.state_times.proofs.TimesRead.{phase-read, walk-read}
use Rattle.state_valid.proofs.Records.{all_same, admitted-tested}

module _ (s b : List ℕ) (at : ℕ) where
  abbrev phase_test : PhaseTimes → ℕ → Bool
  phase_test t p = phase_within (record_limits (limits (edition_of s)) (phase_count s) p) (has_early s) t

  abbrev walk_test : WalkTimes → ℕ → Bool
  walk_test t k = walk_within (record_limits (limits (edition_of s)) (movement_count s) k) t

  pub admitted-bytes :
      (within (limits (edition_of s)) 0 (two_at b at)
      && all_of (λ p. phase_test (phase_in b (at + phases_at) (at + earlies_at) true p) p) 7
      && all_of (λ k. walk_test (walk_in b (at + walks_at) k) k) 8)
      ≡ admitted (site_of s) (times.read b at)
  unfolding site_of phase_times walk_times
  admitted-bytes =
      let t = times.read b at in
      rw (
        all_same (λ p. phase_test (phase_in b (at + phases_at) (at + earlies_at) true p) p) (λ p. phase_test (get_or t.phases p no_phase_times) p) 7
            (λ p l. ap (λ (own : PhaseTimes). phase_test own p) (sym (phase-read b at p l))),
        all_same (λ k. walk_test (walk_in b (at + walks_at) k) k) (λ k. walk_test (get_or t.walks k no_walk_times) k) 8
            (λ k l. ap (λ (own : WalkTimes). walk_test own k) (sym (walk-read b at k l))),
      )
      (admitted-tested (site_of s) t)
