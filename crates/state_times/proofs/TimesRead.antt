-- Times that are read from bytes, record by record.
use Prim.Native.Nat.{ℕ, ◌+◌, ◌*◌, ◌<◌}
use mathlib.Core.Bool.{true}
use mathlib.Core.List.{List}
use mathlib.Core.Path.{◌≡◌, ◌∙◌}
use lib.ListN.{get_or}
use Rattle.laws.specs.Bytes.{two_at}
use Rattle.rules.specs.Site.{no_phase_times, no_walk_times, phase_times, walk_times}
use Rattle.laws.proofs.Lists.{list_at}
use Rattle.state_times.specs.TimesLayout.{six, six_of, phase_of, phases, earlies, times}
use Rattle.state_times.specs.TimeRows.{phases_at, walks_at, earlies_at, phase_in, walk_in}

module _ (b : List ℕ) (at : ℕ) where
  pub phase-read : (p : ℕ) → p < 7 → phase_times (times.read b at) p ≡ phase_in b (at + phases_at) (at + earlies_at) true p
  unfolding phase_times
  phase-read p l =
      list_at (λ k. phase_of (get_or (phases.read b (at + phases_at)) k (six_of no_phase_times)) (get_or (earlies.read b (at + earlies_at)) k 0)) 7 p no_phase_times l
      ∙ rw (
        list_at (λ k. six.read b (at + phases_at + k * 12)) 7 p (six_of no_phase_times) l,
        list_at (λ k. two_at b (at + earlies_at + k * 2)) 7 p 0 l,
      )

  pub walk-read : (k : ℕ) → k < 8 → walk_times (times.read b at) k ≡ walk_in b (at + walks_at) k
  unfolding walk_times
  walk-read k l = list_at (walk_in b (at + walks_at)) 8 k no_walk_times l
