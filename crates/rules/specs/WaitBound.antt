-- The wait bound: start red plus the sum over the phases of L + M + X + 2 × (A + E + Y + R + C). E is the time of early cut-off green.
use Rattle.std.specs.Prelude.{ℕ, ◌+◌, ◌*◌, List, get_or, if◌then◌else◌}
use Rattle.rules.specs.Types.{PhaseTimes, Site, WalkTimes}
use Rattle.laws.specs.Folds.{sum_of, greatest_of}
use Rattle.rules.specs.Site.{no_walk_times, phase_times, crosses}

-- a phase's share, by its times and its A and C
unfoldable pub phase_share : PhaseTimes → ℕ → ℕ → ℕ
phase_share times a c = times.late + times.minimum + times.maximum + 2 * (a + times.early + times.yellow + times.red + c)

-- Among the first n movements, by the phase set and the times of each.
module _ (crossings : List ℕ) (walks : List WalkTimes) (n : ℕ) where
  -- A: the largest sum W + C1 of the phase's movements, 0 if it has none
  unfoldable pub longest_walk : ℕ → ℕ
  longest_walk p =
      greatest_of (λ k. if crosses crossings k p then (get_or walks k no_walk_times).walk + (get_or walks k no_walk_times).first else 0) n

  -- C: the largest C2 of the phase's movements, 0 if it has none
  unfoldable pub longest_clearance : ℕ → ℕ
  longest_clearance p = greatest_of (λ k. if crosses crossings k p then (get_or walks k no_walk_times).second else 0) n

unfoldable pub wait_bound : Site → ℕ
wait_bound site =
    let a = longest_walk site.crossings site.times.walks site.size.movements in
    let c = longest_clearance site.crossings site.times.walks site.size.movements in
    site.times.start + sum_of (λ p. phase_share (phase_times site.times p) (a p) (c p)) site.size.phases
