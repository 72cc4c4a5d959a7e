-- A wait for each phase and each movement, by the times alone: what may be under way when the demand comes, then one turn of every other phase,
-- then the own late start. They stand beside the wait bound, which is one number for the whole site.
use Rattle.std.specs.Prelude.{ℕ, ◌+◌, max, Bool, true, not, ◌&&◌, List, ◌++◌, eqb, if◌then◌else◌}
use Rattle.rules.specs.Types.{PhaseTimes, Site, WalkTimes}
use Rattle.laws.specs.Folds.{sum_of, greatest_of, list_of}
use Rattle.rules.specs.Site.{phase_times, walk_times, crosses, ring}
use Rattle.rules.specs.IntervalTable.{is_held, phase_held}
use Rattle.rules.specs.Demands.{next_after}
use Rattle.rules.specs.WaitBound.{longest_clearance}

-- ── The turn of a phase ──

-- V: early cut-off green, yellow and all-red
abbrev pub leaving_of : PhaseTimes → ℕ
leaving_of times = times.early + times.yellow + times.red

-- late start, minimum green and the whole maximum green
abbrev pub green_of : PhaseTimes → ℕ
green_of times = times.late + times.minimum + times.maximum

-- a walk that began at step b and may end only after step z, then C1, then the greater of V and C2
unfoldable pub walk_ending : (leaving : ℕ) → WalkTimes → (z b : ℕ) → ℕ
walk_ending leaving walk z b = max (b + walk.walk) (z + 1) + walk.first + max leaving walk.second

module _ (site : Site) where
  -- the step at which the next phase starts, if nothing but a walk holds phase p after step z; the walks of such movements began at step b
  unfoldable pub ending : (p : ℕ) → (such : ℕ → Bool) → (z b : ℕ) → ℕ
  ending p such z b =
      let leaving = leaving_of (phase_times site.times p) in
      max (z + leaving)
      (greatest_of (λ k. if crosses site.crossings k p && such k then walk_ending leaving (walk_times site.times k) z b else 0)
      site.size.movements)

  -- the turn of phase p: from its start to the next phase's start, another phase being demanded
  unfoldable pub turn_of : ℕ → ℕ
  turn_of p = ending p (λ k. true) (green_of (phase_times site.times p)) 0

  -- ── What comes first ──

  -- r is the phase after q in the running order
  unfoldable pub comes_after : ℕ → ℕ → Bool
  comes_after q r =
      let next = next_after (ring site.order site.size.phases) q (λ p. true) in
      is_held next && eqb (phase_held next) r

  -- the greater of V and the longest C2 of phase r
  unfoldable pub clearing_of : ℕ → ℕ
  clearing_of r =
      max (leaving_of (phase_times site.times r)) (longest_clearance site.crossings site.times.walks site.size.movements r)

  -- start red, or a phase that is being left when a demand of q comes. The phase after q does not count: its turn is not to come any more.
  unfoldable pub clears_first : ℕ → ℕ
  clears_first q = max site.times.start (greatest_of (λ r. if comes_after q r then 0 else clearing_of r) site.size.phases)

  -- for movement m of phase q: what is left of the turn of q, or the clearance of m and then another walk of q
  unfoldable pub own_of : (q m : ℕ) → ℕ
  own_of q m =
      let others : ℕ → Bool = λ k. not (eqb k m) in
      let clearance = (walk_times site.times m).first + (walk_times site.times m).second in
      max (ending q others (green_of (phase_times site.times q)) 0) (ending q others clearance clearance)

  -- ── The waits, by the late start of the phase and the turns of the others ──

  -- one turn of each phase but q
  unfoldable pub rest_of : (turn : ℕ → ℕ) → ℕ → ℕ
  rest_of turn q = sum_of (λ p. if eqb p q then 0 else turn p) site.size.phases

  unfoldable pub phase_wait_by : (late : ℕ) → (turn : ℕ → ℕ) → ℕ → ℕ
  phase_wait_by late turn q = late + clears_first q + rest_of turn q

  -- of movement m of phase q
  unfoldable pub movement_wait_by : (turn : ℕ → ℕ) → (q m : ℕ) → ℕ
  movement_wait_by turn q m = max (clears_first q) (own_of q m) + rest_of turn q

  -- ── The waits ──

  abbrev pub phase_wait : ℕ → ℕ
  phase_wait q = phase_wait_by (phase_times site.times q).late turn_of q

  -- of movement m of phase q
  abbrev pub movement_wait : (q m : ℕ) → ℕ
  movement_wait q m = movement_wait_by turn_of q m

  -- the phase of movement m
  unfoldable pub phase_of_movement : ℕ → ℕ
  phase_of_movement m = greatest_of (λ p. if crosses site.crossings m p then p else 0) site.size.phases

  -- the wait of each phase, then that of each movement
  unfoldable pub waits_of : List ℕ
  waits_of = list_of phase_wait site.size.phases ++ list_of (λ m. movement_wait (phase_of_movement m) m) site.size.movements
