-- The waits of example sites as numbers, and that they are reached.
use Rattle.std.specs.Prelude.{ℕ, zero, suc, ◌+◌, ◌^◌, Bool, true, false, List, [], ◌∷◌, ◌++◌, ◌≡◌, eqb, drop, replicate, if◌then◌else◌}
use Rattle.rules.specs.Site.{site_of}
use Rattle.rules.specs.State.{fresh}
use Rattle.rules.specs.Waits.{phase_wait, movement_wait, waits_of}
use Rattle.rules.specs.Junctions.{junction}
use Rattle.rules.specs.Runs.{Step, by_rules, Call, step_call, taken_from, accepted_steps}
use Rattle.rules.specs.DemandThree.{minimum_green_begins, walk_begins, some_step, registers_locked, registers_pressed}
use Rattle.proof_wait_cases.specs.Examples.{t_junction, four_phases, staggered, crossings}

-- ── The numbers ──

-- Each phase, then each movement, in steps of 0.1 s. A demand is met in the step that registers it or in fewer than that many further ones.
pub record ExampleWaits : Type 0 where
  pub two_phases : waits_of (site_of junction) ≡ (130 ∷ 130 ∷ [])
  pub t_junction : waits_of (site_of t_junction) ≡ (465 ∷ 600 ∷ 500 ∷ [])
  pub four_phases : waits_of (site_of four_phases) ≡ (1013 ∷ 821 ∷ 1052 ∷ 876 ∷ [])
  pub staggered : waits_of (site_of staggered) ≡ (557 ∷ 598 ∷ 755 ∷ 792 ∷ [])
  pub crossings : waits_of (site_of crossings) ≡ (1594 ∷ 1855 ∷ 1855 ∷ 1558 ∷ 1773 ∷ 2030 ∷ 2009 ∷ 1949 ∷ 2210 ∷ 2178 ∷ [])

-- ── They are reached ──

-- One detector of each phase of the staggered junction is occupied all the time, and the button is pressed in step 41, the first after A has started.
-- Steps are counted from 1.
unfoldable pub saturated : ℕ → ℕ
saturated step = 2 ^ 0 + 2 ^ 2 + 2 ^ 5 + (if eqb step 41 then 2 ^ 48 else 0)

-- n step calls from a step on, with a buffer for 11 groups
unfoldable pub saturated_from : ℕ → ℕ → List Call
saturated_from step zero = []
saturated_from step (suc n) = step_call (record { inputs = saturated step; buffer = replicate 11 0 }) ∷ saturated_from (step + 1) n

-- 832 step calls, in four parts
unfoldable pub saturated_calls : List Call
saturated_calls = saturated_from 1 40 ++ (saturated_from 41 235 ++ (saturated_from 276 279 ++ saturated_from 555 278))

-- the accepted steps of these calls from the fresh state
unfoldable pub saturated_steps : List Step
saturated_steps = accepted_steps (taken_from by_rules staggered (by_rules.fresh staggered) saturated_calls)

-- how many steps pass before the first that brings the event; all of them if none does
unfoldable pub passing : (Step → Bool) → List Step → ℕ
passing event [] = 0
passing event (step ∷ later) = if event step then 0 else 1 + passing event later

-- there is a first step, and it passes the test
unfoldable pub first_passes : (Step → Bool) → List Step → Bool
first_passes test [] = false
first_passes test (step ∷ later) = test step

-- the first of the steps registers a demand, and so many further ones pass before its event comes
unfoldable pub WaitsFor : (registers event : Step → Bool) → List Step → ℕ → Type 0
WaitsFor registers event steps n = (first_passes registers steps ≡ true) × (some_step event steps ≡ true) × (passing event steps ≡ n)

-- The press in step 41 waits for the rest of A's turn and one full turn of B and C: its walk begins in step 832. The lock of A that step 276 registers,
-- the first in which A is being left, waits for that and for the same turns: minimum green of A begins in step 832. So each waits for one step less than
-- its wait, which is what "fewer than" allows.
pub record WaitsReached : Type 0 where
  pub button : (n : ℕ) × (n + 1 ≡ movement_wait (site_of staggered) 0 0) × WaitsFor (λ step. registers_pressed step 0) (walk_begins 0) (drop 40 saturated_steps) n
  pub lock : (n : ℕ) × (n + 1 ≡ phase_wait (site_of staggered) 0) × WaitsFor (λ step. registers_locked (site_of staggered) step 0) (minimum_green_begins 0) (drop 275 saturated_steps) n
