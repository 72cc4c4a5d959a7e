-- Lamps are served, beside demand 3. Part c of the demand speaks of states; these statements speak of the colours that are in the buffer when a
-- step call returns. They are about every list of step and retiming calls on an accepted personality. Some of the calls may be refused.
use Rattle.std.specs.Prelude.{ℕ, ◌+◌, ◌<◌, Bool, true, not, ◌&&◌, ◌||◌, List, ◌∷◌, ◌++◌, ◌≡◌, eqb, ltb, take, drop}
use Rattle.rules.specs.Types.{Site}
use Rattle.rules.specs.Site.{site_of, phase_times, walk_times, in_phase, is_pedestrian, movement_of}
use Rattle.rules.specs.Colours.{green}
use Rattle.rules.specs.Runs.{Step, Controller, by_rules, accepted_steps, OfEveryRun}
use Rattle.rules.specs.DemandThree.{shows, in_minimum_green, in_walk, in_running, registers_locked, registers_pressed, minimum_green_begins, walk_begins, MetInTime}
use Rattle.rules.specs.PhaseWaits.{every_step}

-- ── Groups ──

-- group g is a vehicle group, of whatever mark, that has phase p in its set
unfoldable pub is_vehicle_group : Site → ℕ → ℕ → Bool
is_vehicle_group site p g = in_phase site.groups g p && not (is_pedestrian site.groups g)

-- group g is the pedestrian group of movement k
unfoldable pub is_movement_group : Site → ℕ → ℕ → Bool
is_movement_group site k g = ltb g site.size.groups && is_pedestrian site.groups g && eqb (movement_of site.groups g) k

-- group g shows green after the step
unfoldable pub shows_green : ℕ → Step → Bool
shows_green g step = eqb (shows step g) green

-- Every movement has its group. A phase need not have a vehicle group.
unfoldable pub MovementsHaveGroups : Site → Type 0
MovementsHaveGroups site = (k : ℕ) → k < site.size.movements → (g : ℕ) × (is_movement_group site k g ≡ true)

-- ── Shown: what is green in the state is green in the buffer ──

-- After each accepted step every vehicle group of a phase in minimum green or running shows green, and so does the group of a movement in
-- walk.
unfoldable pub GreensShown : Site → List Step → Type 0
GreensShown site steps =
    (earlier later : List Step) (step : Step) →
    steps ≡ earlier ++ step ∷ later →
    (g : ℕ) →
    ((p : ℕ) →
    is_vehicle_group site p g ≡ true →
    (in_minimum_green step.after p || in_running step.after p) ≡ true →
    shows_green g step ≡ true)
    × ((k : ℕ) → is_movement_group site k g ≡ true → in_walk step.after k ≡ true → shows_green g step ≡ true)

-- ── Lasting: a green that has begun lasts ──

-- The tests below are of a step and of the steps after it. M and W are those of the times that rule after the step. If there are fewer steps than a test
-- speaks of, it is of those that there are.

-- after the first M of the steps the state is in minimum green of phase p
unfoldable pub stays_in_minimum : ℕ → Step → List Step → Bool
stays_in_minimum p step later =
    every_step (λ step. in_minimum_green step.after p) (take (phase_times step.ruling p).minimum (step ∷ later))

-- after the next one it is in running of the phase
unfoldable pub then_runs : ℕ → Step → List Step → Bool
then_runs p step later = every_step (λ step. in_running step.after p) (take 1 (drop (phase_times step.ruling p).minimum (step ∷ later)))

-- after all of these group g shows green
unfoldable pub stays_green : ℕ → ℕ → Step → List Step → Bool
stays_green p g step later = every_step (shows_green g) (take ((phase_times step.ruling p).minimum + 1) (step ∷ later))

-- after the first W of the steps movement k is in walk
unfoldable pub stays_in_walk : ℕ → Step → List Step → Bool
stays_in_walk k step later = every_step (λ step. in_walk step.after k) (take (walk_times step.ruling k).walk (step ∷ later))

-- after all of these group g shows green
unfoldable pub walk_stays_green : ℕ → ℕ → Step → List Step → Bool
walk_stays_green k g step later = every_step (shows_green g) (take (walk_times step.ruling k).walk (step ∷ later))

-- from the step in which minimum green of phase p begins: it lasts for exactly M steps, this one included, and then running for one step at least;
-- every vehicle group of the phase shows green for these M + 1 steps
pub record MinimumLasts (site : Site) (p : ℕ) (step : Step) (later : List Step) : Type 0 where
  pub minimum : stays_in_minimum p step later ≡ true
  pub running : then_runs p step later ≡ true
  pub shown : (g : ℕ) → is_vehicle_group site p g ≡ true → stays_green p g step later ≡ true

-- from the step in which the walk of movement k begins: it lasts for W steps at least, and its group shows green for as long
pub record WalkLasts (site : Site) (k : ℕ) (step : Step) (later : List Step) : Type 0 where
  pub walk : stays_in_walk k step later ≡ true
  pub shown : (g : ℕ) → is_movement_group site k g ≡ true → walk_stays_green k g step later ≡ true

unfoldable pub GreensLast : Site → List Step → Type 0
GreensLast site steps =
    (earlier later : List Step) (step : Step) →
    steps ≡ earlier ++ step ∷ later →
    ((p : ℕ) → minimum_green_begins p step ≡ true → MinimumLasts site p step later)
    × ((k : ℕ) → k < site.size.movements → walk_begins k step ≡ true → WalkLasts site k step later)

-- ── Met by light: the green that a demand waits for is seen in time ──

-- minimum green of phase p begins in the step, and group g shows green after it
unfoldable pub minimum_lit : ℕ → ℕ → Step → Bool
minimum_lit p g step = minimum_green_begins p step && shows_green g step

-- the walk of movement k begins in the step, and group g shows green after it
unfoldable pub walk_lit : ℕ → ℕ → Step → Bool
walk_lit k g step = walk_begins k step && shows_green g step

-- A locked demand is met so at each vehicle group of its phase, a button demand at the group of its movement, in the time of part c.
unfoldable pub MetByLight : Site → List Step → Type 0
MetByLight site steps =
    (earlier between later : List Step) (step : Step) →
    steps ≡ earlier ++ step ∷ (between ++ later) →
    (g : ℕ) →
    ((p : ℕ) → is_vehicle_group site p g ≡ true → registers_locked site step p ≡ true → MetInTime site (minimum_lit p g) step between)
    × ((k : ℕ) → is_movement_group site k g ≡ true → registers_pressed step k ≡ true → MetInTime site (walk_lit k g) step between)

-- ── The promise ──

pub record LampsServed (site : Site) (steps : List Step) : Type 0 where
  pub movements : MovementsHaveGroups site
  pub shown : GreensShown site steps
  pub lasting : GreensLast site steps
  pub met : MetByLight site steps

unfoldable pub LampsServedOf : {S : Type 0} → Controller S → Type 0
LampsServedOf controller = OfEveryRun controller (λ b calls. LampsServed (site_of b) (accepted_steps calls))

unfoldable pub RunsServeLamps : Type 0
RunsServeLamps = LampsServedOf by_rules
