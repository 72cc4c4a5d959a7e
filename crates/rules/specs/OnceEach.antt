-- Once each while you wait, beside demand 3: from the step that registers a demand until it is met, no phase starts twice.
use Rattle.std.specs.Prelude.{ℕ, ◌+◌, ◌≤◌, ◌<◌, Bool, true, not, ◌&&◌, ◌||◌, List, [], ◌∷◌, ◌++◌, ◌≡◌, eqb, if◌then◌else◌}
use Rattle.rules.specs.Types.{Site, Interval}
use Rattle.rules.specs.Site.{site_of, crosses}
use Rattle.rules.specs.IntervalTable.{is_running, is_leaving, is_before_start}
use Rattle.rules.specs.Runs.{Step, Controller, by_rules, accepted_steps, OfEveryRun}
use Rattle.rules.specs.DemandThree.{minimum_green_begins, walk_begins, registers_locked, registers_pressed}

-- ── Starts ──

-- late start or minimum green, so neither before a start nor running nor being left: a phase starts with it
unfoldable pub is_first : Interval → Bool
is_first interval = not (is_before_start interval || is_running interval || is_leaving interval)

-- a phase starts in the step: start red or all-red before it, late start or minimum green after it
unfoldable pub some_starts : Step → Bool
some_starts step = is_before_start step.before.position.interval && is_first step.after.position.interval

-- phase p starts in the step
unfoldable pub phase_starts : ℕ → Step → Bool
phase_starts p step = some_starts step && eqb step.after.position.phase p

-- a phase other than p starts in the step
unfoldable pub other_starts : ℕ → Step → Bool
other_starts p step = some_starts step && not (eqb step.after.position.phase p)

-- how many of the steps pass the test
unfoldable pub how_many : (Step → Bool) → List Step → ℕ
how_many test [] = 0
how_many test (step ∷ later) = (if test step then 1 else 0) + how_many test later

-- ── While a demand waits ──

-- the steps up to the first that meets the demand, that one included; all of them if none does
unfoldable pub until_met : (Step → Bool) → List Step → List Step
until_met met [] = []
until_met met (step ∷ later) = step ∷ (if met step then [] else until_met met later)

-- A claim about each demand that a step registers: about its phase, and about the steps from that one to the one that meets it, both included,
-- or to the last. A lock of phase p is met if minimum green of p begins, a demand of movement k, which is of phase p, if the walk of k does.
abbrev pub WhileWaiting : (ℕ → List Step → Type 0) → Site → List Step → Type 0
WhileWaiting Claim site steps =
    (earlier later : List Step) (step : Step) →
    steps ≡ earlier ++ step ∷ later →
    ((p : ℕ) → registers_locked site step p ≡ true → Claim p (until_met (minimum_green_begins p) (step ∷ later)))
    × ((k p : ℕ) →
    k < site.size.movements →
    crosses site.crossings k p ≡ true →
    registers_pressed step k ≡ true →
    Claim p (until_met (walk_begins k) (step ∷ later)))

-- No phase starts twice. The start after start red is one.
unfoldable pub OnceEach : Site → List Step → Type 0
OnceEach = WhileWaiting (λ p steps. (r : ℕ) → how_many (phase_starts r) steps ≤ 1)

-- The same of the phases other than the one demanded.
unfoldable pub OthersOnce : Site → List Step → Type 0
OthersOnce = WhileWaiting (λ p steps. (r : ℕ) → (r ≡ p → ⊥) → how_many (phase_starts r) steps ≤ 1)

-- Fewer than P starts are of other phases: at most P - 1 phases come first.
unfoldable pub FewOthers : Site → List Step → Type 0
FewOthers site = WhileWaiting (λ p steps. how_many (other_starts p) steps < site.size.phases) site

-- ── The promises ──

-- Of every list of step and retiming calls on every accepted personality, from its fresh state. The personality may have an order of its own.
unfoldable pub OnceEachOf : {S : Type 0} → Controller S → Type 0
OnceEachOf controller = OfEveryRun controller (λ b calls. OnceEach (site_of b) (accepted_steps calls))

unfoldable pub RunsStartOnceEach : Type 0
RunsStartOnceEach = OnceEachOf by_rules

unfoldable pub RunsStartOthersOnce : Type 0
RunsStartOthersOnce = OfEveryRun by_rules (λ b calls. OthersOnce (site_of b) (accepted_steps calls))

unfoldable pub RunsStartFewOthers : Type 0
RunsStartFewOthers = OfEveryRun by_rules (λ b calls. FewOthers (site_of b) (accepted_steps calls))
