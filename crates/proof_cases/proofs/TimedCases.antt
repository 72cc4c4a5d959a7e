-- Every worked case of a run with retiming calls holds. They are three lists, since one computation has a limit.
use Prim.Native.Nat.{ℕ}
use mathlib.Core.Bool.{Bool, true}
use mathlib.Core.List.{List, [], ◌∷◌}
use mathlib.Core.Path.{◌≡◌, refl, ap, ◌∙◌}
use Rattle.rules.specs.Site.{site_of}
use Rattle.rules.specs.Timed.{fresh_timed}
use Rattle.rules.specs.Runs.{by_rules, Call, Taken, taken_from}
use Rattle.rules.specs.IntervalTable.{letter_of}
use Rattle.rules.specs.CallCases.{AllHold}
use Rattle.rules.proofs.Opened.{opened}
use Rattle.proof_quick_runs.proofs.QuickRuns.{times_fit, calls_fit, quick_rules, rules-quickly}
use Rattle.proof_cases.specs.Cases.{once_b}
use Rattle.proof_cases.specs.Traces.{Told, calls_from, unless_refused, lines_from, same_colours, same_line, same_told, changes_after, changes_in, changes}
use Rattle.proof_cases.specs.TimedCases.{RetimedRun, retiming, Holds, before, before_both, once_each, press_at_once, first_runs, second_runs, third_runs, TimedRunsHold}

-- ── A run is computed without the test of the times ──

-- the changes, computed so
unfoldable quick_changes : List ℕ → List Call → List Told
quick_changes b calls = changes_in same_told (lines_from 1 (taken_from quick_rules b (fresh_timed (site_of b)) calls))

-- what is computed of a run: that the times fit, and the changes
abbrev Quickly : RetimedRun → Type 0
Quickly (retiming b inputs handed n lines) =
    let calls = calls_from b inputs handed 1 n in
    ◌≡◌ {A = Bool × Bool × List Told} (times_fit (site_of b) (fresh_timed (site_of b)), calls_fit (site_of b) calls, quick_changes b calls) (true, true, lines)

holds : (run : RetimedRun) → Quickly run → Holds run
unfolding quick_changes changes by_rules
holds (retiming b inputs handed n lines) h =
    ap (λ (calls : List Taken). changes_in same_told (lines_from 1 calls))
    (rules-quickly b (λ i. (h i).0) (calls_from b inputs handed 1 n) (λ i. (h i).1))
    ∙ (λ i. (h i).2)

all_hold : (runs : List RetimedRun) → AllHold Quickly runs → AllHold Holds runs
all_hold [] h = tt
all_hold (run ∷ runs) h = (holds run h.0, all_hold runs h.1)

-- ── The runs ──

-- what the runs compute with
unfoldable computing : Unit {0}
unfolding
    opened letter_of once_b calls_from unless_refused lines_from same_colours same_line same_told changes_after changes_in changes
    before before_both once_each press_at_once calls_fit quick_changes
computing = tt

first-quickly : AllHold Quickly first_runs
unfolding computing first_runs
first-quickly = (refl, (refl, (refl, (refl, tt))))

second-quickly : AllHold Quickly second_runs
unfolding computing second_runs
second-quickly = (refl, (refl, (refl, (refl, tt))))

third-quickly : AllHold Quickly third_runs
unfolding computing third_runs
third-quickly = (refl, (refl, (refl, (refl, tt))))

pub timed-runs-hold : TimedRunsHold
unfolding TimedRunsHold
timed-runs-hold = (all_hold first_runs first-quickly, all_hold second_runs second-quickly, all_hold third_runs third-quickly)
