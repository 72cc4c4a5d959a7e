-- Every worked case holds: what the rules compute is, case by case, what it must be.
use Prim.Native.Nat.{ℕ, zero, suc, ◌+◌}
use mathlib.Core.Bool.{Bool, true}
use mathlib.Core.List.{List, [], ◌∷◌, ◌++◌, map}
use mathlib.Core.Path.{◌≡◌, refl, ap, ◌∙◌}
use Rattle.rules.specs.declared.site.Site.{Site}
use Rattle.rules.specs.Site.{site_of}
use Rattle.rules.specs.Timed.{fresh_timed}
use Rattle.rules.specs.Runs.{by_rules, Taken, taken_from}
use Rattle.rules.specs.IntervalTable.{letter_of}
use Rattle.rules.specs.CallCases.{CallHolds, AllHold}
use Rattle.rules.proofs.Opened.{opened}
use Rattle.proof_quick_runs.proofs.QuickRuns.{times_fit, calls_fit, quick_rules, rules-quickly}
use Rattle.proof_cases.specs.Traces.{Line, unsaid, calls_from, unless_refused, lines_from, same_colours, same_line, changes_after, changes_in, plain_changes}
use Rattle.proof_cases.specs.Cases.{Case, call, running, Holds, once_b, once_b_always_a, starred, walk_twice, later_b, pausing, ours, lock_a, early, keeping, call_later, call_later_always_a, resting, both_others, in_order, callers, in_edition_two, later_cases, CasesHold}

-- ── A run is computed without the test of the times ──

-- the changes, computed so
unfoldable quick_changes : List ℕ → (ℕ → ℕ) → ℕ → List Line
quick_changes b inputs n =
    changes_in same_line (map unsaid (lines_from 1 (taken_from quick_rules b (fresh_timed (site_of b)) (calls_from b inputs (λ step. []) 1 n))))

steps-fit : (site : Site) (b : List ℕ) (inputs : ℕ → ℕ) (step n : ℕ) → calls_fit site (calls_from b inputs (λ step. []) step n) ≡ true
unfolding calls_fit calls_from
steps-fit site b inputs step zero = refl
steps-fit site b inputs step (suc n) = steps-fit site b inputs (step + 1) n

-- what is computed of a case: a call as it is; of a run, that the times fit, and the changes
abbrev Quickly : Case → Type 0
Quickly (call c) = CallHolds c
Quickly (running b inputs n lines) =
    ◌≡◌ {A = Bool × List Line} (times_fit (site_of b) (fresh_timed (site_of b)), quick_changes b inputs n) (true, lines)

holds : (c : Case) → Quickly c → Holds c
unfolding quick_changes plain_changes by_rules
holds (call c) h = h
holds (running b inputs n lines) h =
    ap (λ (calls : List Taken). changes_in same_line (map unsaid (lines_from 1 calls)))
    (rules-quickly b (λ i. (h i).0) (calls_from b inputs (λ step. []) 1 n) (steps-fit (site_of b) b inputs 1 n))
    ∙ (λ i. (h i).1)

all_hold : (cases : List Case) → AllHold Quickly cases → AllHold Holds cases
all_hold [] h = tt
all_hold (c ∷ cases) h = (holds c h.0, all_hold cases h.1)

-- ── The cases ──

-- what the runs compute with
unfoldable computing : Unit {0}
unfolding
    opened letter_of calls_from unless_refused lines_from same_colours same_line changes_after changes_in plain_changes once_b once_b_always_a walk_twice later_b pausing
    lock_a call_later call_later_always_a both_others quick_changes
computing = tt

first-quickly : AllHold Quickly (starred ++ ours)
unfolding computing starred ours
first-quickly = (refl, (refl, (refl, (refl, (refl, (refl, (refl, (refl, (refl, (refl, (refl, (refl, (refl, (refl, (refl, (refl, (refl, (refl, tt))))))))))))))))))

early-quickly : AllHold Quickly early
unfolding computing early
early-quickly = (refl, (refl, (refl, (refl, (refl, (refl, (refl, (refl, (refl, (refl, (refl, (refl, (refl, (refl, (refl, (refl, tt))))))))))))))))

later-quickly : AllHold Quickly later_cases
unfolding computing keeping resting in_order callers in_edition_two
later-quickly = (refl, (refl, (refl, (refl, (refl, (refl, (refl, (refl, (refl, (refl, (refl, (refl, (refl, (refl, (refl, (refl, (refl, (refl, (refl, (refl, (refl, (refl, (refl, (refl, (refl, (refl, tt))))))))))))))))))))))))))

pub cases-hold : CasesHold
unfolding CasesHold
cases-hold = (all_hold (starred ++ ours) first-quickly, all_hold early early-quickly, all_hold later_cases later-quickly)
