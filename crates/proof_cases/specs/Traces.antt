-- What a run shows, line by line: the rules take the calls one after the other from the fresh state, until a step call is refused. A refused
-- retiming call hands the state on.
use Rattle.std.specs.Prelude.{ℕ, zero, suc, ◌+◌, Bool, true, false, ◌&&◌, List, [], ◌∷◌, ◌++◌, map, eqb, replicate, if◌then◌else◌, Ok, Err}
use Rattle.rules.specs.Verdicts.{Outcome, Stepped, StepRefused}
use Rattle.rules.specs.declared.state.Interval.{Interval}
use Rattle.rules.specs.Personality.{group_count}
use Rattle.rules.specs.IntervalTable.{letter_of}
use Rattle.rules.specs.Runs.{by_rules, Call, step_call, retime_call, Taken, step_taken, retime_taken, taken_from}

-- ── The calls ──

-- n step calls from a step on. The input bits of each step are given by its number, and so are the personalities of the retiming calls before it.
unfoldable pub calls_from : List ℕ → (ℕ → ℕ) → (ℕ → List (List ℕ)) → ℕ → ℕ → List Call
calls_from b inputs handed step zero = []
calls_from b inputs handed step (suc n) =
    map retime_call (handed step)
    ++ step_call (record { inputs = inputs step; buffer = replicate (group_count b) 0 })
    ∷ calls_from b inputs handed (step + 1) n

-- ── The lines ──

-- one line of a trace: the step, counted from 1, its phase and interval, and the colours
pub data Line : Type 0 where
  line : ℕ → ℕ → Interval → List ℕ → Line

-- a line, and the wait that the step reports
pub data Told : Type 0 where
  ◌reports◌ : Line → ℕ → Told

infix 3 ◌reports◌
-- a refused step call ends the trace
unfoldable pub unless_refused : Outcome → (ℕ → List Told) → List Told
unless_refused (Ok wait) lines = lines wait
unless_refused (Err r) lines = []

unfoldable pub lines_from : ℕ → List Taken → List Told
lines_from n [] = []
lines_from n (step_taken step ∷ later) =
    let now = step.after.position in
    unless_refused step.outcome (λ wait. (line n now.phase now.interval step.shown reports wait) ∷ lines_from (n + 1) later)
lines_from n (retime_taken new verdict ∷ later) = lines_from n later

-- ── The changes ──

unfoldable pub same_colours : List ℕ → List ℕ → Bool
same_colours [] [] = true
same_colours [] (y ∷ ys) = false
same_colours (x ∷ xs) [] = false
same_colours (x ∷ xs) (y ∷ ys) = eqb x y && same_colours xs ys

-- the two lines differ in their step alone
unfoldable pub same_line : Line → Line → Bool
same_line (line step phase interval colours) (line step' phase' interval' colours') =
    eqb phase phase' && eqb (letter_of interval) (letter_of interval') && same_colours colours colours'

unfoldable pub same_told : Told → Told → Bool
same_told (first reports wait) (second reports wait') = same_line first second && eqb wait wait'

-- the lines that differ from the one before
unfoldable pub changes_after : {A : Type 0} → (A → A → Bool) → A → List A → List A
changes_after same last [] = []
changes_after same last (next ∷ lines) =
    let more = changes_after same next lines in
    if same last next then more else next ∷ more

unfoldable pub changes_in : {A : Type 0} → (A → A → Bool) → List A → List A
changes_in same [] = []
changes_in same (first ∷ lines) = first ∷ changes_after same first lines

-- Of n step calls from the fresh state: the first line, and each line that differs from the one before.
unfoldable pub changes : List ℕ → (ℕ → ℕ) → (ℕ → List (List ℕ)) → ℕ → List Told
changes b inputs handed n = changes_in same_told (lines_from 1 (taken_from by_rules b (by_rules.fresh b) (calls_from b inputs handed 1 n)))

-- the same of step calls alone, without the waits
abbrev pub unsaid : Told → Line
unsaid (l reports wait) = l

unfoldable pub plain_changes : List ℕ → (ℕ → ℕ) → ℕ → List Line
plain_changes b inputs n =
    changes_in same_line (map unsaid (lines_from 1 (taken_from by_rules b (by_rules.fresh b) (calls_from b inputs (λ step. []) 1 n))))
