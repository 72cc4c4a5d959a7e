-- Once each while you wait: from the step that registers a demand until it is met, the starts fall along the ring. So none is of the same phase as
-- another, and those of other phases are fewer than the phases.
use Prim.Native.Nat.{ℕ, ◌≤◌, ◌<◌}
use mathlib.Core.List.{List}
use mathlib.Core.Path.{◌≡◌}
use Rattle.rules.specs.declared.site.Site.{Site}
use Rattle.rules.specs.Site.{site_of}
use Rattle.rules.specs.Timed.{fresh_timed}
use Rattle.rules.specs.Laws.{Sound, AcceptedIsSound}
use Rattle.rules.specs.Runs.{Step, by_rules, taken_from, accepted_steps, OfEveryRun}
use Rattle.rules.specs.OnceEach.{phase_starts, other_starts, how_many, WhileWaiting, OnceEach, OthersOnce, FewOthers, OnceEachOf, RunsStartOnceEach, RunsStartOthersOnce, RunsStartFewOthers}
use Rattle.proof_acceptance.proofs.Acceptance.{accepted-is-sound}
use Rattle.proof_timed.proofs.Runs.{timed-run}
use Rattle.proof_once.proofs.Runs.{FallingTo, falls-once, falls-few, starts-fall}

-- what follows from falling starts holds while a demand waits
while-waiting :
    (Claim : Site → ℕ → List Step → Type 0) →
    ((site : Site) → Sound site → (p : ℕ) (steps : List Step) → FallingTo site p steps → Claim site p steps) →
    OfEveryRun by_rules (λ b calls. WhileWaiting (Claim (site_of b)) (site_of b) (accepted_steps calls))
unfolding by_rules AcceptedIsSound
while-waiting Claim follows b known calls earlier later step split =
    let s = fresh_timed (site_of b) in
    let sound = accepted-is-sound b known in
    let run = timed-run b sound calls s in
    let falls = starts-fall (site_of b) sound s.core s.ruling (accepted_steps (taken_from by_rules b s calls)) run earlier later step split in
    (λ p r. follows (site_of b) sound p _ (falls.0 p r), λ k p l crossing r. follows (site_of b) sound p _ (falls.1 k p l crossing r))

pub runs-start-once-each : RunsStartOnceEach
unfolding RunsStartOnceEach OnceEachOf OnceEach
runs-start-once-each = while-waiting (λ site p steps. (r : ℕ) → how_many (phase_starts r) steps ≤ 1) (λ site sound. falls-once site)

pub runs-start-others-once : RunsStartOthersOnce
unfolding RunsStartOthersOnce OthersOnce
runs-start-others-once =
    while-waiting (λ site p steps. (r : ℕ) → (r ≡ p → ⊥) → how_many (phase_starts r) steps ≤ 1)
    (λ site sound p steps falling r other. falls-once site p steps falling r)

pub runs-start-few-others : RunsStartFewOthers
unfolding RunsStartFewOthers FewOthers
runs-start-few-others = while-waiting (λ site p steps. how_many (other_starts p) steps < site.size.phases) falls-few
