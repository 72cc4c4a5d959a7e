-- Part a with changes of times: each step is a plain link under the times that rule after it, and whether groups conflict and share a phase does not
-- depend on times.
use Prim.Native.Nat.{ℕ}
use mathlib.Core.Bool.{true}
use mathlib.Core.List.{List, [], ◌∷◌}
use mathlib.Core.Path.{◌≡◌}
use Rattle.rules.specs.declared.site.Site.{Site}
use Rattle.rules.specs.declared.site.Times.{Times}
use Rattle.rules.specs.declared.state.State.{State}
use Rattle.rules.specs.Site.{conflict}
use Rattle.rules.specs.SiteTimes.{under}
use Rattle.rules.specs.Colours.{green}
use Rattle.rules.specs.Runs.{Step}
use Rattle.rules.specs.DemandThree.{shows, NoConflictingGreens}
use Rattle.proof_runs.proofs.Each.{Each, each_at}
use Rattle.proof_clearance.proofs.Greens.{never-both-green}
use Rattle.proof_timed.proofs.Induction.{viewed, plain_from, TimedRun}

-- no two conflicting groups show green after the step
abbrev Apart : Site → Step → Type 0
Apart site step = (g j : ℕ) → conflict site g j ≡ true → shows step g ≡ green → shows step j ≡ green → ⊥

all_apart : (site : Site) (s : State) (ruling : Times) (steps : List Step) → TimedRun site s ruling steps → Each (λ step later. Apart site step) steps
unfolding conflict shows
all_apart site s ruling [] run = tt
all_apart site s ruling (step ∷ later) run =
    let from = plain_from step.changed s in (
      never-both-green (under site step.ruling) from (viewed from step) run.0.plain,
      all_apart site step.after step.ruling later run.1,
    )

pub timed-greens :
    (site : Site) (s : State) (ruling : Times) (steps : List Step) → TimedRun site s ruling steps → NoConflictingGreens site steps
unfolding NoConflictingGreens
timed-greens site s ruling steps run earlier later step split =
    each_at (λ step later. Apart site step) steps earlier later step split (all_apart site s ruling steps run)
