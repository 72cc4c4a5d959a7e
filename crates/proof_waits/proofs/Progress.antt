-- One step from a valid state in which a demand of phase q stands: phase q starts, or one step less is left of the wait. By interval,
-- and by whether the interval ends in the step.
use Rattle.std.specs.Prelude.{Option}
use Prim.Native.Nat.{ℕ, ◌≤◌}
use mathlib.Core.Bool.{true}
use mathlib.Core.Path.{◌≡◌}
use Rattle.rules.specs.declared.site.Site.{Site}
use Rattle.rules.specs.declared.state.State.{State}
use Rattle.rules.specs.Interval.{starting}
use Rattle.rules.specs.Step.{stepped}
use Rattle.proof_runs.proofs.Steps.{started}

-- phase q starts, and as many steps are left as are ahead of its start
pub record Starts (site : Site) (ahead : ℕ → ℕ) (q : ℕ) (s : State) (inputs n : ℕ) : Type 0 where
  pub previous : Option ℕ
  pub starts : started site s inputs ≡ true
  pub position : (stepped site s inputs).position ≡ starting site.times q previous
  pub near : ahead q ≤ n
