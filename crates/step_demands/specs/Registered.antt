-- Internal: no promise cites this file. What part 1 hands on.
use Rattle.std.specs.Prelude.{ℕ, ◌≡◌}
use Rattle.rules.specs.declared.site.Site.{Site}
use Rattle.rules.specs.declared.state.KeptState.{KeptState}
use Rattle.laws.specs.Folds.{set_of}
use Rattle.rules.specs.Demands.{extending, detected, demands_after}
use Rattle.rules.specs.Kept.{kept_after, next_kept}
use Rattle.step_demands.specs.declared.Registered.{Registered}

-- the set kept has the phases that are kept after part 1
pub record RegisteredBy (site : Site) (s : KeptState) (inputs : ℕ) (asked : Registered) : Type 0 where
  pub demands : asked.demands ≡ demands_after site s.core inputs
  pub kept : asked.kept ≡ set_of (kept_after site s inputs)
  pub next : asked.next ≡ next_kept site s inputs
  pub extended : asked.extended ≡ detected extending site inputs s.core.position.phase
