-- Internal: no promise cites this file. A state whose phase holds, and what the code gives of it. The site has the times that rule in the state.
use Rattle.std.specs.Prelude.{ℕ, ◌<◌, true, ◌≡◌}
use Rattle.rules.specs.declared.site.Site.{Site}
use Rattle.rules.specs.declared.state.KeptState.{KeptState}
use Rattle.rules.specs.IntervalTable.{is_running}
use Rattle.rules.specs.Kept.{kept_valid}
use Rattle.rules.specs.Timed.{TimedState, kept_of, ruled_site}
use Rattle.rules.specs.Laws.{Sound}
use Rattle.panel_line.specs.declared.Why.{Why}
use Rattle.panel_line.specs.Reasons.{line_of}
use Rattle.panel_reasons.specs.PanelLine.{panel_line}

pub record Holding (site : Site) (state : KeptState) : Type 0 where
  pub sound : Sound site
  pub valid : kept_valid site state ≡ true
  pub running : is_running state.core.position.interval ≡ true

-- the line of each timed state with this rest, whose ruling times the site has
pub record Tells (site : Site) (state : KeptState) (inputs : ℕ) (why : Why) : Type 0 where
  pub line : (own : Site) (s : TimedState) → site ≡ ruled_site own s → state ≡ kept_of s → line_of why ≡ panel_line own s inputs
  pub phase : why.phase < 7
