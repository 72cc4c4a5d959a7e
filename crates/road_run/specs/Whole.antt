-- Internal: no promise cites this file. A road from its start to its end, in cells, and then in results.
use Rattle.std.specs.Prelude.{ℕ, ◌≤◌, false, List, ◌≡◌, length}
use Rattle.rules.specs.Verdicts.{Accepted}
use Rattle.rules.specs.declared.site.Site.{Site}
use Rattle.rules.specs.declared.state.KeptState.{KeptState}
use Rattle.rules.specs.Personality.{verdict_of}
use Rattle.rules.specs.Site.{site_of}
use Rattle.rules.specs.Kept.{fresh_kept}
use Rattle.road_streams.specs.declared.Traffic.{Traffic}
use Rattle.road_streams.specs.Road.{bad_streams, results_of, results_for, road_after}
use Rattle.road_step.specs.OnRoad.{OnRoad}

-- ── In cells ──

-- some road, before its first step
pub record AtStart (site : Site) (streams : List ℕ) (steps : ℕ) (cells : List Traffic) : Type 0 where
  pub b : List ℕ
  pub road : OnRoad b streams steps site 0 fresh_kept cells

-- ── In results ──

-- a road of these streams may start at the site of the personality
pub record OfPersonality (b : List ℕ) (site : Site) (streams : List ℕ) (steps : ℕ) : Type 0 where
  pub read : verdict_of b ≡ Accepted
  pub place : site ≡ site_of b
  pub known : bad_streams (site_of b) streams steps ≡ false

pub record Startable (site : Site) (streams : List ℕ) (steps room : ℕ) : Type 0 where
  pub b : List ℕ
  pub start : OfPersonality b site streams steps
  pub enough : length streams ≤ room

pub record RanTo (site : Site) (streams : List ℕ) (steps : ℕ) (results : List ℕ) (last : KeptState) (after : List ℕ) : Type 0 where
  pub state : (b : List ℕ) → OfPersonality b site streams steps → last ≡ (road_after b streams steps).state
  pub written : (b : List ℕ) → OfPersonality b site streams steps →
      after ≡ results_for Accepted (results_of streams (road_after b streams steps).traffic) results
