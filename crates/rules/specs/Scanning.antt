-- The rules without the kept set: each step finds the demanded phases by a scan. And the statements that the kept set equals this scan and
-- changes nothing else.
use Rattle.std.specs.Prelude.{ℕ, ◌<◌, Bool, true, ◌&&◌, List, ◌≡◌, if◌then◌else◌, Option}
use Rattle.rules.specs.Types.{Accepted, Site, KeptState, State}
use Rattle.rules.specs.Personality.{verdict_of}
use Rattle.rules.specs.Site.{site_of}
use Rattle.rules.specs.State.{valid}
use Rattle.rules.specs.SiteTimes.{admitted}
use Rattle.rules.specs.Demands.{stands, next_demanded}
use Rattle.rules.specs.Step.{stepped_into}
use Rattle.rules.specs.Kept.{is_kept, kept_valid}
use Rattle.rules.specs.Timed.{TimedState, kept_of, ruled_site, none_waiting, waiting_valid, timed_valid, takes_over, without_counts, ruling_next}
use Rattle.rules.specs.WaitBound.{wait_bound}
use Rattle.rules.specs.TimedCall.{retimed}
use Rattle.rules.specs.Runs.{Controller, controller_of, by_rules, Call, taken_from}

-- the valid state, whatever the kept set is
unfoldable pub scan_valid : Site → TimedState → Bool
scan_valid site s = admitted site s.ruling && waiting_valid site s.waiting && valid (ruled_site site s) s.core

-- The step does not read the kept set, and leaves it empty. `find` gives the phase that is demanded next.
unfoldable pub stepped_finding : (Site → State → ℕ → Option ℕ) → Site → TimedState → ℕ → TimedState
stepped_finding find site s inputs =
    let over = takes_over site s in
    let old = ruled_site site s in
    record {
      core =
          stepped_into (ruling_next site s) (find old s.core inputs) old
          (if over then without_counts (kept_of s) else kept_of s).core
          inputs;
      kept = 0;
      ruling = ruling_next site s;
      waiting = if over then none_waiting else s.waiting;
    }

-- the controller that finds the next phase so
abbrev pub finding : (Site → State → ℕ → Option ℕ) → Controller TimedState
finding find = controller_of verdict_of scan_valid (stepped_finding find) wait_bound retimed

unfoldable pub scanning : Controller TimedState
scanning = finding next_demanded

-- ── The kept set is the scan ──

-- in every valid state; every call keeps states valid (`TimedLaws`), so it keeps this
unfoldable pub KeptIsScan : Type 0
KeptIsScan =
    (site : Site) (s : KeptState) →
    kept_valid site s ≡ true →
    (p : ℕ) →
    p < 8 →
    is_kept s p ≡ stands site.crossings site.size.movements s.core.demands p

-- ── Forgetting the kept set gives the scanning rules ──

-- both rules take every list of calls from a valid state alike: the same outcomes, waits, buffers, times and rest of the state
unfoldable pub RunForgets : Type 0
RunForgets =
    (b : List ℕ) →
    verdict_of b ≡ Accepted →
    (s : TimedState) →
    timed_valid (site_of b) s ≡ true →
    (calls : List Call) →
    taken_from by_rules b s calls ≡ taken_from scanning b s calls
