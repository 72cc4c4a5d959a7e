-- Internal: no promise cites this file. The step from a valid state: what it takes and what it gives. The site has the times that rule in the
-- state. With some times it is the site of a personality; neither the valid state nor the step looks at those.
use Rattle.std.specs.Prelude.{ℕ, Bool, true, List, ◌++◌, ◌≡◌, drop, if◌then◌else◌}
use Rattle.rules.specs.declared.site.Site.{Site}
use Rattle.rules.specs.declared.state.KeptState.{KeptState}
use Rattle.rules.specs.Timed.{TimedState, kept_of, ruled_site, none_waiting, timed_valid, takes_over, timed_stepped}
use Rattle.rules.specs.Colours.{colours_of}
use Rattle.rules.specs.WaitBound.{wait_bound}
use Rattle.rules.specs.Laws.{Sound}
use Rattle.state_timed.specs.TimedLayout.{is_timed, timed_decoded, timed_encoded}

-- a site and a state that the check of the bytes gave
pub record Stepping (site : Site) (before : KeptState) (old : List ℕ) : Type 0 where
  pub own : Site
  pub sound : Sound own
  pub known : is_timed old ≡ true
  pub valid : timed_valid own (timed_decoded old) ≡ true
  pub ruled : site ≡ ruled_site own (timed_decoded old)
  pub kept : before ≡ kept_of (timed_decoded old)

abbrev pub takes_over_in : Site → List ℕ → Bool
takes_over_in site old = takes_over site (timed_decoded old)

-- The state with this rest. If times that waited take over, they are those of the site, and none wait; else the times are as they were.
abbrev pub after : Site → KeptState → Bool → TimedState → TimedState
after site next over s =
    record {
      core = next.core;
      kept = next.kept;
      ruling = if over then site.times else s.ruling;
      waiting = if over then none_waiting else s.waiting;
    }

-- the wait bound, the state's bytes and the colours
pub record Steps (site : Site) (old : List ℕ) (inputs : ℕ) (buffer : List ℕ) (wait : ℕ) (new out : List ℕ) : Type 0 where
  pub waits : wait ≡ wait_bound (ruled_site site (timed_stepped site (timed_decoded old) inputs))
  pub stored : new ≡ timed_encoded (timed_stepped site (timed_decoded old) inputs)
  pub shown :
      let next = timed_stepped site (timed_decoded old) inputs in
      out ≡ colours_of (ruled_site site next) next.core ++ drop site.size.groups buffer
