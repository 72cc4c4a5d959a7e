-- Internal: no promise cites this file. What the check of a state tests of its times.
use Rattle.std.specs.Prelude.{ℕ, Bool, ◌&&◌, List}
use Rattle.rules.specs.Site.{site_of}
use Rattle.rules.specs.SiteTimes.{admitted}
use Rattle.rules.specs.Timed.{TimedState, waiting_valid}

-- the part of the valid state that is about its times
abbrev pub times_valid : List ℕ → TimedState → Bool
times_valid b s = admitted (site_of b) s.ruling && waiting_valid (site_of b) s.waiting
