-- Internal: no promise cites this file. Rows of time records in bytes. A personality and a state have records of the same form, at different places; a site has as many of them as
-- it has phases and movements.
use Rattle.std.specs.Prelude.{ℕ, ◌+◌, ◌*◌, Bool, List, if◌then◌else◌}
use Rattle.rules.specs.declared.site.PhaseTimes.{PhaseTimes}
use Rattle.rules.specs.declared.site.Times.{Times}
use Rattle.rules.specs.declared.site.WalkTimes.{WalkTimes}
use Rattle.laws.specs.Bytes.{two_at}
use Rattle.laws.specs.Folds.{row_of}
use Rattle.rules.specs.Site.{no_phase_times, no_walk_times}
use Rattle.state_times.specs.TimesLayout.{six, phase_of, walk}

-- where the phases, the movements and the kind 7 times stand in the bytes of times
abbrev pub phases_at : ℕ
phases_at = 2

abbrev pub walks_at : ℕ
walks_at = 86

abbrev pub earlies_at : ℕ
earlies_at = 134

-- the kind 7 time of phase p, 0 if there are none
abbrev pub early_in : List ℕ → ℕ → Bool → ℕ → ℕ
early_in b early present p = if present then two_at b (early + p * 2) else 0

-- the times of phase p: its record, and its kind 7 time
abbrev pub phase_in : List ℕ → ℕ → ℕ → Bool → ℕ → PhaseTimes
phase_in b at early present p = phase_of (six.read b (at + p * 12)) (early_in b early present p)

abbrev pub walk_in : List ℕ → ℕ → ℕ → WalkTimes
walk_in b at k = walk.read b (at + k * 6)

-- The times of a site with such counts, in the bytes of times from a place on. The bytes of phases and movements that it does not have, and of
-- kind 7 times if it has none, are not read.
abbrev pub site_times : ℕ → ℕ → Bool → List ℕ → ℕ → Times
site_times phases movements early b at =
    record {
      start = two_at b at;
      phases = row_of (phase_in b (at + phases_at) (at + earlies_at) early) phases 7 no_phase_times;
      walks = row_of (walk_in b (at + walks_at)) movements 8 no_walk_times;
    }
