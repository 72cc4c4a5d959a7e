-- The times of a site as a value that may be replaced: the site with other times, and the times that a site may have.
use Rattle.std.specs.Prelude.{ℕ, suc, Bool, true, ◌&&◌, ◌||◌, List, [], ◌∷◌, eqb, ltb, replicate, if◌then◌else◌}
use Rattle.rules.specs.Types.{PhaseTimes, Range, Site, Times, WalkTimes}
use Rattle.laws.specs.Folds.{all_of}
use Rattle.rules.specs.Limits.{limits, within, start_red_setting, phase_settings, walk_settings, early_setting}
use Rattle.rules.specs.Site.{no_phase_times, no_walk_times, phase_times, walk_times}

-- the site with other times
abbrev pub under : Site → Times → Site
under site times =
    record {
      size = site.size;
      groups = site.groups;
      conflicts = site.conflicts;
      detectors = site.detectors;
      crossings = site.crossings;
      edition = site.edition;
      early = site.early;
      order = site.order;
      times = times;
    }

-- every setting is 0
unfoldable pub no_times : Times
no_times = record { start = 0; phases = replicate 7 no_phase_times; walks = replicate 8 no_walk_times }

-- ── The times that a site may have ──

-- the limits of record i, if the site has n of them; for a record that it does not have the table is empty, which allows only 0
abbrev pub record_limits : List Range → ℕ → ℕ → List Range
record_limits table n i = if ltb i n then table else []

-- the values are in the table's limits of the settings from this one on
unfoldable pub each_within : List Range → ℕ → List ℕ → Bool
each_within table setting [] = true
each_within table setting (value ∷ values) = within table setting value && each_within table (suc setting) values

-- without a section of kind 7 the time of early cut-off green is 0
unfoldable pub phase_within : List Range → Bool → PhaseTimes → Bool
phase_within table early times =
    each_within table phase_settings
    (times.late ∷ times.minimum ∷ times.maximum ∷ times.gap ∷ times.yellow ∷ times.red ∷ [])
    && within table early_setting times.early
    && (early || eqb times.early 0)

unfoldable pub walk_within : List Range → WalkTimes → Bool
walk_within table times = each_within table walk_settings (times.walk ∷ times.first ∷ times.second ∷ [])

-- each setting that the site has is in the table, and each that it does not have is 0
unfoldable pub times_within : List Range → Site → Times → Bool
times_within table site times =
    within table start_red_setting times.start
    && all_of (λ p. phase_within (record_limits table site.size.phases p) site.early (phase_times times p)) 7
    && all_of (λ k. walk_within (record_limits table site.size.movements k) (walk_times times k)) 8

unfoldable pub admitted : Site → Times → Bool
admitted site times = times_within (limits site.edition) site times

-- every setting is 0
unfoldable pub blank : Site → Times → Bool
blank site times = times_within [] site times
