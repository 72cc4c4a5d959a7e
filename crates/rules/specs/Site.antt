-- The site that an accepted personality describes.
use Rattle.std.specs.Prelude.{ℕ, ◌+◌, Bool, List, eqb, get_or, if◌then◌else◌}
use Rattle.rules.specs.Types.{Detector, Group, PhaseTimes, Site, Times, WalkTimes}
use Rattle.laws.specs.Folds.{list_of, row_of, count_of, indices_of}
use Rattle.laws.specs.Bytes.{two_at, bit}
use Rattle.rules.specs.Personality.{phase_count, group_count, detector_count, movement_count, group_set, group_mark, conflict_set, detector_phase, detector_mode, pedestrian, phases_head, pedestrians_head, early_head, has_early, has_order, order_at, record_at, edition_of}

abbrev pub no_phase_times : PhaseTimes
no_phase_times = record { late = 0; minimum = 0; maximum = 0; gap = 0; yellow = 0; red = 0; early = 0 }

abbrev pub no_walk_times : WalkTimes
no_walk_times = record { walk = 0; first = 0; second = 0 }

abbrev pub no_group : Group
no_group = record { phases = 0; mark = 0 }

abbrev pub no_detector : Detector
no_detector = record { phase = 0; mode = 0 }

-- the kind 7 time of phase p, 0 without such a section
unfoldable pub early_time_at : List ℕ → ℕ → ℕ
early_time_at b p = if has_early b then two_at b (record_at (early_head b) 2 p) else 0

unfoldable pub phase_times_at : List ℕ → ℕ → PhaseTimes
phase_times_at b p =
    let at = record_at phases_head 12 p in
    record {
      late = two_at b at;
      minimum = two_at b (at + 2);
      maximum = two_at b (at + 4);
      gap = two_at b (at + 6);
      yellow = two_at b (at + 8);
      red = two_at b (at + 10);
      early = early_time_at b p;
    }

unfoldable pub walk_times_at : List ℕ → ℕ → WalkTimes
walk_times_at b k =
    let at = record_at (pedestrians_head b) 6 k in
    record { walk = two_at b at; first = two_at b (at + 2); second = two_at b (at + 4) }

unfoldable pub times_in : List ℕ → Times
times_in b =
    record {
      start = two_at b 6;
      phases = row_of (phase_times_at b) (phase_count b) 7 no_phase_times;
      walks = row_of (walk_times_at b) (movement_count b) 8 no_walk_times;
    }

-- the set of the k-th pedestrian group, counted from 0
unfoldable pub crossing_at : List ℕ → ℕ → ℕ
crossing_at b k = group_set b (get_or (indices_of (pedestrian b) (group_count b)) k 0)

-- the i-th phase in running order; without a section of kind 9 it is phase i
unfoldable pub order_in : List ℕ → ℕ → ℕ
order_in b i = if has_order b then order_at b i else i

unfoldable pub site_of : List ℕ → Site
site_of b =
    record {
      size = record { phases = phase_count b; groups = group_count b; detectors = detector_count b; movements = movement_count b };
      groups = row_of (λ g. record { phases = group_set b g; mark = group_mark b g }) (group_count b) 32 no_group;
      conflicts = row_of (conflict_set b) (group_count b) 32 0;
      detectors = row_of (λ d. record { phase = detector_phase b d; mode = detector_mode b d }) (detector_count b) 48 no_detector;
      crossings = row_of (crossing_at b) (movement_count b) 8 0;
      edition = edition_of b;
      early = has_early b;
      order = row_of (order_in b) (phase_count b) 7 0;
      times = times_in b;
    }

-- ── What the other rules need of a site ──

unfoldable pub group_of : List Group → ℕ → Group
group_of groups g = get_or groups g no_group

unfoldable pub detector_of : List Detector → ℕ → Detector
detector_of detectors d = get_or detectors d no_detector

unfoldable pub phase_times : Times → ℕ → PhaseTimes
phase_times times p = get_or times.phases p no_phase_times

unfoldable pub walk_times : Times → ℕ → WalkTimes
walk_times times k = get_or times.walks k no_walk_times

-- group g has phase p in its set
unfoldable pub in_phase : List Group → ℕ → ℕ → Bool
in_phase groups g p = bit p (group_of groups g).phases

-- movement k is one of phase p
unfoldable pub crosses : List ℕ → ℕ → ℕ → Bool
crosses crossings k p = bit p (get_or crossings k 0)

unfoldable pub is_pedestrian : List Group → ℕ → Bool
is_pedestrian groups g = eqb (group_of groups g).mark 2

-- the movement of a pedestrian group: as many as there are pedestrian groups before it
unfoldable pub movement_of : List Group → ℕ → ℕ
movement_of groups g = count_of (is_pedestrian groups) g

-- section 4 says that the two groups conflict
unfoldable pub conflict : Site → ℕ → ℕ → Bool
conflict site g j = bit j (get_or site.conflicts g 0)

-- the phases in running order, count of them
unfoldable pub ring : List ℕ → ℕ → List ℕ
ring order count = list_of (λ i. get_or order i 0) count
