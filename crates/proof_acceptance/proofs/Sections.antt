-- What acceptance tells of the bytes, section by section. A check that passed gives its condition, and the checks of an accepted
-- personality all passed; a section's head and body lie within the bytes, and so does each of its records.
use Prim.Native.Nat.{ℕ, ◌+◌, ◌*◌, ◌%◌, ◌^◌, ◌≤◌, ◌<◌}
use mathlib.Core.Bool.{Bool, true, false, not, ◌&&◌, ◌||◌}
use mathlib.Core.List.{List}
use mathlib.Core.Path.{◌≡◌}
use lib.Dec.{leb, ltb, eqb}
use lib.ListN.{length}
use native.Mathlib.Nat.{add-zero, mul-le-mul_right, suc-mul}
use native.Mathlib.Omega.{arith}
use borrow.Author.Tests.{ltb-false, leb-true, leb-false, eqb-true, eqb-false, eq-eqb, not-false}
use Rattle.rules.specs.Verdicts.{Accepted, first_of}
use Rattle.laws.specs.Folds.{any_of, count_of}
use Rattle.laws.specs.Bytes.{two_at, bit}
use Rattle.rules.specs.Limits.{limits, within, start_red_setting, phase_settings, walk_settings, early_setting}
use Rattle.rules.specs.Personality.{kind_at, site_kind, edition_of, body_length, body_at, past_section, record_at, phase_count, group_count, site_head, phases_head, groups_head, conflicts_head, detectors_head, pedestrians_head, group_set, group_mark, pedestrian, movement_count, conflict_set, detector_count, detector_phase, section_at, time_at, times_at, site_section, time_records, timed_section, phases_section, bad_group, ninth_pedestrian, group_record, phase_without_group, groups_section, bad_conflict, share_phase, conflict_in_phase, conflicts_section, bad_detector, bad_detector_at, detector_record, detectors_section, pedestrians_section, early_head, has_early, early_section, order_head, has_order, order_at, phase_not_once, order_section, calls_phase, walks_phase, phase_without_caller, stops_early, early_missing, left_over, after_pedestrians, end_of, verdict_of, detector_mode, known_mode}
use Rattle.rules.specs.Laws.{InTable}
use Rattle.laws.proofs.Booleans.{and_right, or-false-left, or-false-right, never_both, both-passed, or-false-three, and-false-rest}
use Rattle.laws.proofs.Folds.{any_false, any_found}
use Rattle.laws.proofs.Counting.{count-within}
use Rattle.rules.proofs.Verdicts.{or-first, or_later, refuse-passed, first-each}

-- ── Sections and records, for any width ──

-- a section whose checks passed has the right length, and its body within the bytes
pub body-held :
    (b : List ℕ) (head kind : ℕ) (length_right : Bool) →
    section_at b head kind length_right ≡ Accepted →
    (length_right ≡ true) × (body_at head + body_length b head ≤ length b)
unfolding section_at
body-held b head kind right h =
    let from_length = or_later _ _ (or_later _ _ h) in (
      not-false right (refuse-passed _ _ _ (or-first _ _ from_length)),
      ltb-false (length b) (body_at head + body_length b head) (refuse-passed _ _ _ (or_later _ _ from_length)),
    )

-- it has the right kind
kind-held : (b : List ℕ) (head kind : ℕ) (length_right : Bool) → section_at b head kind length_right ≡ Accepted → kind_at b head ≡ kind
unfolding section_at
kind-held b head kind right h = eqb-true _ _ (not-false _ (refuse-passed _ _ _ (or-first _ _ (or_later _ _ h))))

-- and one of n records has them in its body
pub records-held :
    (b : List ℕ) (head kind n width : ℕ) →
    section_at b head kind (eqb (body_length b head) (n * width)) ≡ Accepted →
    body_at head + n * width ≤ length b
records-held b head kind n width h =
    let held = body-held b head kind (eqb (body_length b head) (n * width)) h in
    omega (arith, eqb-true (body_length b head) (n * width) held.0)

-- record i of n ends within the body
pub record-within : (head width n i : ℕ) → i < n → record_at head width i + width ≤ body_at head + n * width
unfolding record_at
record-within head width n i l = omega (arith, mul-le-mul_right width l, suc-mul i width)

-- ── Times ──

time-passed : (b : List ℕ) (place setting : ℕ) → time_at b place setting ≡ Accepted → InTable (limits (edition_of b)) setting (two_at b place)
unfolding time_at within
time-passed b place setting h =
    let passed = both-passed _ _ (refuse-passed _ _ _ h) in
    (leb-true _ _ passed.0, leb-true _ _ passed.1)

-- each field of each record of times
times-passed :
    (b : List ℕ) (head width setting fields n : ℕ) →
    first_of (λ i. times_at b (record_at head width i) setting fields) n ≡ Accepted →
    (i : ℕ) →
    i < n →
    (f : ℕ) →
    f < fields →
    InTable (limits (edition_of b)) (setting + f) (two_at b (record_at head width i + f * 2))
unfolding times_at
times-passed b head width setting fields n h i l f m =
    time-passed b (record_at head width i + f * 2) (setting + f)
    (first-each (λ f. time_at b (record_at head width i + f * 2) (setting + f)) fields f
    (first-each (λ i. times_at b (record_at head width i) setting fields) n i h l)
    m)

-- ── What each section tells, with the next head within the bytes ──

pub record SiteAccepted (b : List ℕ) : Type 0 where
  pub kind : kind_at b site_head ≡ site_kind (edition_of b)
  pub next : phases_head ≤ length b
  pub phases : (2 ≤ phase_count b) × (phase_count b ≤ 7)
  pub groups : (1 ≤ group_count b) × (group_count b ≤ 32)
  pub start : InTable (limits (edition_of b)) start_red_setting (two_at b 6)

pub record PhasesAccepted (b : List ℕ) : Type 0 where
  pub next : groups_head b ≤ length b
  pub time : (p : ℕ) → p < phase_count b → (f : ℕ) → f < 6 → InTable (limits (edition_of b)) (phase_settings + f) (two_at b (record_at phases_head 12 p + f * 2))

pub record GroupsAccepted (b : List ℕ) : Type 0 where
  pub next : conflicts_head b ≤ length b
  pub set : (g : ℕ) → g < group_count b → group_set b g < 2 ^ phase_count b
  pub mark : (g : ℕ) → g < group_count b → group_mark b g ≤ 3
  pub one_phase : (g : ℕ) → g < group_count b → pedestrian b g ≡ true → count_of (λ p. bit p (group_set b g)) (phase_count b) ≡ 1
  pub movements : movement_count b ≤ 8
  pub served : (p : ℕ) → p < phase_count b → (g : ℕ) × (g < group_count b) × (bit p (group_set b g) ≡ true)

pub record ConflictsAccepted (b : List ℕ) : Type 0 where
  pub next : detectors_head b ≤ length b
  pub other : (g : ℕ) → g < group_count b → bit g (conflict_set b g) ≡ false
  pub set : (g : ℕ) → g < group_count b → conflict_set b g < 2 ^ group_count b
  pub back : (g j : ℕ) → g < group_count b → j < group_count b → bit j (conflict_set b g) ≡ true → bit g (conflict_set b j) ≡ true
  pub apart :
      (g j p : ℕ) →
      g < group_count b →
      j < group_count b →
      p < phase_count b →
      bit j (conflict_set b g) ≡ true →
      bit p (group_set b g) ≡ true →
      bit p (group_set b j) ≡ false

pub record DetectorsAccepted (b : List ℕ) : Type 0 where
  pub next : pedestrians_head b ≤ length b
  pub short : body_length b (detectors_head b) ≤ 96
  pub count : detector_count b ≤ 48
  pub phase : (d : ℕ) → d < detector_count b → detector_phase b d < phase_count b
  pub mode : (d : ℕ) → d < detector_count b → known_mode (detector_mode b d) ≡ true

pub record PedestriansAccepted (b : List ℕ) : Type 0 where
  pub next : early_head b ≤ length b
  pub body : body_length b (pedestrians_head b) ≡ movement_count b * 6
  pub time :
      (k : ℕ) →
      k < movement_count b →
      (f : ℕ) →
      f < 3 →
      InTable (limits (edition_of b)) (walk_settings + f) (two_at b (record_at (pedestrians_head b) 6 k + f * 2))

-- where kind 7 is there
pub record EarlyAccepted (b : List ℕ) : Type 0 where
  pub body : body_length b (early_head b) ≡ phase_count b * 2
  pub next : body_at (early_head b) + phase_count b * 2 ≤ length b
  pub time : (p : ℕ) → p < phase_count b → InTable (limits (edition_of b)) early_setting (two_at b (record_at (early_head b) 2 p))

-- where kind 9 is there
pub record OrderAccepted (b : List ℕ) : Type 0 where
  pub body : body_length b (order_head b) ≡ phase_count b
  pub next : body_at (order_head b) + phase_count b ≤ length b
  pub once : (p : ℕ) → p < phase_count b → count_of (λ i. eqb (order_at b i) p) (phase_count b) ≡ 1

pub site-accepted : (b : List ℕ) → site_section b ≡ Accepted → SiteAccepted b
unfolding site_section body_at
site-accepted b h =
    let counts = or_later _ _ h in
    let phases = both-passed _ _ (refuse-passed _ _ _ (or-first _ _ counts)) in
    let groups = both-passed _ _ (refuse-passed _ _ _ (or-first _ _ (or_later _ _ counts))) in
    record {
      kind = kind-held b site_head (site_kind (edition_of b)) _ (or-first _ _ h);
      next = records-held b site_head (site_kind (edition_of b)) 1 4 (or-first _ _ h);
      phases = (leb-true _ _ phases.0, leb-true _ _ phases.1);
      groups = (leb-true _ _ groups.0, leb-true _ _ groups.1);
      start = time-passed b 6 start_red_setting (or_later _ _ (or_later _ _ counts));
    }

pub phases-accepted : (b : List ℕ) → phases_section b ≡ Accepted → PhasesAccepted b
unfolding phases_section timed_section time_records groups_head
phases-accepted b h =
    record {
      next = records-held b phases_head 2 (phase_count b) 12 (or-first _ _ h);
      time = times-passed b phases_head 12 phase_settings 6 (phase_count b) (or_later _ _ h);
    }

pub groups-accepted : (b : List ℕ) → groups_section b ≡ Accepted → GroupsAccepted b
unfolding groups_section conflicts_head group_record bad_group pedestrian ninth_pedestrian phase_without_group movement_count
groups-accepted b h =
    record {
      next = records-held b (groups_head b) 3 (group_count b) 2 (or-first _ _ h);
      set = λ g l. leb-false _ _ (good g l).0;
      mark = λ g l. ltb-false _ _ (good g l).1;
      one_phase = λ g l p. eqb-true _ _ (not-false _ (and-false-rest _ (good g l).2 p));
      movements =
          count-within (pedestrian b) (group_count b) 8
          (λ g l p. eqb-false _ _ (and-false-rest _ (refuse-passed _ _ _ (or_later _ _ (each g l))) p));
      served = λ p l. any_found _ _ (not-false _ (any_false _ _ p (refuse-passed _ _ _ (or_later _ _ (or_later _ _ h))) l));
    }
  where
    each : (g : ℕ) → g < group_count b → group_record b g ≡ Accepted
    each g l = first-each (group_record b) (group_count b) g (or-first _ _ (or_later _ _ h)) l

    good :
        (g : ℕ) →
        g < group_count b →
        (leb (2 ^ phase_count b) (group_set b g) ≡ false)
        × (ltb 3 (group_mark b g) ≡ false)
        × ((pedestrian b g && not (eqb (count_of (λ p. bit p (group_set b g)) (phase_count b)) 1)) ≡ false)
    good g l = or-false-three _ _ _ (refuse-passed _ _ _ (or-first _ _ (each g l)))

pub conflicts-accepted : (b : List ℕ) → conflicts_section b ≡ Accepted → ConflictsAccepted b
unfolding conflicts_section detectors_head bad_conflict conflict_in_phase share_phase
conflicts-accepted b h =
    record {
      next = records-held b (conflicts_head b) 4 (group_count b) 4 (or-first _ _ h);
      other = λ g l. (good g l).0;
      set = λ g l. leb-false _ _ (good g l).1;
      back = λ g j l m e. not-false _ (and-false-rest _ (any_false _ _ j (good g l).2 m) e);
      apart = λ g j p l m n e q. and-false-rest _ (any_false _ _ p (and-false-rest _ (any_false _ _ j (shares g l) m) e) n) q;
    }
  where
    good :
        (g : ℕ) →
        g < group_count b →
        (bit g (conflict_set b g) ≡ false)
        × (leb (2 ^ group_count b) (conflict_set b g) ≡ false)
        × (any_of (λ j. bit j (conflict_set b g) && not (bit g (conflict_set b j))) (group_count b) ≡ false)
    good g l = or-false-three _ _ _ (refuse-passed _ _ _ (first-each _ _ g (or-first _ _ (or_later _ _ h)) l))

    shares : (g : ℕ) → g < group_count b → any_of (λ j. bit j (conflict_set b g) && share_phase b g j) (group_count b) ≡ false
    shares g l = refuse-passed _ _ _ (first-each _ _ g (or_later _ _ (or_later _ _ h)) l)

-- the detectors' body, where its head passed
pub detectors-held :
    (b : List ℕ) (head : ℕ) →
    section_at b head 5 (eqb (body_length b head % 2) 0 && leb (body_length b head) 96) ≡ Accepted →
    (body_at head + body_length b head ≤ length b) × (body_length b head ≤ 96)
detectors-held b head h =
    let body = body-held b head 5 _ h in
    (body.1, leb-true _ _ (and_right (eqb (body_length b head % 2) 0) _ body.0))

pub detectors-accepted : (b : List ℕ) → detectors_section b ≡ Accepted → DetectorsAccepted b
unfolding detectors_section pedestrians_head detector_count detector_record bad_detector_at bad_detector
detectors-accepted b h =
    let body = detectors-held b (detectors_head b) (or-first _ _ h) in
    record {
      next = body.0;
      short = body.1;
      count = omega (arith, body.1);
      phase = λ d l. leb-false _ _ (or-false-left _ _ (refuse-passed _ _ _ (first-each _ _ d (or_later _ _ h) l)));
      mode = λ d l.
          not-false _
          (or-false-right (leb (phase_count b) (detector_phase b d)) _ (refuse-passed _ _ _ (first-each _ _ d (or_later _ _ h) l)));
    }

pub pedestrians-accepted : (b : List ℕ) → pedestrians_section b ≡ Accepted → PedestriansAccepted b
unfolding pedestrians_section timed_section time_records early_head past_section
pedestrians-accepted b h =
    let body = body-held b (pedestrians_head b) 6 _ (or-first _ _ h) in
    record {
      next = body.1;
      body = eqb-true _ _ body.0;
      time = times-passed b (pedestrians_head b) 6 walk_settings 3 (movement_count b) (or_later _ _ h);
    }

pub early-accepted : (b : List ℕ) → early_section b ≡ Accepted → has_early b ≡ true → EarlyAccepted b
unfolding early_section timed_section time_records
early-accepted b h there =
    let passed = rw there at h in
    let body = body-held b (early_head b) 7 _ (or-first _ _ passed) in
    record {
      body = eqb-true _ _ body.0;
      next = records-held b (early_head b) 7 (phase_count b) 2 (or-first _ _ passed);
      time = λ p l.
          rw (add-zero (record_at (early_head b) 2 p)) at
          (times-passed b (early_head b) 2 early_setting 1 (phase_count b) (or_later _ _ passed) p l 0 (omega arith));
    }

pub order-accepted : (b : List ℕ) → order_section b ≡ Accepted → has_order b ≡ true → OrderAccepted b
unfolding order_section phase_not_once
order-accepted b h there =
    let passed = rw there at h in
    let body = body-held b (order_head b) 9 _ (or-first _ _ passed) in
    let size = eqb-true _ _ body.0 in
    record {
      body = size;
      next = rw (← size) body.1;
      once = λ p l. eqb-true _ _ (not-false _ (any_false _ _ p (refuse-passed _ _ _ (or_later _ _ passed)) l));
    }

-- ── All of them, with nothing after the last ──

pub record SectionsAccepted (b : List ℕ) : Type 0 where
  pub site : SiteAccepted b
  pub phases : PhasesAccepted b
  pub groups : GroupsAccepted b
  pub conflicts : ConflictsAccepted b
  pub detectors : DetectorsAccepted b
  pub pedestrians : PedestriansAccepted b
  pub early : has_early b ≡ true → EarlyAccepted b
  pub order : has_order b ≡ true → OrderAccepted b
  pub called : (p : ℕ) → p < phase_count b → (any_of (calls_phase b p) (detector_count b) || any_of (walks_phase b p) (group_count b)) ≡ true
  pub none_early : has_early b ≡ false → (g : ℕ) → g < group_count b → group_mark b g ≡ 3 → ⊥
  pub last : length b ≤ end_of b

pub sections-accepted : (b : List ℕ) → verdict_of b ≡ Accepted → SectionsAccepted b
unfolding verdict_of after_pedestrians phase_without_caller early_missing stops_early left_over
sections-accepted b h =
    let from_phases = or_later _ _ h in
    let from_groups = or_later _ _ from_phases in
    let from_conflicts = or_later _ _ from_groups in
    let from_detectors = or_later _ _ from_conflicts in
    let from_pedestrians = or_later _ _ from_detectors in
    let from_early = or_later _ _ from_pedestrians in
    let from_order = or_later _ _ from_early in
    let from_callers = or_later _ _ from_order in
    let from_missing = or_later _ _ from_callers in
    record {
      site = site-accepted b (or-first _ _ h);
      phases = phases-accepted b (or-first _ _ from_phases);
      groups = groups-accepted b (or-first _ _ from_groups);
      conflicts = conflicts-accepted b (or-first _ _ from_conflicts);
      detectors = detectors-accepted b (or-first _ _ from_detectors);
      pedestrians = pedestrians-accepted b (or-first _ _ from_pedestrians);
      early = early-accepted b (or-first _ _ from_early);
      order = order-accepted b (or-first _ _ from_order);
      called = λ p l. not-false _ (any_false _ _ p (refuse-passed _ _ _ (or-first _ _ from_callers)) l);
      none_early = λ missing g l mark.
          never_both
          (not-false _ (and-false-rest _ (refuse-passed _ _ _ (first-each _ _ g (or-first _ _ from_missing) l)) (eq-eqb _ _ mark)))
          missing;
      last = ltb-false _ _ (refuse-passed _ _ _ (or_later _ _ from_missing));
    }
