-- Bytes that differ in time settings only hold the same site with other times.
use Prim.Native.Nat.{ℕ, zero, suc, ◌+◌, ◌*◌, ◌%◌, ◌^◌, ◌≤◌, ◌<◌}
use mathlib.Core.Bool.{Bool, true, false, not, ◌&&◌, ◌||◌}
use mathlib.Core.List.{List}
use mathlib.Core.Logic.{◌⊎◌, inl, inr, ⊎_elim}
use mathlib.Core.Path.{◌≡◌, refl, ap, ap₂, subst, ◌∙◌}
use native.Mathlib.Omega.{arith}
use lib.Dec.{leb, eqb}
use lib.ListN.{length, get_or}
use Rattle.rules.specs.declared.site.Detector.{Detector}
use Rattle.rules.specs.declared.site.Group.{Group}
use Rattle.rules.specs.declared.site.Range.{Range}
use Rattle.std.specs.Prelude.{if◌then◌else◌}
use Rattle.laws.specs.Folds.{count_of, row_of, indices_of}
use Rattle.laws.specs.Bytes.{byte_at, two_at, four_at, bit}
use Rattle.rules.specs.Personality.{body_length, kind_at, body_at, record_at, site_kind, edition_of, phase_count, group_count, groups_head, conflicts_head, detectors_head, pedestrians_head, past_section, has_head, early_head, has_early, order_head, has_order, end_of, group_set, group_mark, pedestrian, movement_count, conflict_set, detector_count, detector_phase, detector_mode, order_at, bad_detector_at, section_at, time_at, times_at, time_records, timed_section, site_section, phases_section, ninth_pedestrian, group_record, phase_without_group, groups_section, bad_conflict, share_phase, conflict_in_phase, conflicts_section, detector_record, detectors_section, pedestrians_section, early_section, phase_not_once, order_section, calls_phase, walks_phase, phase_without_caller, stops_early, early_missing, left_over, after_pedestrians, verdict_of, phases_head}
use Rattle.rules.specs.Site.{times_in, crossing_at, order_in, site_of, early_time_at, phase_times_at, walk_times_at}
use Rattle.rules.specs.Verdicts.{Verdict, Accepted, ◌or_else◌, refuse_if, first_of}
use Rattle.rules.specs.Limits.{limits, within, start_red_setting, phase_settings, walk_settings, early_setting}
use Rattle.rules.specs.SiteTimes.{under, admitted}
use Rattle.laws.proofs.Counting.{count_same, indices-at}
use native.Mathlib.Nat.{add-zero}
use borrow.Author.Tests.{le-leb}
use Rattle.rules.specs.declared.site.PhaseTimes.{PhaseTimes}
use Rattle.rules.specs.declared.site.WalkTimes.{WalkTimes}
use Rattle.rules.specs.Laws.{InTable, PhaseTimesIn, WalkTimesIn, TimesIn, AcceptedIsSound}
use Rattle.laws.proofs.Booleans.{decided}
use Rattle.rules.proofs.Verdicts.{or-first, or_later}
use Rattle.proof_acceptance.proofs.Entries.{phase-times-at, walk-times-at}
use Rattle.proof_acceptance.proofs.Acceptance.{accepted-is-sound}
use Rattle.proof_change.proofs.Admitted.{admitted-told}
use Rattle.laws.proofs.Lists.{list_same}
use Rattle.laws.proofs.Folds.{any_same}

first-same : (f g : ℕ → Verdict) (n : ℕ) → ((i : ℕ) → i < n → f i ≡ g i) → first_of f n ≡ first_of g n
unfolding first_of
first-same f g zero h = refl
first-same f g (suc n) h = rw (first-same f g n (λ i l. h i (omega arith)), h n (omega arith))

first-all : (f : ℕ → Verdict) (n : ℕ) → ((i : ℕ) → i < n → f i ≡ Accepted) → first_of f n ≡ Accepted
unfolding first_of ◌or_else◌
first-all f zero h = refl
first-all f (suc n) h = rw (first-all f n (λ i l. h i (omega arith)), h n (omega arith))

-- place i is no byte of a time setting
pub record Outside (b : List ℕ) (i : ℕ) : Type 0 where
  pub start : (i < 6) ⊎ (8 ≤ i)
  pub phases : (i < 12) ⊎ (groups_head b ≤ i)
  pub walks : (i < body_at (pedestrians_head b)) ⊎ (early_head b ≤ i)
  pub early : has_early b ≡ true → (i < body_at (early_head b)) ⊎ (order_head b ≤ i)

indices-same : (f g : ℕ → Bool) (n : ℕ) → ((i : ℕ) → i < n → f i ≡ g i) → indices_of f n ≡ indices_of g n
unfolding indices_of
indices-same f g zero h = refl
indices-same f g (suc n) h = rw (indices-same f g n (λ i l. h i (omega arith)), h n (omega arith))

module _ (b b' : List ℕ) (len : length b' ≡ length b) (same : (i : ℕ) → Outside b i → byte_at b' i ≡ byte_at b i) where
  -- ── Places ──

  first-bytes : (i : ℕ) → i < 6 → byte_at b' i ≡ byte_at b i
  unfolding groups_head conflicts_head detectors_head pedestrians_head early_head past_section body_at
  first-bytes i h = same i (record { start = inl h; phases = inl (omega arith); walks = inl (omega arith); early = λ e. inl (omega arith) })

  middle-bytes : (i : ℕ) → groups_head b ≤ i → i < body_at (pedestrians_head b) → byte_at b' i ≡ byte_at b i
  unfolding groups_head conflicts_head detectors_head pedestrians_head early_head past_section body_at
  middle-bytes i h l = same i (record { start = inr (omega arith); phases = inr h; walks = inl l; early = λ e. inl (omega arith) })

  second-bytes : (i : ℕ) → 8 ≤ i → i < 12 → byte_at b' i ≡ byte_at b i
  unfolding groups_head conflicts_head detectors_head pedestrians_head early_head past_section body_at
  second-bytes i h l = same i (record { start = inr h; phases = inl l; walks = inl (omega arith); early = λ e. inl (omega arith) })

  early-bytes : (i : ℕ) → early_head b ≤ i → i < body_at (early_head b) → byte_at b' i ≡ byte_at b i
  unfolding groups_head conflicts_head detectors_head pedestrians_head early_head past_section body_at
  early-bytes i h l = same i (record { start = inr (omega arith); phases = inr (omega arith); walks = inr h; early = λ e. inl l })

  order_from : early_head b ≤ order_head b
  unfolding order_head past_section body_at
  order_from = by (has_early b)
    where
      by : (t : Bool) → early_head b ≤ (if t then early_head b + 4 + body_length b (early_head b) else early_head b)
      by true = omega arith
      by false = omega arith

  last-bytes : (i : ℕ) → order_head b ≤ i → byte_at b' i ≡ byte_at b i
  unfolding groups_head conflicts_head detectors_head pedestrians_head early_head past_section body_at
  last-bytes i h =
      let from = order_from in
      same i (record { start = inr (omega arith); phases = inr (omega arith); walks = inr (omega arith); early = λ e. inr h })

  -- ── Counts and heads ──

  pub phases-same : phase_count b' ≡ phase_count b
  unfolding phase_count
  phases-same = first-bytes 4 (omega arith)

  groups-same : group_count b' ≡ group_count b
  unfolding group_count
  groups-same = first-bytes 5 (omega arith)

  -- the kind of the first section is no time setting
  edition-same : edition_of b' ≡ edition_of b
  unfolding edition_of has_head kind_at two_at
  edition-same = rw (len, first-bytes 2 (omega arith), first-bytes 3 (omega arith))

  pub groups-head : groups_head b' ≡ groups_head b
  unfolding groups_head
  groups-head = rw phases-same

  conflicts-head : conflicts_head b' ≡ conflicts_head b
  unfolding conflicts_head
  conflicts-head = rw (groups-head, groups-same)

  detectors-head : detectors_head b' ≡ detectors_head b
  unfolding detectors_head
  detectors-head = rw (conflicts-head, groups-same)

  detectors-length : body_length b' (detectors_head b') ≡ body_length b (detectors_head b)
  unfolding body_length two_at detectors_head conflicts_head pedestrians_head body_at
  detectors-length =
      ap (λ (head : ℕ). two_at b' head) detectors-head
      ∙ rw (middle-bytes (detectors_head b) (omega arith) (omega arith), middle-bytes (detectors_head b + 1) (omega arith) (omega arith))

  pub pedestrians-head : pedestrians_head b' ≡ pedestrians_head b
  unfolding pedestrians_head
  pedestrians-head = rw (detectors-length, detectors-head)

  pub early-head : early_head b' ≡ early_head b
  unfolding early_head past_section body_length two_at detectors_head conflicts_head pedestrians_head body_at
  early-head =
      ap (λ (head : ℕ). body_at head + two_at b' head) pedestrians-head
      ∙ rw (middle-bytes (pedestrians_head b) (omega arith) (omega arith), middle-bytes (pedestrians_head b + 1) (omega arith) (omega arith))

  pub has-early : has_early b' ≡ has_early b
  unfolding has_early has_head kind_at two_at body_at
  has-early =
      rw (len, early-head, early-bytes (early_head b + 2) (omega arith) (omega arith), early-bytes (early_head b + 2 + 1) (omega arith) (omega arith))

  pub order-head : order_head b' ≡ order_head b
  unfolding order_head past_section body_length two_at body_at
  order-head = rw (has-early, early-head, early-bytes (early_head b) (omega arith) (omega arith), early-bytes (early_head b + 1) (omega arith) (omega arith))

  has-order : has_order b' ≡ has_order b
  unfolding has_order has_head kind_at two_at
  has-order = rw (len, order-head, last-bytes (order_head b + 2) (omega arith), last-bytes (order_head b + 2 + 1) (omega arith))

  -- ── Records ──

  module _ (g : ℕ) (l : g < group_count b) where
    set_same : group_set b' g ≡ group_set b g
    unfolding group_set record_at body_at conflicts_head detectors_head pedestrians_head
    set_same = rw (groups-head, middle-bytes (groups_head b + 4 + g * 2) (omega arith) (omega arith))

    mark-same : group_mark b' g ≡ group_mark b g
    unfolding group_mark record_at body_at conflicts_head detectors_head pedestrians_head
    mark-same = rw (groups-head, middle-bytes (groups_head b + 4 + g * 2 + 1) (omega arith) (omega arith))

    pedestrian-same : pedestrian b' g ≡ pedestrian b g
    unfolding pedestrian
    pedestrian-same = rw mark-same

    conflict-same : conflict_set b' g ≡ conflict_set b g
    unfolding conflict_set four_at two_at record_at body_at conflicts_head detectors_head pedestrians_head
    conflict-same =
        ap (λ (head : ℕ). four_at b' (head + 4 + g * 4)) conflicts-head
        ∙ rw (
          middle-bytes (conflicts_head b + 4 + g * 4) (omega arith) (omega arith),
          middle-bytes (conflicts_head b + 4 + g * 4 + 1) (omega arith) (omega arith),
          middle-bytes (conflicts_head b + 4 + g * 4 + 2) (omega arith) (omega arith),
          middle-bytes (conflicts_head b + 4 + g * 4 + 2 + 1) (omega arith) (omega arith),
        )

  module _ (d : ℕ) (l : d < detector_count b) where
    inside : d * 2 + 1 < body_length b (detectors_head b)
    unfolding detector_count
    inside = omega arith

    detector-phase : detector_phase b' d ≡ detector_phase b d
    unfolding detector_phase record_at body_at conflicts_head detectors_head pedestrians_head
    detector-phase =
        let h = inside in
        ap (λ (head : ℕ). byte_at b' (head + 4 + d * 2)) detectors-head
        ∙ middle-bytes (detectors_head b + 4 + d * 2) (omega arith) (omega arith)

    detector-mode : detector_mode b' d ≡ detector_mode b d
    unfolding detector_mode record_at body_at conflicts_head detectors_head pedestrians_head
    detector-mode =
        let h = inside in
        ap (λ (head : ℕ). byte_at b' (head + 4 + d * 2 + 1)) detectors-head
        ∙ middle-bytes (detectors_head b + 4 + d * 2 + 1) (omega arith) (omega arith)

  detectors-same : detector_count b' ≡ detector_count b
  unfolding detector_count
  detectors-same = rw detectors-length

  pub movements-same : movement_count b' ≡ movement_count b
  unfolding movement_count
  movements-same =
      ap (λ (n : ℕ). count_of (pedestrian b') n) groups-same ∙ count_same (pedestrian b') (pedestrian b) (group_count b) pedestrian-same

  order_same : (i : ℕ) → order_at b' i ≡ order_at b i
  unfolding order_at record_at body_at
  order_same i = rw (order-head, last-bytes (order_head b + 4 + i * 1) (omega arith))

  -- ── The site ──

  crossing-same : (k : ℕ) → k < movement_count b → crossing_at b' k ≡ crossing_at b k
  unfolding crossing_at movement_count
  crossing-same k l =
      ap (λ (n : ℕ). group_set b' (get_or (indices_of (pedestrian b') n) k 0)) groups-same
      ∙ ap (λ (at : List ℕ). group_set b' (get_or at k 0)) (indices-same (pedestrian b') (pedestrian b) (group_count b) pedestrian-same)
      ∙ set_same (get_or (indices_of (pedestrian b) (group_count b)) k 0) (indices-at (pedestrian b) (group_count b) k l).0

  order-in : (i : ℕ) → order_in b' i ≡ order_in b i
  unfolding order_in
  order-in i = rw (has-order, order_same i)

  pub site-same : site_of b' ≡ under (site_of b) (times_in b')
  unfolding site_of row_of
  site-same =
      rw (
        phases-same,
        groups-same,
        detectors-same,
        movements-same,
        edition-same,
        has-early,
        list_same {A = Group} (λ g. record { phases = group_set b' g; mark = group_mark b' g }) (λ g. record { phases = group_set b g; mark = group_mark b g }) (group_count b) (λ g l. rw (set_same g l, mark-same g l)),
        list_same (conflict_set b') (conflict_set b) (group_count b) conflict-same,
        list_same {A = Detector} (λ d. record { phase = detector_phase b' d; mode = detector_mode b' d }) (λ d. record { phase = detector_phase b d; mode = detector_mode b d }) (detector_count b) (λ d l. rw (detector-phase d l, detector-mode d l)),
        list_same (crossing_at b') (crossing_at b) (movement_count b) crossing-same,
        list_same (order_in b') (order_in b) (phase_count b) (λ i l. order-in i),
      )

  -- ── The checks ──

  section-same :
      (head kind : ℕ) (right : Bool) →
      ((i : ℕ) → head ≤ i → i < head + 4 → byte_at b' i ≡ byte_at b i) →
      section_at b' head kind right ≡ section_at b head kind right
  unfolding section_at kind_at body_length two_at
  section-same head kind right h =
      rw (len, h (head + 2) (omega arith) (omega arith), h (head + 2 + 1) (omega arith) (omega arith), h head (omega arith) (omega arith), h (head + 1) (omega arith) (omega arith))

  before_same : (g : ℕ) → g ≤ group_count b → count_of (pedestrian b') g ≡ count_of (pedestrian b) g
  before_same g l = count_same (pedestrian b') (pedestrian b) g (λ i h. pedestrian-same i (omega arith))

  groups-section : groups_section b' ≡ groups_section b
  unfolding groups_section body_length two_at group_record ninth_pedestrian phase_without_group conflicts_head detectors_head pedestrians_head body_at
  groups-section =
      let head : (i : ℕ) → groups_head b ≤ i → i < groups_head b + 4 → byte_at b' i ≡ byte_at b i = λ i h l. middle-bytes i h (omega arith) in
      rw (groups-head, groups-same, phases-same, head (groups_head b) (omega arith) (omega arith), head (groups_head b + 1) (omega arith) (omega arith))
      (ap₂ ◌or_else◌
      (section-same (groups_head b) 3 _ head)
      (ap₂ ◌or_else◌
      (first-same _ _ (group_count b)
      (λ g l. rw (phases-same, groups-head, set_same g l, mark-same g l, pedestrian-same g l, before_same g (omega arith))))
      (ap (λ (t : Bool). refuse_if t 8 (groups_head b))
      (any_same _ _ (phase_count b) (λ p h. ap not (any_same _ _ (group_count b) (λ g l. ap (bit p) (set_same g l))))))))

  conflicts-section : conflicts_section b' ≡ conflicts_section b
  unfolding conflicts_section body_length two_at bad_conflict conflict_in_phase share_phase conflicts_head detectors_head pedestrians_head body_at
  conflicts-section =
      let head : (i : ℕ) → conflicts_head b ≤ i → i < conflicts_head b + 4 → byte_at b' i ≡ byte_at b i = λ i h l. middle-bytes i (omega arith) (omega arith) in
      ap₂ ◌or_else◌
      (ap₂ (λ (at n : ℕ). section_at b' at 4 (eqb (body_length b' at) (n * 4))) conflicts-head groups-same
      ∙ rw (head (conflicts_head b) (omega arith) (omega arith), head (conflicts_head b + 1) (omega arith) (omega arith)) (section-same (conflicts_head b) 4 _ head))
      (ap₂ ◌or_else◌
      (ap (λ (n : ℕ). first_of (λ g. refuse_if (bad_conflict b' g) 9 (record_at (conflicts_head b') 4 g)) n) groups-same
      ∙ first-same _ _ (group_count b)
      (λ g l.
      ap₂ (λ (bad : Bool) (at : ℕ). refuse_if bad 9 (record_at at 4 g))
      (rw (conflict-same g l, groups-same)
      (ap (λ (t : Bool). bit g (conflict_set b g) || leb (2 ^ group_count b) (conflict_set b g) || t)
      (any_same _ _ (group_count b) (λ j m. ap (λ (set : ℕ). bit j (conflict_set b g) && not (bit g set)) (conflict-same j m)))))
      conflicts-head))
      (ap (λ (n : ℕ). first_of (λ g. refuse_if (conflict_in_phase b' g) 10 (record_at (conflicts_head b') 4 g)) n) groups-same
      ∙ first-same _ _ (group_count b)
      (λ g l.
      ap₂ (λ (bad : Bool) (at : ℕ). refuse_if bad 10 (record_at at 4 g))
      (rw (conflict-same g l, groups-same, phases-same)
      (any_same _ _ (group_count b)
      (λ j m. ap (λ (t : Bool). bit j (conflict_set b g) && t) (any_same _ _ (phase_count b) (λ p n. rw (set_same g l, set_same j m))))))
      conflicts-head)))

  detectors-section : detectors_section b' ≡ detectors_section b
  unfolding detectors_section detector_record bad_detector_at conflicts_head detectors_head pedestrians_head body_at
  detectors-section =
      let head : (i : ℕ) → detectors_head b ≤ i → i < detectors_head b + 4 → byte_at b' i ≡ byte_at b i = λ i h l. middle-bytes i (omega arith) (omega arith) in
      ap₂ ◌or_else◌
      (ap (λ (n : ℕ). section_at b' (detectors_head b') 5 (eqb (n % 2) 0 && leb n 96)) detectors-length
      ∙ ap (λ (at : ℕ). section_at b' at 5 (eqb (body_length b (detectors_head b) % 2) 0 && leb (body_length b (detectors_head b)) 96)) detectors-head
      ∙ section-same (detectors_head b) 5 _ head)
      (ap (λ (n : ℕ). first_of (λ d. refuse_if (bad_detector_at b' d) 11 (record_at (detectors_head b') 2 d)) n) detectors-same
      ∙ first-same _ _ (detector_count b)
      (λ d l. ap₂ (λ (bad : Bool) (at : ℕ). refuse_if bad 11 (record_at at 2 d)) (rw (phases-same, detector-phase d l, detector-mode d l)) detectors-head))

  order-section : order_section b' ≡ order_section b
  unfolding order_section phase_not_once body_length two_at
  order-section =
      let head : (i : ℕ) → order_head b ≤ i → i < order_head b + 4 → byte_at b' i ≡ byte_at b i = λ i h l. last-bytes i h in
      rw (has-order, order-head, phases-same, head (order_head b) (omega arith) (omega arith), head (order_head b + 1) (omega arith) (omega arith))
      (ap (λ (v : Verdict). if has_order b then v else Accepted)
      (ap₂ ◌or_else◌
      (section-same (order_head b) 9 _ head)
      (ap (λ (t : Bool). refuse_if t 18 (order_head b))
      (any_same _ _ (phase_count b)
      (λ p l. ap (λ (n : ℕ). not (eqb n 1)) (count_same _ _ (phase_count b) (λ i m. ap (λ (q : ℕ). eqb q p) (order_same i))))))))

  caller-same : phase_without_caller b' ≡ phase_without_caller b
  unfolding phase_without_caller calls_phase walks_phase
  caller-same =
      rw (phases-same, detectors-same, groups-same)
      (any_same _ _ (phase_count b)
      (λ p l.
      ap₂ (λ (s t : Bool). not (s || t))
      (any_same _ _ (detector_count b) (λ d m. rw (detector-phase d m, detector-mode d m)))
      (any_same _ _ (group_count b) (λ g m. rw (pedestrian-same g m, set_same g m)))))

  missing-same : early_missing b' ≡ early_missing b
  unfolding early_missing stops_early
  missing-same =
      rw (groups-same, groups-head, has-early)
      (first-same _ _ (group_count b) (λ g l. rw (mark-same g l)))

  end_same : end_of b' ≡ end_of b
  unfolding end_of past_section body_length two_at
  end_same = rw (has-order, order-head, last-bytes (order_head b) (omega arith), last-bytes (order_head b + 1) (omega arith))

  walks-head :
      section_at b' (pedestrians_head b') 6 (eqb (body_length b' (pedestrians_head b')) (movement_count b' * 6))
      ≡ section_at b (pedestrians_head b) 6 (eqb (body_length b (pedestrians_head b)) (movement_count b * 6))
  unfolding body_length two_at detectors_head conflicts_head pedestrians_head body_at
  walks-head =
      let head : (i : ℕ) → pedestrians_head b ≤ i → i < pedestrians_head b + 4 → byte_at b' i ≡ byte_at b i = λ i h l. middle-bytes i (omega arith) (omega arith) in
      ap₂ (λ (at n : ℕ). section_at b' at 6 (eqb (body_length b' at) (n * 6))) pedestrians-head movements-same
      ∙ rw (head (pedestrians_head b) (omega arith) (omega arith), head (pedestrians_head b + 1) (omega arith) (omega arith))
      (section-same (pedestrians_head b) 6 _ head)

  early-heads :
      section_at b' (early_head b') 7 (eqb (body_length b' (early_head b')) (phase_count b' * 2))
      ≡ section_at b (early_head b) 7 (eqb (body_length b (early_head b)) (phase_count b * 2))
  unfolding body_length two_at body_at
  early-heads =
      ap₂ (λ (at n : ℕ). section_at b' at 7 (eqb (body_length b' at) (n * 2))) early-head phases-same
      ∙ rw (early-bytes (early_head b) (omega arith) (omega arith), early-bytes (early_head b + 1) (omega arith) (omega arith))
      (section-same (early_head b) 7 _ early-bytes)

  -- ── Times that the site may have ──

  abbrev table : List Range
  table = limits (edition_of b)

  time-in : (place setting : ℕ) → InTable table setting (two_at b' place) → time_at b' place setting ≡ Accepted
  unfolding time_at refuse_if within
  time-in place setting h = rw (edition-same, le-leb _ _ h.0, le-leb _ _ h.1)

  module _ (known : verdict_of b ≡ Accepted) (ok : admitted (site_of b) (times_in b') ≡ true) where
    fine : TimesIn table (site_of b).size (times_in b')
    unfolding AcceptedIsSound site_of
    fine =
        let sound = accepted-is-sound b known in
        (admitted-told (site_of b) (times_in b') sound.phases.1 sound.movements ok).in_table

    phase-in : (p : ℕ) → p < phase_count b → PhaseTimesIn table (phase_times_at b' p)
    unfolding site_of
    phase-in p l = subst (λ (t : PhaseTimes). PhaseTimesIn table t) (phase-times-at b' p (rw phases-same l)) (fine.phase p l)

    walk-in : (k : ℕ) → k < movement_count b → WalkTimesIn table (walk_times_at b' k)
    unfolding site_of
    walk-in k l = subst (λ (t : WalkTimes). WalkTimesIn table t) (walk-times-at b' k (rw movements-same l)) (fine.walk k l)

    phase-record : (p : ℕ) → p < phase_count b → times_at b' (record_at phases_head 12 p) phase_settings 6 ≡ Accepted
    unfolding times_at first_of ◌or_else◌ phase_times_at
    phase-record p l =
        let h = phase-in p l in
        let at = record_at phases_head 12 p in
        rw (
          time-in (at + 0) phase_settings (rw add-zero h.late),
          time-in (at + 2) (phase_settings + 1) h.minimum,
          time-in (at + 4) (phase_settings + 2) h.maximum,
          time-in (at + 6) (phase_settings + 3) h.gap,
          time-in (at + 8) (phase_settings + 4) h.yellow,
          time-in (at + 10) (phase_settings + 5) h.red,
        )

    walk-record : (k : ℕ) → k < movement_count b → times_at b' (record_at (pedestrians_head b') 6 k) walk_settings 3 ≡ Accepted
    unfolding times_at first_of ◌or_else◌ walk_times_at
    walk-record k l =
        let h = walk-in k l in
        let at = record_at (pedestrians_head b') 6 k in
        rw (
          time-in (at + 0) walk_settings (rw add-zero h.walk),
          time-in (at + 2) (walk_settings + 1) h.first,
          time-in (at + 4) (walk_settings + 2) h.second,
        )

    early-record : has_early b' ≡ true → (p : ℕ) → p < phase_count b → times_at b' (record_at (early_head b') 2 p) early_setting 1 ≡ Accepted
    unfolding times_at first_of ◌or_else◌ phase_times_at early_time_at
    early-record e p l = time-in (record_at (early_head b') 2 p + 0) early_setting (rw (add-zero (record_at (early_head b') 2 p)) (rw e at (phase-in p l).early))

    -- a check in front stays as it is
    over : (a t t' : Verdict) → (a or_else t) ≡ Accepted → (t ≡ Accepted → t' ≡ Accepted) → (a or_else t') ≡ Accepted
    unfolding ◌or_else◌
    over a t t' h f = rw (or-first a t h) (f (or_later a t h))

    site-section : site_section b ≡ Accepted → site_section b' ≡ Accepted
    unfolding site_section body_length two_at times_in
    site-section e =
        let head : (i : ℕ) → 0 ≤ i → i < 0 + 4 → byte_at b' i ≡ byte_at b i = λ i h l. first-bytes i (omega arith) in
        rw (edition-same, first-bytes 0 (omega arith), first-bytes 1 (omega arith), section-same 0 (site_kind (edition_of b)) _ head, phases-same, groups-same)
        (over _ _ _ e (λ e. over _ _ _ e (λ e. over _ _ _ e (λ e. time-in 6 start_red_setting fine.start))))

    phases-section : phases_section b ≡ Accepted → phases_section b' ≡ Accepted
    unfolding phases_section timed_section time_records body_length two_at
    phases-section e =
        let head : (i : ℕ) → 8 ≤ i → i < 8 + 4 → byte_at b' i ≡ byte_at b i = second-bytes in
        rw (head 8 (omega arith) (omega arith), head 9 (omega arith) (omega arith), section-same 8 2 _ head, phases-same)
        (over _ _ _ e (λ e. first-all _ (phase_count b) phase-record))

    pedestrians-section : pedestrians_section b ≡ Accepted → pedestrians_section b' ≡ Accepted
    unfolding pedestrians_section timed_section time_records
    pedestrians-section e =
        rw (walks-head, movements-same) (over _ _ _ e (λ e. first-all _ (movement_count b) walk-record))

    early-section : early_section b ≡ Accepted → early_section b' ≡ Accepted
    unfolding early_section timed_section time_records
    early-section e =
        ⊎_elim
        (λ (yes : has_early b ≡ true).
        rw (has-early ∙ yes, early-heads, phases-same)
        (over _ _ _ (rw yes at e) (λ e. first-all _ (phase_count b) (early-record (has-early ∙ yes)))))
        (λ (no : has_early b ≡ false). rw (has-early ∙ no))
        (decided (has_early b))

    after-pedestrians : after_pedestrians b ≡ Accepted → after_pedestrians b' ≡ Accepted
    unfolding after_pedestrians left_over ◌or_else◌
    after-pedestrians e =
        let first = or-first (early_section b) _ e in
        let rest = or_later (early_section b) _ e in
        rw (early-section first, order-section, caller-same, detectors-head, missing-same, end_same, len) rest

    pub accepted-same : verdict_of b' ≡ Accepted
    unfolding verdict_of ◌or_else◌
    accepted-same =
        let e0 = opened in
        let e1 = or_later (site_section b) _ e0 in
        let e2 = or_later (phases_section b) _ e1 in
        let e3 = or_later (groups_section b) _ e2 in
        let e4 = or_later (conflicts_section b) _ e3 in
        let e5 = or_later (detectors_section b) _ e4 in
        let e6 = or_later (pedestrians_section b) _ e5 in
        rw (
          site-section (or-first (site_section b) _ e0),
          phases-section (or-first (phases_section b) _ e1),
          groups-section,
          or-first (groups_section b) _ e2,
          conflicts-section,
          or-first (conflicts_section b) _ e3,
          detectors-section,
          or-first (detectors_section b) _ e4,
          pedestrians-section (or-first (pedestrians_section b) _ e5),
          after-pedestrians e6,
        )
      where
        opened : (site_section b or_else phases_section b or_else groups_section b or_else conflicts_section b or_else detectors_section b or_else pedestrians_section b or_else after_pedestrians b) ≡ Accepted
        opened = known
