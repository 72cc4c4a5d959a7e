-- Every accepted personality holds a sound site: each fact that acceptance tells of the bytes is carried to the site's entries, and
-- past the counts the entries are blank. The one phase of a movement is the one bit that its group's set is counted to have.
use Prim.Native.Nat.{ℕ, ◌+◌, ◌%◌, ◌≤◌, ◌<◌}
use mathlib.Core.Bool.{true, false}
use mathlib.Core.List.{List}
use mathlib.Core.Logic.{inl, inr, ⊎_elim}
use mathlib.Core.Path.{◌≡◌, refl, sym, subst, ap, ◌∙◌}
use borrow.Author.Tests.{eqb-true, eqb-false, eq-eqb, not-true}
use lib.Dec.{eqb}
use lib.ListN.{get_or}
use native.Mathlib.Nat.{add-zero}
use native.Mathlib.Omega.{arith}
use Rattle.rules.specs.declared.site.Detector.{Detector}
use Rattle.rules.specs.declared.site.Group.{Group}
use Rattle.rules.specs.declared.site.PhaseTimes.{PhaseTimes}
use Rattle.rules.specs.declared.site.Range.{Range}
use Rattle.laws.specs.Folds.{any_of, count_of, indices_of}
use Rattle.laws.specs.Bytes.{two_at, bit}
use Rattle.rules.specs.Limits.{limits, phase_settings, walk_settings, early_setting}
use Rattle.rules.specs.Personality.{edition_of, record_at, phases_head, pedestrians_head, phase_count, group_count, detector_count, movement_count, group_set, group_mark, conflict_set, detector_phase, known_mode, pedestrian, has_early, has_order, calls_phase, walks_phase}
use Rattle.rules.specs.Site.{early_time_at, phase_times_at, walk_times_at, times_in, crossing_at, order_in, site_of, group_of, phase_times, in_phase, crosses, is_pedestrian, movement_of, conflict}
use Rattle.rules.specs.Laws.{InTable, PhaseTimesIn, WalkTimesIn, TimesIn, may_be_zero, OnePhase, Caller, Sound, AcceptedIsSound, EditionIsNamed, AcceptedIsInTable}
use Rattle.laws.proofs.Booleans.{decided, never_both, and_left, and_right, or_cases}
use Rattle.laws.proofs.Indices.{below-or-past, passes-below}
use Rattle.laws.proofs.Folds.{any_found}
use Rattle.laws.proofs.Counting.{IthPassing, indices-at, count-before, count-apart, count_same, count-one, count-only}
use Rattle.laws.proofs.Bits.{bit_below}
use Rattle.rules.proofs.Settings.{table-is-usable, zero-allowed}
use Rattle.proof_acceptance.proofs.Sections.{PhasesAccepted, GroupsAccepted, ConflictsAccepted, PedestriansAccepted, EarlyAccepted, OrderAccepted, SectionsAccepted, sections-accepted}
use Rattle.proof_acceptance.proofs.Entries.{phase-times-at, phase-times-past, walk-times-at, order-at, group-at, group-past, in-phase-at, in-phase-past, pedestrian-at, conflict-at, conflict-past, detector-at, crosses-at, crosses-past, movement-at}

-- ── Times ──

-- the table of the edition that was read
abbrev table : List ℕ → List Range
table b = limits (edition_of b)

-- the first field of a record stands at the record's own place
first_field : (b : List ℕ) (place setting : ℕ) → InTable (table b) setting (two_at b (place + 0)) → InTable (table b) setting (two_at b place)
first_field b place setting h = rw add-zero at h

-- the time of early cut-off green is in the table where kind 7 is there, and 0 where it is not
early-time-in :
    (b : List ℕ) →
    (has_early b ≡ true → EarlyAccepted b) →
    (p : ℕ) →
    p < phase_count b →
    InTable (table b) early_setting (early_time_at b p)
unfolding early_time_at may_be_zero
early-time-in b s p l =
    ⊎_elim
    (λ (there : has_early b ≡ true). rw there ((s there).time p l))
    (λ (missing : has_early b ≡ false). rw missing (zero-allowed (table b) (table-is-usable (edition_of b)) early_setting (omega arith) refl))
    (decided (has_early b))

no-early-time : (b : List ℕ) (p : ℕ) → has_early b ≡ false → (phase_times (site_of b).times p).early ≡ 0
unfolding phase_times_at early_time_at
no-early-time b p missing =
    ⊎_elim
    (λ (l : p < phase_count b). ap (λ (x : PhaseTimes). x.early) (phase-times-at b p l) ∙ rw missing)
    (λ (l : phase_count b ≤ p). ap (λ (x : PhaseTimes). x.early) (phase-times-past b p l))
    (below-or-past p (phase_count b))

phase-times-in :
    (b : List ℕ) →
    PhasesAccepted b →
    (has_early b ≡ true → EarlyAccepted b) →
    (p : ℕ) →
    p < phase_count b →
    PhaseTimesIn (table b) (phase_times_at b p)
unfolding phase_times_at
phase-times-in b s early p l =
    record {
      late = first_field b (record_at phases_head 12 p) phase_settings (s.time p l 0 (omega arith));
      minimum = s.time p l 1 (omega arith);
      maximum = s.time p l 2 (omega arith);
      gap = s.time p l 3 (omega arith);
      yellow = s.time p l 4 (omega arith);
      red = s.time p l 5 (omega arith);
      early = early-time-in b early p l;
    }

walk-times-in : (b : List ℕ) → PedestriansAccepted b → (k : ℕ) → k < movement_count b → WalkTimesIn (table b) (walk_times_at b k)
unfolding walk_times_at
walk-times-in b s k l =
    record {
      walk = first_field b (record_at (pedestrians_head b) 6 k) walk_settings (s.time k l 0 (omega arith));
      first = s.time k l 1 (omega arith);
      second = s.time k l 2 (omega arith);
    }

times-in : (b : List ℕ) → SectionsAccepted b → TimesIn (table b) (site_of b).size (site_of b).times
unfolding site_of times_in
times-in b s =
    record {
      start = s.site.start;
      phase = λ p l. subst (PhaseTimesIn (table b)) (sym (phase-times-at b p l)) (phase-times-in b s.phases s.early p l);
      walk = λ k l. subst (WalkTimesIn (table b)) (sym (walk-times-at b k l)) (walk-times-in b s.pedestrians k l);
    }

pub edition-is-named : EditionIsNamed
unfolding EditionIsNamed site_of
edition-is-named b h = (sections-accepted b h).site.kind

pub accepted-is-in-table : AcceptedIsInTable
unfolding AcceptedIsInTable site_of
accepted-is-in-table b h = times-in b (sections-accepted b h)

-- ── The order of phases ──

-- as kind 9 lists them, or by letter without it
order-once :
    (b : List ℕ) →
    (has_order b ≡ true → OrderAccepted b) →
    (p : ℕ) →
    p < phase_count b →
    count_of (λ i. eqb (get_or (site_of b).order i 0) p) (phase_count b) ≡ 1
unfolding order_in
order-once b s p l =
    count_same _ _ (phase_count b) (λ i m. ap (λ (x : ℕ). eqb x p) (order-at b i m))
    ∙ ⊎_elim
    (λ (there : has_order b ≡ true). rw there ((s there).once p l))
    (λ (missing : has_order b ≡ false). rw missing (count-only (λ i. eqb i p) (phase_count b) p l (eq-eqb p p refl) (λ j e. eqb-true j p e)))
    (decided (has_order b))

-- ── Groups ──

group-phase : (b : List ℕ) → GroupsAccepted b → (g p : ℕ) → in_phase (site_of b).groups g p ≡ true → (g < group_count b) × (p < phase_count b)
group-phase b s g p e =
    let l = passes-below (in_phase (site_of b).groups g p) g (group_count b) (in-phase-past b g p) e in
    (l, bit_below (group_set b g) (phase_count b) p (s.set g l) (sym (in-phase-at b g p l) ∙ e))

group-mark : (b : List ℕ) → GroupsAccepted b → (g : ℕ) → (group_of (site_of b).groups g).mark ≤ 3
group-mark b s g =
    ⊎_elim
    (λ (l : g < group_count b). subst (λ (x : Group). x.mark ≤ 3) (sym (group-at b g l)) (s.mark g l))
    (λ (l : group_count b ≤ g). subst (λ (x : Group). x.mark ≤ 3) (sym (group-past b g l)) (omega arith))
    (below-or-past g (group_count b))

no-early-group :
    (b : List ℕ) →
    SectionsAccepted b →
    (g : ℕ) →
    has_early b ≡ false →
    (group_of (site_of b).groups g).mark ≡ 3 →
    ⊥
no-early-group b s g missing e =
    ⊎_elim
    (λ (l : g < group_count b). s.none_early missing g l (sym (ap (λ (x : Group). x.mark) (group-at b g l)) ∙ e))
    (λ (l : group_count b ≤ g). omega (arith, ap (λ (x : Group). x.mark) (group-past b g l)))
    (below-or-past g (group_count b))

phase-group : (b : List ℕ) → GroupsAccepted b → (p : ℕ) → p < phase_count b → (g : ℕ) × (g < group_count b) × (in_phase (site_of b).groups g p ≡ true)
phase-group b s p l =
    let w = s.served p l in
    (w.0, w.1, in-phase-at b w.0 p w.1 ∙ w.2)

-- ── Movements ──

-- the group of movement k
abbrev group_of_movement : List ℕ → ℕ → ℕ
group_of_movement b k = get_or (indices_of (pedestrian b) (group_count b)) k 0

movement-group : (b : List ℕ) (k : ℕ) → k < movement_count b → IthPassing (pedestrian b) (group_count b) k (group_of_movement b k)
unfolding movement_count
movement-group b k l = indices-at (pedestrian b) (group_count b) k l

one-phase : (b : List ℕ) → GroupsAccepted b → (k : ℕ) → k < movement_count b → OnePhase (site_of b) k
unfolding crossing_at site_of
one-phase b s k l =
    let g = group_of_movement b k in
    let found = movement-group b k l in
    let only = count-one (λ p. bit p (group_set b g)) (phase_count b) (s.one_phase g found.0 found.1) in (
      only.0,
      only.1,
      crosses-at b k only.0 l ∙ only.2,
      λ q e.
          let set = sym (crosses-at b k q l) ∙ e in
          only.3 q (bit_below (group_set b g) (phase_count b) q (s.set g found.0) set) set,
    )

movement-of-group :
    (b : List ℕ) (g : ℕ) →
    g < group_count b →
    is_pedestrian (site_of b).groups g ≡ true →
    movement_of (site_of b).groups g < movement_count b
unfolding movement_count
movement-of-group b g l e =
    omega (arith, movement-at b g l, count-before (pedestrian b) g (group_count b) l (sym (pedestrian-at b g l) ∙ e))

crossing-of-group :
    (b : List ℕ) (g : ℕ) →
    g < group_count b →
    is_pedestrian (site_of b).groups g ≡ true →
    (p : ℕ) →
    crosses (site_of b).crossings (movement_of (site_of b).groups g) p ≡ in_phase (site_of b).groups g p
unfolding crossing_at
crossing-of-group b g l e p =
    let k = movement_of (site_of b).groups g in
    let m = movement-of-group b g l e in
    let found = movement-group b k m in
    let same =
    count-apart (pedestrian b) (group_of_movement b k) g found.1 (sym (pedestrian-at b g l) ∙ e) (found.2 ∙ movement-at b g l)
    in
    crosses-at b k p m ∙ ap (λ (x : ℕ). bit p (group_set b x)) same ∙ sym (in-phase-at b g p l)

-- ── Callers ──

caller : (b : List ℕ) → SectionsAccepted b → (p : ℕ) → p < phase_count b → Caller (site_of b) p
unfolding calls_phase walks_phase site_of
caller b s p l =
    ⊎_elim
    (λ (some : any_of (calls_phase b p) (detector_count b) ≡ true).
    let found = any_found _ _ some in
    let d = found.0 in
    let at = detector-at b d found.1 in
    let calls = eqb (detector_phase b d) p in
    inl (
      d,
      found.1,
      ap (λ (x : Detector). x.phase) at ∙ eqb-true _ _ (and_left calls _ found.2),
      λ none.
          eqb-false _ _ (not-true _ (and_right calls _ found.2)) (sym (ap (λ (x : Detector). x.mode % 4) at) ∙ none),
    ))
    (λ (some : any_of (walks_phase b p) (group_count b) ≡ true).
    let found = any_found _ _ some in
    let g = found.0 in
    let walks = pedestrian-at b g found.1 ∙ and_left (pedestrian b g) _ found.2 in
    inr (
      movement_of (site_of b).groups g,
      movement-of-group b g found.1 walks,
      crossing-of-group b g found.1 walks p ∙ in-phase-at b g p found.1 ∙ and_right (pedestrian b g) _ found.2,
    ))
    (or_cases _ _ (s.called p l))

-- ── Conflicts ──

conflict-groups :
    (b : List ℕ) → ConflictsAccepted b → (g j : ℕ) → conflict (site_of b) g j ≡ true → (g < group_count b) × (j < group_count b)
conflict-groups b s g j e =
    let l = passes-below (conflict (site_of b) g j) g (group_count b) (conflict-past b g j) e in
    (l, bit_below (conflict_set b g) (group_count b) j (s.set g l) (sym (conflict-at b g j l) ∙ e))

-- the bit of a conflict, in the bytes
conflict-bit : (b : List ℕ) → ConflictsAccepted b → (g j : ℕ) → conflict (site_of b) g j ≡ true → bit j (conflict_set b g) ≡ true
conflict-bit b s g j e = sym (conflict-at b g j (conflict-groups b s g j e).0) ∙ e

conflict-other : (b : List ℕ) → ConflictsAccepted b → (g j : ℕ) → conflict (site_of b) g j ≡ true → g ≡ j → ⊥
conflict-other b s g j e same =
    never_both
    (subst (λ (x : ℕ). bit x (conflict_set b g) ≡ true) (sym same) (conflict-bit b s g j e))
    (s.other g (conflict-groups b s g j e).0)

conflict-back : (b : List ℕ) → ConflictsAccepted b → (g j : ℕ) → conflict (site_of b) g j ≡ true → conflict (site_of b) j g ≡ true
conflict-back b s g j e =
    let w = conflict-groups b s g j e in
    conflict-at b j g w.1 ∙ s.back g j w.0 w.1 (conflict-bit b s g j e)

conflict-phase :
    (b : List ℕ) →
    GroupsAccepted b →
    ConflictsAccepted b →
    (g j : ℕ) →
    conflict (site_of b) g j ≡ true →
    (p : ℕ) →
    in_phase (site_of b).groups g p ≡ true →
    in_phase (site_of b).groups j p ≡ true →
    ⊥
conflict-phase b t s g j e p q r =
    let w = conflict-groups b s g j e in
    never_both
    (sym (in-phase-at b j p w.1) ∙ r)
    (s.apart g j p w.0 w.1 (group-phase b t g p q).1 (conflict-bit b s g j e) (sym (in-phase-at b g p w.0) ∙ q))

-- ── The site ──

sound : (b : List ℕ) → SectionsAccepted b → Sound (site_of b)
unfolding site_of times_in
sound b s =
    record {
      phases = s.site.phases;
      groups = s.site.groups;
      detectors = s.detectors.count;
      movements = s.groups.movements;
      times = record { table = table b; table_usable = table-is-usable (edition_of b); in_table = times-in b s };
      no_early_time = λ p l. no-early-time b p;
      no_early_group = no-early-group b s;
      order_once = order-once b s.order;
      group_phase = group-phase b s.groups;
      group_mark = group-mark b s.groups;
      phase_group = phase-group b s.groups;
      detector_phase =
          λ d l. subst (λ (x : Detector). x.phase < phase_count b) (sym (detector-at b d l)) (s.detectors.phase d l);
      detector_mode = λ d l. subst (λ (x : Detector). known_mode x.mode ≡ true) (sym (detector-at b d l)) (s.detectors.mode d l);
      caller = caller b s;
      crossing = one-phase b s.groups;
      no_crossing = crosses-past b;
      movement_of_group = movement-of-group b;
      crossing_of_group = crossing-of-group b;
      conflict_groups = conflict-groups b s.conflicts;
      conflict_other = conflict-other b s.conflicts;
      conflict_back = conflict-back b s.conflicts;
      conflict_phase = conflict-phase b s.groups s.conflicts;
    }

pub accepted-is-sound : AcceptedIsSound
unfolding AcceptedIsSound
accepted-is-sound b h = sound b (sections-accepted b h)
