-- Statements that show that the rules fit together: what each table of limits must provide, what is known of an accepted site, which refusals
-- there are, how long a personality and how large a wait bound can be, what the buffer holds at each point of the pass over the groups, and that
-- every phase can be called. What needs acceptance is stated over the bytes of an accepted personality.
use Rattle.std.specs.Prelude.{ℕ, ◌+◌, ◌*◌, ◌%◌, ◌^◌, ◌≤◌, ◌<◌, Bool, true, false, ◌&&◌, ◌||◌, List, ◌⊎◌, ◌≡◌, eqb, leb, length, get_or, if◌then◌else◌}
use Rattle.rules.specs.Types.{Accepted, Edition, PhaseTimes, Range, Site, Size, Times, WalkTimes, State}
use Rattle.laws.specs.Folds.{all_of, count_of}
use Rattle.rules.specs.Limits.{limits, limit_of, start_red_setting, phase_settings, walk_settings, early_setting, setting_count}
use Rattle.rules.specs.Personality.{kind_at, site_head, site_kind, known_mode, verdict_of}
use Rattle.rules.specs.Site.{site_of, group_of, detector_of, phase_times, walk_times, in_phase, crosses, is_pedestrian, movement_of, conflict}
use Rattle.rules.specs.State.{highest_age}
use Rattle.rules.specs.Demands.{demanded}
use Rattle.rules.specs.Timed.{TimedState, timed_valid}
use Rattle.rules.specs.Colours.{shown_in, buffer_at}
use Rattle.rules.specs.WaitBound.{phase_share, wait_bound}
use Rattle.rules.specs.Call.{stray_input, buffer_for}

-- ── A table of limits ──

-- the table allows the value for the setting
abbrev pub InTable : List Range → ℕ → ℕ → Type 0
InTable table setting value = ((limit_of table setting).low ≤ value) × (value ≤ (limit_of table setting).high)

pub record PhaseTimesIn (table : List Range) (times : PhaseTimes) : Type 0 where
  pub late : InTable table phase_settings times.late
  pub minimum : InTable table (phase_settings + 1) times.minimum
  pub maximum : InTable table (phase_settings + 2) times.maximum
  pub gap : InTable table (phase_settings + 3) times.gap
  pub yellow : InTable table (phase_settings + 4) times.yellow
  pub red : InTable table (phase_settings + 5) times.red
  pub early : InTable table early_setting times.early

pub record WalkTimesIn (table : List Range) (times : WalkTimes) : Type 0 where
  pub walk : InTable table walk_settings times.walk
  pub first : InTable table (walk_settings + 1) times.first
  pub second : InTable table (walk_settings + 2) times.second

-- every time setting of a site of that size is in the table
pub record TimesIn (table : List Range) (size : Size) (times : Times) : Type 0 where
  pub start : InTable table start_red_setting times.start
  pub phase : (p : ℕ) → p < size.phases → PhaseTimesIn table (phase_times times p)
  pub walk : (k : ℕ) → k < size.movements → WalkTimesIn table (walk_times times k)

unfoldable pub highest : List Range → ℕ → ℕ
highest table setting = (limit_of table setting).high

-- the times of a phase and of a movement with every setting at its highest
unfoldable pub highest_phase : List Range → PhaseTimes
highest_phase table =
    record {
      late = highest table phase_settings;
      minimum = highest table (phase_settings + 1);
      maximum = highest table (phase_settings + 2);
      gap = highest table (phase_settings + 3);
      yellow = highest table (phase_settings + 4);
      red = highest table (phase_settings + 5);
      early = highest table early_setting;
    }

unfoldable pub highest_walk : List Range → WalkTimes
highest_walk table =
    record {
      walk = highest table walk_settings;
      first = highest table (walk_settings + 1);
      second = highest table (walk_settings + 2);
    }

unfoldable pub greatest_share : List Range → ℕ
greatest_share table =
    let longest = highest_walk table in
    phase_share (highest_phase table) (longest.walk + longest.first) longest.second

-- the wait bound of seven such phases
unfoldable pub greatest_wait : List Range → ℕ
greatest_wait table = highest table start_red_setting + 7 * greatest_share table

-- late start, gap and early cut-off green
unfoldable pub may_be_zero : ℕ → Bool
may_be_zero setting = eqb setting phase_settings || eqb setting (phase_settings + 3) || eqb setting early_setting

-- an age can reach the setting; the lowest value is 0 if it may be 0, and one step at least if not
unfoldable pub timely : List Range → ℕ → Bool
timely table setting =
    let lowest = (limit_of table setting).low in
    leb (highest table setting) highest_age && (if may_be_zero setting then eqb lowest 0 else leb 1 lowest)

-- What the theorems and the code need of a table, as a test: each setting is timely, and the greatest wait fits in two bytes.
unfoldable pub usable : List Range → Bool
usable table = all_of (timely table) setting_count && leb (greatest_wait table) 65535

-- the table of each edition is
abbrev pub TableIsUsable : Type 0
TableIsUsable = (edition : Edition) → usable (limits edition) ≡ true

-- ── What is known of an accepted site ──

-- all times of a site of that size are in one table, and the table is usable
pub record SoundTimes (size : Size) (times : Times) : Type 0 where
  pub table : List Range
  pub table_usable : usable table ≡ true
  pub in_table : TimesIn table size times

-- the one phase of a movement
abbrev pub OnePhase : Site → ℕ → Type 0
OnePhase site k = (p : ℕ) × (p < site.size.phases) × (crosses site.crossings k p ≡ true) × ((q : ℕ) → crosses site.crossings k q ≡ true → q ≡ p)

-- a detector calls the phase, with lock or without, or the phase has a movement
abbrev pub Caller : Site → ℕ → Type 0
Caller site p =
    ((d : ℕ) × (d < site.size.detectors) × ((detector_of site.detectors d).phase ≡ p) × ((detector_of site.detectors d).mode % 4 ≡ 0 → ⊥))
    ⊎ ((k : ℕ) × (k < site.size.movements) × (crosses site.crossings k p ≡ true))

-- What acceptance tells of the site that the bytes hold. A comment gives the refusal that each fact comes from, so that the record says what
-- every check of the reader is for. Proofs use most of the facts. Five are here for that list alone: group_phase, group_mark, phase_group,
-- conflict_other and conflict_back.
pub record Sound (site : Site) : Type 0 where
  -- 4, 3 and 7: the counts
  pub phases : (2 ≤ site.size.phases) × (site.size.phases ≤ 7)
  pub groups : (1 ≤ site.size.groups) × (site.size.groups ≤ 32)
  pub detectors : site.size.detectors ≤ 48
  pub movements : site.size.movements ≤ 8
  -- 5: the times
  pub times : SoundTimes site.size site.times
  -- 17: without a section of kind 7 no phase has early cut-off green, and no group stops early
  pub no_early_time : (p : ℕ) → p < site.size.phases → site.early ≡ false → (phase_times site.times p).early ≡ 0
  pub no_early_group : (g : ℕ) → site.early ≡ false → (group_of site.groups g).mark ≡ 3 → ⊥
  -- 18: each phase is in the running order exactly once
  pub order_once : (p : ℕ) → p < site.size.phases → count_of (λ i. eqb (get_or site.order i 0) p) site.size.phases ≡ 1
  -- 6: groups are of phases that exist, and their marks are known
  pub group_phase : (g p : ℕ) → in_phase site.groups g p ≡ true → (g < site.size.groups) × (p < site.size.phases)
  pub group_mark : (g : ℕ) → (group_of site.groups g).mark ≤ 3
  -- 8: each phase has a group
  pub phase_group : (p : ℕ) → p < site.size.phases → (g : ℕ) × (g < site.size.groups) × (in_phase site.groups g p ≡ true)
  -- 11: detectors are of phases that exist, and their modes are known
  pub detector_phase : (d : ℕ) → d < site.size.detectors → (detector_of site.detectors d).phase < site.size.phases
  pub detector_mode : (d : ℕ) → d < site.size.detectors → known_mode (detector_of site.detectors d).mode ≡ true
  -- 21: each phase has a caller
  pub caller : (p : ℕ) → p < site.size.phases → Caller site p
  -- 6: a movement has one phase, and there is no movement past the count
  pub crossing : (k : ℕ) → k < site.size.movements → OnePhase site k
  pub no_crossing : (k p : ℕ) → site.size.movements ≤ k → crosses site.crossings k p ≡ false
  -- a pedestrian group has a movement, which is of the group's phase
  pub movement_of_group : (g : ℕ) → g < site.size.groups → is_pedestrian site.groups g ≡ true → movement_of site.groups g < site.size.movements
  pub crossing_of_group :
      (g : ℕ) →
      g < site.size.groups →
      is_pedestrian site.groups g ≡ true →
      (p : ℕ) →
      crosses site.crossings (movement_of site.groups g) p ≡ in_phase site.groups g p
  -- 9: conflicts are between groups that exist, never of a group with itself, and symmetric
  pub conflict_groups : (g j : ℕ) → conflict site g j ≡ true → (g < site.size.groups) × (j < site.size.groups)
  pub conflict_other : (g j : ℕ) → conflict site g j ≡ true → g ≡ j → ⊥
  pub conflict_back : (g j : ℕ) → conflict site g j ≡ true → conflict site j g ≡ true
  -- 10: conflicting groups share no phase
  pub conflict_phase : (g j : ℕ) → conflict site g j ≡ true → (p : ℕ) → in_phase site.groups g p ≡ true → in_phase site.groups j p ≡ true → ⊥

unfoldable pub AcceptedIsSound : Type 0
AcceptedIsSound = (b : List ℕ) → verdict_of b ≡ Accepted → Sound (site_of b)

-- its first section has the kind of its edition: 1 is edition one, 8 is edition two
unfoldable pub EditionIsNamed : Type 0
EditionIsNamed = (b : List ℕ) → verdict_of b ≡ Accepted → kind_at b site_head ≡ site_kind (site_of b).edition

-- its times are in the table of that edition
unfoldable pub AcceptedIsInTable : Type 0
AcceptedIsInTable = (b : List ℕ) → verdict_of b ≡ Accepted → TimesIn (limits (site_of b).edition) (site_of b).size (site_of b).times

-- ── Refusals ──

-- the numbers of the personality's checks, and those of a step call
abbrev pub reading_number : ℕ → Bool
reading_number number = (leb 1 number && leb number 12) || eqb number 17 || eqb number 18 || eqb number 21

abbrev pub step_number : ℕ → Bool
step_number number = leb 13 number && leb number 15

-- a section's head and its records
abbrev pub section_length : ℕ → ℕ → ℕ
section_length count width = 4 + count * width

-- the longest personality: the site, 7 phases, 32 groups, their conflicts, 48 detectors, 8 pedestrian groups, the times of kind 7 and the
-- order of 7 phases
abbrev pub greatest_length : ℕ
greatest_length =
    section_length 1 4
    + section_length 7 12
    + section_length 32 2
    + section_length 32 4
    + section_length 48 2
    + section_length 8 6
    + section_length 7 2
    + section_length 7 1

-- that is 477 bytes, and no accepted personality is longer
unfoldable pub AcceptedIsShort : Type 0
AcceptedIsShort = (greatest_length ≡ 477) × ((b : List ℕ) → verdict_of b ≡ Accepted → length b ≤ greatest_length)

-- a place of the personality: inside the bytes or just past their end, and not above the length of the longest personality
abbrev pub PlaceIn : List ℕ → ℕ → Type 0
PlaceIn b place = (place ≤ length b) × (place ≤ greatest_length)

-- a number of the personality's checks with a place of the personality, or a number of a step call at 0
abbrev pub Written : List ℕ → ℕ → ℕ → Type 0
Written b number place =
    ((reading_number number ≡ true) × PlaceIn b place) ⊎ ((step_number number ≡ true) × (place ≡ 0))

-- ── The wait bound ──

-- the greatest wait bound, in steps
abbrev pub greatest_bound : ℕ
greatest_bound = 37950

-- the table of each edition gives this one, and no accepted personality has a greater wait bound
unfoldable pub WaitIsInTable : Type 0
WaitIsInTable =
    ((edition : Edition) → greatest_wait (limits edition) ≡ greatest_bound)
    × ((b : List ℕ) → verdict_of b ≡ Accepted → wait_bound (site_of b) ≤ greatest_bound)

-- ── The pass of the group list ──

-- after g groups, byte by byte: their bytes are what they show, every other byte is as handed in, and the length is the same
unfoldable pub PassedBytes : Type 0
PassedBytes =
    (shown : ℕ → ℕ) (buffer : List ℕ) (g : ℕ) →
    g ≤ length buffer →
    ((i : ℕ) → i < g → get_or (buffer_at shown buffer g) i 0 ≡ shown i)
    × ((i : ℕ) → g ≤ i → get_or (buffer_at shown buffer g) i 0 ≡ get_or buffer i 0)
    × (length (buffer_at shown buffer g) ≡ length buffer)

-- after all groups the buffer is that of an accepted step
unfoldable pub PassEndsInColours : Type 0
PassEndsInColours =
    (site : Site) (s : State) (buffer : List ℕ) →
    buffer_at (shown_in site s) buffer site.size.groups ≡ buffer_for Accepted site s buffer

-- ── Every phase can be called ──

-- From every valid state, for each phase other than the phase of the state, there are 64 input bits, none of them stray, that demand it. (The only
-- caller of the phase of the state may be a movement in walk.)
unfoldable pub PhasesCanBeCalled : Type 0
PhasesCanBeCalled =
    (b : List ℕ) →
    verdict_of b ≡ Accepted →
    (s : TimedState) →
    timed_valid (site_of b) s ≡ true →
    (p : ℕ) →
    p < (site_of b).size.phases →
    (p ≡ s.core.position.phase → ⊥) →
    (inputs : ℕ) × (inputs < 2 ^ 64) × (stray_input (site_of b) inputs ≡ false) × (demanded (site_of b) s.core inputs p ≡ true)
