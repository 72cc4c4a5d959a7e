-- What the times of a sound site give every proof: each is one that an age can reach, and all but late start, gap and early cut-off green
-- are one step at least. Shown for any table of limits by the one test that it is usable, read off at each setting; the table of each edition
-- passes it.
use Prim.Native.Nat.{ℕ, ◌+◌, ◌≤◌, ◌<◌}
use mathlib.Core.Bool.{true, false}
use mathlib.Core.List.{List}
use mathlib.Core.Path.{◌≡◌, refl}
use lib.Dec.{leb, eqb}
use native.Mathlib.Omega.{arith}
use borrow.Author.Tests.{leb-true, eqb-true}
use Rattle.rules.specs.Types.{One, Two, PhaseTimes, Range, Site, WalkTimes}
use Rattle.std.specs.Prelude.{if◌then◌else◌}
use Rattle.laws.specs.Folds.{all_of}
use Rattle.rules.specs.Limits.{limits, limit_of, start_red_setting, phase_settings, walk_settings, early_setting, setting_count}
use Rattle.rules.specs.Site.{phase_times, walk_times}
use Rattle.rules.specs.State.{highest_age}
use Rattle.rules.specs.WaitBound.{phase_share}
use Rattle.rules.specs.Laws.{InTable, PhaseTimesIn, WalkTimesIn, Sound, highest, highest_phase, highest_walk, greatest_share, greatest_wait, may_be_zero, timely, usable, TableIsUsable}
use Rattle.laws.proofs.Booleans.{and_left, and_right}
use Rattle.laws.proofs.Folds.{all-at}

pub table-is-usable : TableIsUsable
unfolding usable timely all_of may_be_zero highest highest_phase highest_walk greatest_share greatest_wait phase_share limit_of limits
table-is-usable One = refl
table-is-usable Two = refl

-- a setting that is counted: one step at least, and an age can reach it
abbrev pub Counted : ℕ → Type 0
Counted time = (1 ≤ time) × (time ≤ highest_age)

pub record Timed (times : PhaseTimes) : Type 0 where
  pub late : times.late ≤ highest_age
  pub minimum : Counted times.minimum
  pub maximum : Counted times.maximum
  pub gap : times.gap ≤ highest_age
  pub yellow : Counted times.yellow
  pub red : Counted times.red
  pub early : times.early ≤ highest_age

pub record Reached (times : WalkTimes) : Type 0 where
  pub walk : Counted times.walk
  pub first : Counted times.first
  pub second : Counted times.second

-- ── Any usable table ──

module _ (table : List Range) (passed : usable table ≡ true) where
  tested : (all_of (timely table) setting_count ≡ true) × (leb (greatest_wait table) 65535 ≡ true)
  unfolding usable
  tested = (and_left (all_of (timely table) setting_count) _ passed, and_right (all_of (timely table) setting_count) _ passed)

  told :
      (setting : ℕ) →
      setting < setting_count →
      let lowest = (limit_of table setting).low in
      (leb (highest table setting) highest_age ≡ true) × ((if may_be_zero setting then eqb lowest 0 else leb 1 lowest) ≡ true)
  unfolding timely
  told setting l =
      let test = all-at (timely table) setting_count setting tested.0 l in
      (and_left (leb (highest table setting) highest_age) _ test, and_right (leb (highest table setting) highest_age) _ test)

  reached : (setting : ℕ) {time : ℕ} → setting < setting_count → InTable table setting time → time ≤ highest_age
  unfolding highest
  reached setting l h = omega (arith, leb-true (highest table setting) highest_age (told setting l).0)

  counted : (setting : ℕ) {time : ℕ} → setting < setting_count → may_be_zero setting ≡ false → InTable table setting time → Counted time
  counted setting l some h = (omega (arith, leb-true 1 (limit_of table setting).low (rw some at (told setting l).1)), reached setting l h)

  pub zero-allowed : (setting : ℕ) → setting < setting_count → may_be_zero setting ≡ true → InTable table setting 0
  zero-allowed setting l none = let e = eqb-true (limit_of table setting).low 0 (rw none at (told setting l).1) in (omega arith, omega arith)

  phase-told : {times : PhaseTimes} → PhaseTimesIn table times → Timed times
  unfolding may_be_zero
  phase-told h =
      record {
        late = reached phase_settings (omega arith) h.late;
        minimum = counted (phase_settings + 1) (omega arith) refl h.minimum;
        maximum = counted (phase_settings + 2) (omega arith) refl h.maximum;
        gap = reached (phase_settings + 3) (omega arith) h.gap;
        yellow = counted (phase_settings + 4) (omega arith) refl h.yellow;
        red = counted (phase_settings + 5) (omega arith) refl h.red;
        early = reached early_setting (omega arith) h.early;
      }

  pub walk-told : {times : WalkTimes} → WalkTimesIn table times → Reached times
  unfolding may_be_zero
  walk-told h =
      record {
        walk = counted walk_settings (omega arith) refl h.walk;
        first = counted (walk_settings + 1) (omega arith) refl h.first;
        second = counted (walk_settings + 2) (omega arith) refl h.second;
      }

  start-told : {time : ℕ} → InTable table start_red_setting time → Counted time
  unfolding may_be_zero
  start-told h = counted start_red_setting (omega arith) refl h

  pub wait-two-bytes : greatest_wait table ≤ 65535
  wait-two-bytes = leb-true (greatest_wait table) 65535 tested.1

-- ── A sound site ──

module _ (site : Site) (sound : Sound site) where
  pub phase-timed : (p : ℕ) → p < site.size.phases → Timed (phase_times site.times p)
  phase-timed p l = phase-told sound.times.table sound.times.table_usable (sound.times.in_table.phase p l)

  pub walk-reached : (k : ℕ) → k < site.size.movements → Reached (walk_times site.times k)
  walk-reached k l = walk-told sound.times.table sound.times.table_usable (sound.times.in_table.walk k l)

  pub start-timed : Counted site.times.start
  start-timed = start-told sound.times.table sound.times.table_usable sound.times.in_table.start
