-- Times that a site may have: what the test of them tells and what it needs. A sound site with such times is sound.
use Prim.Native.Nat.{ℕ, suc, ◌≤◌, ◌<◌}
use mathlib.Core.Bool.{Bool, true, false, ◌&&◌, ◌||◌}
use mathlib.Core.List.{List, [], ◌∷◌}
use mathlib.Core.Logic.{⊎_elim}
use mathlib.Core.Path.{◌≡◌, refl}
use native.Mathlib.Omega.{arith}
use lib.Dec.{leb, eqb}
use borrow.Author.Tests.{leb-true, le-leb, lt-ltb, le-ltb, eqb-true, eq-eqb}
use Rattle.rules.specs.declared.site.PhaseTimes.{PhaseTimes}
use Rattle.rules.specs.declared.site.Range.{Range}
use Rattle.rules.specs.declared.site.Site.{Site}
use Rattle.rules.specs.declared.site.Times.{Times}
use Rattle.rules.specs.declared.site.WalkTimes.{WalkTimes}
use Rattle.laws.specs.Folds.{all_of}
use Rattle.rules.specs.Limits.{limits, limit_of, within, start_red_setting, phase_settings, early_setting}
use Rattle.rules.specs.Site.{no_phase_times, no_walk_times, phase_times, walk_times, conflict}
use Rattle.rules.specs.SiteTimes.{under, record_limits, each_within, phase_within, walk_within, times_within, admitted}
use Rattle.rules.specs.Laws.{InTable, PhaseTimesIn, WalkTimesIn, TimesIn, Sound}
use Rattle.laws.proofs.Booleans.{and_left, and_right, and_both}
use Rattle.laws.proofs.Folds.{all-at, all-each}
use Rattle.laws.proofs.Indices.{below-or-past}
use Rattle.rules.proofs.Settings.{table-is-usable}

-- ── One setting, and the settings of a phase and of a movement ──

module _ (table : List Range) where
  within-told : (setting value : ℕ) → within table setting value ≡ true → InTable table setting value
  unfolding within
  within-told setting value h =
      let low = leb (limit_of table setting).low value in
      (leb-true _ _ (and_left low _ h), leb-true _ _ (and_right low _ h))

  within-holds : (setting value : ℕ) → InTable table setting value → within table setting value ≡ true
  unfolding within
  within-holds setting value h = and_both (le-leb _ _ h.0) (le-leb _ _ h.1)

  each-head : (setting value : ℕ) (values : List ℕ) → each_within table setting (value ∷ values) ≡ true → InTable table setting value
  unfolding each_within
  each-head setting value values h = within-told setting value (and_left (within table setting value) _ h)

  each_tail : (setting value : ℕ) (values : List ℕ) → each_within table setting (value ∷ values) ≡ true → each_within table (suc setting) values ≡ true
  unfolding each_within
  each_tail setting value values h = and_right (within table setting value) _ h

  -- without a section of kind 7 the time of early cut-off green is 0
  abbrev EarlyOnly : Bool → PhaseTimes → Type 0
  EarlyOnly early times = early ≡ false → times.early ≡ 0

  phase-told : (early : Bool) (times : PhaseTimes) → phase_within table early times ≡ true → PhaseTimesIn table times × EarlyOnly early times
  unfolding phase_within
  phase-told early times h =
      let settings = times.late ∷ times.minimum ∷ times.maximum ∷ times.gap ∷ times.yellow ∷ times.red ∷ [] in
      let each = each_within table phase_settings settings in
      let last = within table early_setting times.early in
      let front = and_left (each && last) _ h in
      let h0 = and_left each last front in
      let h1 = each_tail _ _ _ h0 in
      let h2 = each_tail _ _ _ h1 in
      let h3 = each_tail _ _ _ h2 in
      let h4 = each_tail _ _ _ h3 in
      let h5 = each_tail _ _ _ h4 in (
        record {
          late = each-head _ _ _ h0;
          minimum = each-head _ _ _ h1;
          maximum = each-head _ _ _ h2;
          gap = each-head _ _ _ h3;
          yellow = each-head _ _ _ h4;
          red = each-head _ _ _ h5;
          early = within-told _ _ (and_right each last front);
        },
        λ without. eqb-true _ 0 (rw without at (and_right (each && last) _ h)),
      )

  phase-holds : (early : Bool) (times : PhaseTimes) → PhaseTimesIn table times → EarlyOnly early times → phase_within table early times ≡ true
  unfolding phase_within each_within
  phase-holds early times h none =
      and_both
      (and_both
      (and_both (within-holds _ _ h.late)
      (and_both (within-holds _ _ h.minimum)
      (and_both (within-holds _ _ h.maximum)
      (and_both (within-holds _ _ h.gap)
      (and_both (within-holds _ _ h.yellow) (and_both (within-holds _ _ h.red) refl))))))
      (within-holds _ _ h.early))
      (only early none)
    where
      only : (early : Bool) → EarlyOnly early times → (early || eqb times.early 0) ≡ true
      only true none = refl
      only false none = eq-eqb _ 0 (none refl)

  walk-told : (times : WalkTimes) → walk_within table times ≡ true → WalkTimesIn table times
  unfolding walk_within
  walk-told times h0 =
      let h1 = each_tail _ _ _ h0 in
      let h2 = each_tail _ _ _ h1 in
      record {
        walk = each-head _ _ _ h0;
        first = each-head _ _ _ h1;
        second = each-head _ _ _ h2;
      }

  walk-holds : (times : WalkTimes) → WalkTimesIn table times → walk_within table times ≡ true
  unfolding walk_within each_within
  walk-holds times h =
      and_both (within-holds _ _ h.walk) (and_both (within-holds _ _ h.first) (and_both (within-holds _ _ h.second) refl))

-- a record that the site does not have
pub phase-blank : (early : Bool) → phase_within [] early no_phase_times ≡ true
unfolding phase_within each_within within limit_of
phase-blank true = refl
phase-blank false = refl

pub walk-blank : walk_within [] no_walk_times ≡ true
unfolding walk_within each_within within limit_of
walk-blank = refl

-- an empty table allows only 0
none_told : (setting value : ℕ) → InTable [] setting value → value ≡ 0
unfolding limit_of
none_told setting value h = omega (arith, h.1)

phase-none : (times : PhaseTimes) → PhaseTimesIn [] times → times ≡ no_phase_times
phase-none times h =
    rw (
      none_told _ times.late h.late,
      none_told _ times.minimum h.minimum,
      none_told _ times.maximum h.maximum,
      none_told _ times.gap h.gap,
      none_told _ times.yellow h.yellow,
      none_told _ times.red h.red,
      none_told _ times.early h.early,
    )

walk_none : (times : WalkTimes) → WalkTimesIn [] times → times ≡ no_walk_times
walk_none times h = rw (none_told _ times.walk h.walk, none_told _ times.first h.first, none_told _ times.second h.second)

-- ── The times of a site ──

-- all that the test says
pub record Admitted (site : Site) (times : Times) : Type 0 where
  pub in_table : TimesIn (limits site.edition) site.size times
  pub no_early : (p : ℕ) → p < site.size.phases → site.early ≡ false → (phase_times times p).early ≡ 0
  pub no_phase : (p : ℕ) → site.size.phases ≤ p → p < 7 → phase_times times p ≡ no_phase_times
  pub no_walk : (k : ℕ) → site.size.movements ≤ k → k < 8 → walk_times times k ≡ no_walk_times

module _ (site : Site) (times : Times) where
  abbrev phase_test : List Range → ℕ → Bool
  phase_test table p = phase_within (record_limits table site.size.phases p) site.early (phase_times times p)

  abbrev walk_test : List Range → ℕ → Bool
  walk_test table k = walk_within (record_limits table site.size.movements k) (walk_times times k)

  -- the three parts of the test
  pub within-parts :
      (table : List Range) →
      times_within table site times ≡ true →
      (within table start_red_setting times.start ≡ true) × (all_of (phase_test table) 7 ≡ true) × (all_of (walk_test table) 8 ≡ true)
  unfolding times_within
  within-parts table h =
      let start = within table start_red_setting times.start in
      let phases = all_of (phase_test table) 7 in
      let front = and_left (start && phases) (all_of (walk_test table) 8) h in
      (and_left start phases front, and_right start phases front, and_right (start && phases) (all_of (walk_test table) 8) h)

  pub admitted-told : site.size.phases ≤ 7 → site.size.movements ≤ 8 → admitted site times ≡ true → Admitted site times
  unfolding admitted
  admitted-told seven eight ok =
      let table = limits site.edition in
      let parts = within-parts table ok in
      let phases = parts.1 in
      let walks = parts.2 in
      let phase : (p : ℕ) → p < site.size.phases → phase_within table site.early (phase_times times p) ≡ true = λ p l.
      rw (lt-ltb p site.size.phases l) at (all-at (phase_test table) 7 p phases (omega arith)) in
      let walk : (k : ℕ) → k < site.size.movements → walk_within table (walk_times times k) ≡ true = λ k l.
      rw (lt-ltb k site.size.movements l) at (all-at (walk_test table) 8 k walks (omega arith)) in
      record {
        in_table =
            record {
              start = within-told table _ _ parts.0;
              phase = λ p l. (phase-told table site.early (phase_times times p) (phase p l)).0;
              walk = λ k l. walk-told table (walk_times times k) (walk k l);
            };
        no_early = λ p l. (phase-told table site.early (phase_times times p) (phase p l)).1;
        no_phase = λ p l m.
            phase-none (phase_times times p)
            (phase-told [] site.early (phase_times times p) (rw (le-ltb p site.size.phases l) at (all-at (phase_test table) 7 p phases m))).0;
        no_walk = λ k l m.
            walk_none (walk_times times k)
            (walk-told [] (walk_times times k) (rw (le-ltb k site.size.movements l) at (all-at (walk_test table) 8 k walks m)));
      }

  pub admitted-holds :
      Admitted site times →
      admitted site times ≡ true
  unfolding admitted times_within
  admitted-holds a =
      let table = limits site.edition in
      and_both
      (and_both (within-holds table _ _ a.in_table.start)
      (all-each (phase_test table) 7
      (λ p l.
      ⊎_elim
      (λ (h : p < site.size.phases).
      rw (lt-ltb p site.size.phases h) (phase-holds table site.early (phase_times times p) (a.in_table.phase p h) (a.no_early p h)))
      (λ (h : site.size.phases ≤ p). rw (le-ltb p site.size.phases h, a.no_phase p h l) (phase-blank site.early))
      (below-or-past p site.size.phases))))
      (all-each (walk_test table) 8
      (λ k l.
      ⊎_elim
      (λ (h : k < site.size.movements). rw (lt-ltb k site.size.movements h) (walk-holds table (walk_times times k) (a.in_table.walk k h)))
      (λ (h : site.size.movements ≤ k). rw (le-ltb k site.size.movements h, a.no_walk k h l) walk-blank)
      (below-or-past k site.size.movements)))

  module _ (sound : Sound site) (ok : admitted site times ≡ true) where
    pub admitted-is-sound : Sound (under site times)
    unfolding conflict
    admitted-is-sound =
        let told = admitted-told sound.phases.1 sound.movements ok in
        record {
          phases = sound.phases;
          groups = sound.groups;
          detectors = sound.detectors;
          movements = sound.movements;
          times = record { table = limits site.edition; table_usable = table-is-usable site.edition; in_table = told.in_table };
          no_early_time = told.no_early;
          no_early_group = sound.no_early_group;
          order_once = sound.order_once;
          group_phase = sound.group_phase;
          group_mark = sound.group_mark;
          phase_group = sound.phase_group;
          detector_phase = sound.detector_phase;
          detector_mode = sound.detector_mode;
          caller = sound.caller;
          crossing = sound.crossing;
          no_crossing = sound.no_crossing;
          movement_of_group = sound.movement_of_group;
          crossing_of_group = sound.crossing_of_group;
          conflict_groups = sound.conflict_groups;
          conflict_other = sound.conflict_other;
          conflict_back = sound.conflict_back;
          conflict_phase = sound.conflict_phase;
        }
