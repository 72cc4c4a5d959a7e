-- The tests of a record that the site does not have, and of times that are all 0.
use Prim.Native.Nat.{ℕ, ◌<◌}
use mathlib.Core.Bool.{Bool, true, false, ◌&&◌, ◌||◌, and-true, and_assoc}
use mathlib.Core.List.{List, []}
use mathlib.Core.Path.{◌≡◌, refl, sym, ap, ◌∙◌}
use native.Mathlib.Omega.{arith}
use lib.Dec.{eqb, ltb}
use lib.ListN.{get_or}
use borrow.Author.Tests.{le-ltb}
use Rattle.rules.specs.declared.site.PhaseTimes.{PhaseTimes}
use Rattle.rules.specs.declared.site.Range.{Range}
use Rattle.rules.specs.declared.site.Site.{Site}
use Rattle.rules.specs.declared.site.Times.{Times}
use Rattle.rules.specs.declared.site.WalkTimes.{WalkTimes}
use Rattle.std.specs.Prelude.{if◌then◌else◌}
use Rattle.laws.specs.Folds.{all_of}
use Rattle.rules.specs.Limits.{limits, within}
use Rattle.rules.specs.Site.{no_phase_times, no_walk_times, phase_times, walk_times}
use Rattle.rules.specs.SiteTimes.{record_limits, each_within, phase_within, walk_within, times_within, admitted, blank}
use Rattle.laws.proofs.Folds.{fold_same}
use Rattle.base_limits.proofs.Past.{past-the-table}

-- ── One record ──

-- past the table only 0 is allowed
zero : (setting value : ℕ) → eqb value 0 ≡ within [] setting value
zero setting value = past-the-table [] setting value (omega arith)

pub phase-absent :
    (early : Bool) (t : PhaseTimes) →
    (eqb t.late 0 && eqb t.minimum 0 && eqb t.maximum 0 && eqb t.gap 0 && eqb t.yellow 0 && eqb t.red 0 && eqb t.early 0)
    ≡ phase_within [] early t
unfolding phase_within each_within
phase-absent early t =
    rw (
      ← zero 1 t.late,
      ← zero 2 t.minimum,
      ← zero 3 t.maximum,
      ← zero 4 t.gap,
      ← zero 5 t.yellow,
      ← zero 6 t.red,
      ← zero 10 t.early,
    )
    (simp (and_assoc, and-true, last early (eqb t.early 0)))
  where
    last : (a z : Bool) → (z && (a || z)) ≡ z
    last true true = refl
    last true false = refl
    last false true = refl
    last false false = refl

pub walk-absent : (t : WalkTimes) → (eqb t.walk 0 && eqb t.first 0 && eqb t.second 0) ≡ walk_within [] t
unfolding walk_within each_within
walk-absent t = rw (← zero 7 t.walk, ← zero 8 t.first, ← zero 9 t.second) (simp (and_assoc, and-true))

-- the settings of a record, tested from the left
pub phase-joined :
    (table : List Range) (early : Bool) (t : PhaseTimes) →
    (within table 1 t.late
    && within table 2 t.minimum
    && within table 3 t.maximum
    && within table 4 t.gap
    && within table 5 t.yellow
    && within table 6 t.red
    && within table 10 t.early
    && (early || eqb t.early 0))
    ≡ phase_within table early t
unfolding phase_within each_within
phase-joined table early t = simp (and_assoc, and-true)

pub walk-joined :
    (table : List Range) (t : WalkTimes) →
    (within table 7 t.walk && within table 8 t.first && within table 9 t.second) ≡ walk_within table t
unfolding walk_within each_within
walk-joined table t = simp (and_assoc, and-true)

-- ── All times ──

-- a site without records is held to the empty table
none_below : {A : Type 0} (table : List A) (i : ℕ) → (if ltb i 0 then table else []) ≡ []
none_below table i = rw (le-ltb i 0 (omega arith))

same-record : {A : Type 0} (t : Bool) → ◌≡◌ {A = List A} (if t then [] else []) []
same-record true = refl
same-record false = refl

pub all_same : (f g : ℕ → Bool) (n : ℕ) → ((i : ℕ) → i < n → f i ≡ g i) → all_of f n ≡ all_of g n
unfolding all_of
all_same = fold_same all_of (λ f g. refl) (λ f g n front last. rw (front, last))

blank-phases :
    (table : List Range) (n : ℕ) (early : Bool) (l : List PhaseTimes) →
    all_of (λ p. phase_within (record_limits table 0 p) early (get_or l p no_phase_times)) 7
    ≡ all_of (λ p. phase_within (record_limits [] n p) early (get_or l p no_phase_times)) 7
blank-phases table n early l =
    all_same
    (λ p. phase_within (record_limits table 0 p) early (get_or l p no_phase_times))
    (λ p. phase_within (record_limits [] n p) early (get_or l p no_phase_times))
    7
    (λ p h. ap (λ (own : List Range). phase_within own early (get_or l p no_phase_times)) (none_below table p ∙ sym (same-record (ltb p n))))

blank-walks :
    (table : List Range) (n : ℕ) (l : List WalkTimes) →
    all_of (λ k. walk_within (record_limits table 0 k) (get_or l k no_walk_times)) 8
    ≡ all_of (λ k. walk_within (record_limits [] n k) (get_or l k no_walk_times)) 8
blank-walks table n l =
    all_same
    (λ k. walk_within (record_limits table 0 k) (get_or l k no_walk_times))
    (λ k. walk_within (record_limits [] n k) (get_or l k no_walk_times))
    8
    (λ k h. ap (λ (own : List Range). walk_within own (get_or l k no_walk_times)) (none_below table k ∙ sym (same-record (ltb k n))))

module _ (site : Site) (times : Times) where
  pub blank-tested :
      (eqb times.start 0
      && all_of (λ p. phase_within (record_limits (limits site.edition) 0 p) site.early (get_or times.phases p no_phase_times)) 7
      && all_of (λ k. walk_within (record_limits (limits site.edition) 0 k) (get_or times.walks k no_walk_times)) 8)
      ≡ blank site times
  unfolding blank times_within phase_times walk_times
  blank-tested =
      rw (
        blank-phases (limits site.edition) site.size.phases site.early times.phases,
        blank-walks (limits site.edition) site.size.movements times.walks,
        zero 0 times.start,
      )

  pub admitted-tested :
      (within (limits site.edition) 0 times.start
      && all_of (λ p. phase_within (record_limits (limits site.edition) site.size.phases p) site.early (get_or times.phases p no_phase_times)) 7
      && all_of (λ k. walk_within (record_limits (limits site.edition) site.size.movements k) (get_or times.walks k no_walk_times)) 8)
      ≡ admitted site times
  unfolding admitted times_within phase_times walk_times
  admitted-tested = refl
