-- One pass over the groups with a running count: before group g the array has the sets of the pedestrian groups below g, in group
-- order, and the count is how many they are. A pedestrian group adds its set at the count; at the end every movement has its own.
use Prim.Native.Nat.{ℕ, suc, ◌+◌, ◌≤◌, ◌<◌}
use mathlib.Core.List.{List, [], ◌∷◌, ◌++◌, map, map-append, append-nil}
use mathlib.Core.Path.{◌≡◌, refl, sym, ap, ◌∙◌}
use native.Mathlib.Numerals.{add-one}
use native.Mathlib.Omega.{arith}
use lib.ListN.{length, get_or, drop, set, replicate, length-map, get_or-map}
use lib.Seq.{ext_get_or}
use borrow.Author.Tests.{eq-eqb, ne_eqb}
use Rattle.laws.specs.Folds.{list_of, count_of, indices_of, row_of}
use Rattle.rules.specs.Personality.{group_count, group_set, group_mark, pedestrian, movement_count}
use Rattle.rules.specs.Site.{crossing_at, site_of}
use Rattle.laws.proofs.Counting.{indices-length, count-passed, count-failed, count-before}
use Rattle.laws.proofs.Lists.{list_length, list_at}
use Rattle.laws.proofs.Arrays.{store-more}
use Rattle.laws.proofs.Rows.{blanks-left}

-- ── The entries that a list of indices picks ──

picked : {A : Type 0} (f : ℕ → A) (indices : List ℕ) → list_of (λ k. f (get_or indices k 0)) (length indices) ≡ map f indices
picked f indices =
    ext_get_or (f 0) (list_of (λ k. f (get_or indices k 0)) (length indices)) (map f indices)
    (list_length (λ k. f (get_or indices k 0)) (length indices) ∙ sym (length-map indices f))
    (λ i l.
    list_at (λ k. f (get_or indices k 0)) (length indices) i (f 0) (omega (arith, list_length (λ k. f (get_or indices k 0)) (length indices)))
    ∙ sym (get_or-map f indices i 0))

-- ── The pass ──

-- what is known before group g
pub record Passed (b : List ℕ) (g count : ℕ) (sets : List ℕ) : Type 0 where
  pub below : count ≤ g
  pub counted : count ≡ count_of (pedestrian b) g
  pub found : sets ≡ map (group_set b) (indices_of (pedestrian b) g) ++ drop count (replicate 8 0)

module _ (b : List ℕ) where
  pub passed_none : Passed b 0 0 (replicate 8 0)
  unfolding count_of indices_of
  passed_none = record { below = omega arith; counted = refl; found = refl }

  module _ {g count mark : ℕ} {sets : List ℕ} (passed : Passed b g count sets) (read : mark ≡ group_mark b g) where
    pub passed-vehicle : (mark ≡ 2 → ⊥) → Passed b (g + 1) count sets
    unfolding indices_of pedestrian
    passed-vehicle h =
        let e = ne_eqb (group_mark b g) 2 (λ q. h (read ∙ q)) in
        record {
          below = omega (arith, passed.below);
          counted = rw add-one (passed.counted ∙ sym (count-failed (pedestrian b) g e));
          found = rw (add-one, e, append-nil) passed.found;
        }

    -- a pedestrian group's set is stored at the count
    pub passed-pedestrian : {v : ℕ} → mark ≡ 2 → v ≡ group_set b g → count < 8 → Passed b (g + 1) (count + 1) (set sets count v)
    unfolding indices_of pedestrian
    passed-pedestrian {v} h u room =
        let e = eq-eqb (group_mark b g) 2 (sym read ∙ h) in
        let before = indices_of (pedestrian b) g in
        record {
          below = omega (arith, passed.below);
          counted = rw (add-one g, add-one count) (ap suc passed.counted ∙ sym (count-passed (pedestrian b) g e));
          found =
              rw (passed.found, u, add-one g, e, map-append (group_set b) before (g ∷ []), add-one count)
              (store-more (map (group_set b) before) (replicate 8 0) count (group_set b g)
              (length-map before (group_set b) ∙ indices-length (pedestrian b) g ∙ sym passed.counted)
              room);
        }

    -- and there is room for it
    pub room-left : mark ≡ 2 → g < group_count b → movement_count b ≤ 8 → count < 8
    unfolding movement_count pedestrian
    room-left h l fits =
        let e = eq-eqb (group_mark b g) 2 (sym read ∙ h) in
        omega (arith, passed.counted, count-before (pedestrian b) g (group_count b) l e)

  -- the end: every movement has its group's set
  pub passed-whole :
      {g count : ℕ} {sets : List ℕ} → Passed b g count sets → g ≡ group_count b → (count ≡ movement_count b) × (sets ≡ (site_of b).crossings)
  unfolding site_of row_of crossing_at movement_count
  passed-whole {g} {count} {sets} passed e =
      let indices = indices_of (pedestrian b) (group_count b) in
      let row : list_of (λ k. group_set b (get_or indices k 0)) (count_of (pedestrian b) (group_count b)) ≡ map (group_set b) indices =
      rw (indices-length (pedestrian b) (group_count b)) at (picked (group_set b) indices) in
      (rw e at passed.counted, rw (row, passed.found, blanks-left {A = ℕ} count 8 0, passed.counted, e))
