-- The waits of the phases and of the movements are at most the site's wait bound.
use Prim.Native.Nat.{ℕ, ◌+◌, ◌-◌, ◌≤◌, ◌<◌}
use mathlib.Core.Bool.{Bool, true, false, not, ◌&&◌}
use mathlib.Core.Path.{◌≡◌, refl}
use native.Mathlib.Omega.{arith}
use lib.Dec.{eqb}
use Rattle.rules.specs.declared.site.Site.{Site}
use Rattle.std.specs.Prelude.{if◌then◌else◌}
use Rattle.laws.specs.Folds.{greatest_of}
use Rattle.rules.specs.Site.{phase_times, walk_times, crosses}
use Rattle.rules.specs.WaitBound.{wait_bound}
use Rattle.rules.specs.Waits.{leaving_of, green_of, walk_ending, ending, turn_of, rest_of, comes_after, clearing_of, clears_first, own_of, phase_wait_by, movement_wait_by, phase_wait, movement_wait, phase_of_movement}
use Rattle.rules.specs.Laws.{Sound}
use Rattle.laws.proofs.Booleans.{and_left}
use Rattle.laws.proofs.Sums.{sum-most, sum-but, greatest-at, greatest-most}
use Rattle.rules.proofs.Settings.{walk-reached}
use Rattle.proof_waits.proofs.Stages.{longest_walk, longest_clearance, longest-walk, longest-clearance}
use Rattle.proof_waits.proofs.Left.{visit}
use Rattle.proof_waits.proofs.Bound.{again, visits, bound-parts}

-- what is not of the phase does not count
chosen-most : (b : Bool) (n most : ℕ) → (b ≡ true → n ≤ most) → (if b then n else 0) ≤ most
chosen-most true n most h = h refl
chosen-most false n most h = omega arith

chosen-least : (b : Bool) (n : ℕ) → (if b then 0 else n) ≤ n
chosen-least true n = omega arith
chosen-least false n = omega arith

module _ (site : Site) (sound : Sound site) where
  -- what ends at z, with walks that began no later than that
  ending-most :
      (p : ℕ) (such : ℕ → Bool) (z b : ℕ) →
      b ≤ z →
      ending site p such z b ≤ z + longest_walk site p + leaving_of (phase_times site.times p) + longest_clearance site p
  unfolding ending walk_ending
  ending-most p such z b early =
      let leaving = leaving_of (phase_times site.times p) in
      let most = z + longest_walk site p + leaving + longest_clearance site p in
      omega (
        arith,
        greatest-most
            (λ (k : ℕ). if crosses site.crossings k p && such k then walk_ending leaving (walk_times site.times k) z b else 0)
            site.size.movements
            most
            (λ k l.
            chosen-most (crosses site.crossings k p && such k) (walk_ending leaving (walk_times site.times k) z b) most
            (λ both.
            let c = and_left (crosses site.crossings k p) (such k) both in
            omega (arith, early, longest-walk site p k l c, longest-clearance site p k l c, (walk-reached site sound k l).walk))),
      )

  turn-visit : (p : ℕ) → turn_of site p ≤ visit site p
  unfolding turn_of visit
  turn-visit p = omega (arith, ending-most p (λ k. true) (green_of (phase_times site.times p)) 0 (omega arith))

  clearing-again : (r : ℕ) → clearing_of site r ≤ again site r
  unfolding clearing_of again
  clearing-again r = omega arith

  module _ (q : ℕ) (below : q < site.size.phases) where
    rest-visits : rest_of site (turn_of site) q + visit site q ≤ visits site
    unfolding rest_of
    rest-visits =
        omega (
          arith,
          sum-but (visit site) site.size.phases q below,
          sum-most (λ p. if eqb p q then 0 else turn_of site p) (λ p. if eqb p q then 0 else visit site p) site.size.phases
              (λ p l. less (eqb p q) p),
        )
      where
        less : (b : Bool) (p : ℕ) → (if b then 0 else turn_of site p) ≤ (if b then 0 else visit site p)
        less true p = omega arith
        less false p = turn-visit p

    first-most : clears_first site q + visits site ≤ wait_bound site
    unfolding clears_first
    first-most =
        omega (
          arith,
          bound-parts site q below,
          greatest-most (λ r. if comes_after site q r then 0 else clearing_of site r) site.size.phases
              (wait_bound site - (site.times.start + visits site))
              (λ r l.
              omega (arith, chosen-least (comes_after site q r) (clearing_of site r), clearing-again r, bound-parts site r l)),
        )

    late-visit : (phase_times site.times q).late ≤ visit site q
    unfolding visit
    late-visit = omega arith

    pub phase-wait-within : phase_wait site q ≤ wait_bound site
    unfolding phase_wait_by
    phase-wait-within = omega (arith, first-most, rest-visits, late-visit)

    module _ (m : ℕ) (l : m < site.size.movements) (c : crosses site.crossings m q ≡ true) where
      own-most : own_of site q m ≤ visit site q + again site q
      unfolding own_of visit again
      own-most =
          let others : ℕ → Bool = λ k. not (eqb k m) in
          let clearing = (walk_times site.times m).first + (walk_times site.times m).second in
          omega (
            arith,
            ending-most q others (green_of (phase_times site.times q)) 0 (omega arith),
            ending-most q others clearing clearing (omega arith),
            longest-walk site q m l c,
            longest-clearance site q m l c,
          )

      pub movement-wait-within : movement_wait site q m ≤ wait_bound site
      unfolding movement_wait_by
      movement-wait-within = omega (arith, first-most, rest-visits, own-most, bound-parts site q below)

  -- ── The phase of a movement ──

  -- a movement is of one phase, so the greatest of its phases is that one
  pub phase-of-movement : (q m : ℕ) → m < site.size.movements → crosses site.crossings m q ≡ true → phase_of_movement site m ≡ q
  unfolding phase_of_movement
  phase-of-movement q m exists crossing =
      let of = sound.crossing m exists in
      let same = of.3 q crossing in
      let each : ℕ → ℕ = λ p. if crosses site.crossings m p then p else 0 in
      let here : of.0 ≤ greatest_of each site.size.phases = rw of.2 at (greatest-at each site.size.phases of.0 of.1) in
      omega (
        arith,
        same,
        here,
        greatest-most each site.size.phases of.0
            (λ p l. chosen-most (crosses site.crossings m p) p of.0 (λ c. omega (arith, of.3 p c))),
      )
