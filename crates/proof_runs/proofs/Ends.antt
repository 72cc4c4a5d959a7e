-- The end of the interval in a step: when it comes, what follows it, and what it tells of another phase.
use Prim.Native.Nat.{ℕ, ◌<◌}
use mathlib.Core.Bool.{Bool, true, false, not, ◌&&◌}
use mathlib.Core.Path.{◌≡◌, refl, sym, ◌∙◌}
use lib.Dec.{eqb}
use lib.ListN.{get_or}
use borrow.Author.Tests.{eqb-true, eqb-false}
use Rattle.rules.specs.declared.site.Site.{Site}
use Rattle.rules.specs.declared.site.Times.{Times}
use Rattle.rules.specs.declared.state.Interval.{Interval}
use Rattle.rules.specs.declared.state.Interval.TheVariants.{Running, EarlyCutOff, Yellow}
use Rattle.rules.specs.declared.state.Position.{Position}
use Rattle.rules.specs.declared.state.Stage.{Stage}
use Rattle.rules.specs.declared.state.State.{State}
use Rattle.std.specs.Prelude.{if◌then◌else◌, Option}
use Rattle.rules.specs.Site.{phase_times}
use Rattle.rules.specs.IntervalTable.{is_walk_or_first, is_before_start}
use Rattle.rules.specs.State.{idle}
use Rattle.rules.specs.Demands.{next_demanded}
use Rattle.rules.specs.Interval.{some_movement, ends, entering, leaving, following, staying, position_after, starts}
use Rattle.rules.specs.Step.{stepped}
use Rattle.laws.proofs.Booleans.{and_left}
use Rattle.laws.proofs.Folds.{any_found, any_false}
use Rattle.proof_runs.proofs.Steps.{times_now, another, counted, moving, ended, now, started, moved, position-of, moved_at}

-- what holds of the position where running ends, by whether the phase has early cut-off green
pub by-early :
    (P : Position → Type 0) (times : Times) (next : Option ℕ) (position : Position) →
    ((phase_times times position.phase).early ≡ 0 → P (entering Yellow next position)) →
    (((phase_times times position.phase).early ≡ 0 → ⊥) → P (entering EarlyCutOff next position)) →
    P (leaving times next position)
unfolding leaving
by-early P times next position none some = decide (eqb (phase_times times position.phase).early 0) refl
  where
    decide :
        (test : Bool) →
        eqb (phase_times times position.phase).early 0 ≡ test →
        P (entering (if test then Yellow else EarlyCutOff) next position)
    decide true e = none (eqb-true _ 0 e)
    decide false e = some (eqb-false _ 0 e)

module _ (site : Site) (s : State) (inputs : ℕ) where
  -- the position where the interval ends
  abbrev pub followed : Position
  followed = following s.position.interval site.times (next_demanded site s inputs) s.position

  -- what holds of the position after part 4, by whether the interval ends
  pub by_end :
      (P : Position → Type 0) →
      (ended site s inputs ≡ true → P followed) →
      (ended site s inputs ≡ false → P (staying s.position)) →
      P (now site s inputs)
  unfolding now position_after
  by_end P over still = decide (ended site s inputs) refl
    where
      decide :
          (test : Bool) →
          ended site s inputs ≡ test →
          P (position_after test site.times (next_demanded site s inputs) s.position)
      decide true e = over e
      decide false e = still e

  -- ── In a known interval ──

  module _ (i : Interval) (e : s.position.interval ≡ i) where
    pub ended-in :
        ended site s inputs
        ≡ ends i site.times.start (times_now site s) s.position.age (another site s inputs) (moving site s inputs)
        (counted site s inputs)
    unfolding ended
    ended-in = rw e

    module _ (t : Bool) (h : ended site s inputs ≡ t) where
      pub now-in :
          now site s inputs
          ≡ (if t then following i site.times (next_demanded site s inputs) s.position else staying s.position)
      unfolding now position_after
      now-in = rw (h, e)

      pub next-in :
          (stepped site s inputs).position
          ≡ (if t then following i site.times (next_demanded site s inputs) s.position else staying s.position)
      next-in = position-of site s inputs ∙ now-in

      pub started-in : started site s inputs ≡ (t && is_before_start i)
      unfolding started starts
      started-in = rw (h, e)

  -- running ends only where another phase is demanded
  pub running-ends : s.position.interval ≡ Running → ended site s inputs ≡ true → another site s inputs ≡ true
  unfolding ends
  running-ends e h =
      let another = another site s inputs in
      let clear = not (some_movement is_walk_or_first (moving site s inputs)) in
      and_left another clear (and_left (another && clear) _ (sym (ended-in Running e) ∙ h))

  -- ── Movements in such a stage after part 2 ──

  module _ (test : Stage → Bool) where
    pub some-moved :
        some_movement test (moving site s inputs) ≡ true → (k : ℕ) × (k < 8) × (test (moved site s inputs k).stage ≡ true)
    unfolding some_movement
    some-moved h =
        let found = any_found (λ (k : ℕ). test (get_or (moving site s inputs) k idle).stage) 8 h in
        (found.0, found.1, rw (moved_at site s inputs found.0 found.1) at found.2)

    pub none-moved : some_movement test (moving site s inputs) ≡ false → (k : ℕ) → k < 8 → test (moved site s inputs k).stage ≡ false
    unfolding some_movement
    none-moved h k l =
        rw (moved_at site s inputs k l) at (any_false (λ (k : ℕ). test (get_or (moving site s inputs) k idle).stage) 8 k h l)
