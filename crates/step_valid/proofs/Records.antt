-- A movement record passes by whether it is idle.
use Rattle.std.proofs.Common.{◌≡◌, ℕ, ◌<◌, Bool, true, false, not, ◌&&◌, List, eqb, ltb, length, get_or, ap, ◌∙◌}
use mathlib.Core.Bool.{and_assoc, and-true, and-false, or-true, or-false}
use mathlib.Core.Logic.{⊎_elim}
use borrow.Author.Tests.{eqb-true}
use Rattle.rules.specs.declared.state.Interval.{Interval}
use Rattle.rules.specs.declared.state.Movement.{Movement}
use Rattle.rules.specs.IntervalTable.{is_idle, is_walk_or_first, is_leaving, is_start_red}
use Rattle.rules.specs.declared.state.Position.{Position}
use Rattle.rules.specs.Site.{crosses}
use Rattle.rules.specs.State.{idle, age_valid, movement_valid}
use Rattle.laws.proofs.Booleans.{decided}
use Rattle.laws.proofs.Lists.{entry-same}
use Rattle.rules.proofs.IntervalTests.{idle-not-walking}

module _ (of-phase : Bool) (interval : Interval) (m : Movement) where
  -- an idle record passes at age 1 alone, wherever it is
  pub idle_valid : is_idle m.stage ≡ true → eqb m.age 1 ≡ movement_valid of-phase interval m
  unfolding movement_valid age_valid
  idle_valid idle-now =
      let none = idle-not-walking m.stage idle-now in
      ⊎_elim
      (λ (e : eqb m.age 1 ≡ true). simp (idle-now, none, eqb-true m.age 1 e, or-true, and-false))
      (λ (e : eqb m.age 1 ≡ false). simp (idle-now, e, and-false))
      (decided (eqb m.age 1))

  pub busy_valid :
      is_idle m.stage ≡ false →
      (age_valid m.age && of-phase && not (is_leaving interval && is_walk_or_first m.stage) && not (is_start_red interval))
      ≡ movement_valid of-phase interval m
  unfolding movement_valid
  busy_valid busy = simp (busy, or-false, and-true, and_assoc)

-- the test of record k
abbrev pub passes : ℕ → List ℕ → Position → List Movement → ℕ → Bool
passes count crossings position movements k =
    movement_valid (ltb k count && crosses crossings k position.phase) position.interval (get_or movements k idle)

pub record_passes :
    (count k : ℕ) (crossings : List ℕ) (position : Position) (movements : List Movement) {of_phase own : Bool} (d : Movement) →
    k < length movements →
    of_phase ≡ (ltb k count && crosses crossings k position.phase) →
    own ≡ movement_valid of_phase position.interval (get_or movements k d) →
    own ≡ passes count crossings position movements k
record_passes count k crossings position movements d inside of own =
    own ∙ rw of (ap (movement_valid (ltb k count && crosses crossings k position.phase) position.interval) (entry-same movements k d idle inside))
