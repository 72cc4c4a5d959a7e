-- A movement record by its stage: an idle one at age 1 is valid at every position, and part 2, which lets a stage run on or gives
-- way to the next, keeps a record valid at the position that the state has.
use Prim.Native.Nat.{ℕ}
use mathlib.Core.Bool.{Bool, true, false}
use mathlib.Core.Path.{◌≡◌, refl, sym, subst}
use Rattle.rules.specs.declared.site.Site.{Site}
use Rattle.rules.specs.declared.site.WalkTimes.{WalkTimes}
use Rattle.rules.specs.declared.state.Movement.{Movement}
use Rattle.rules.specs.declared.state.Position.{Position}
use Rattle.rules.specs.declared.state.Stage.{Stage}
use Rattle.rules.specs.declared.state.Stage.TheVariants.{Idle, Walk, ClearanceOne, ClearanceTwo}
use Rattle.rules.specs.IntervalTable.{is_idle, is_walk_or_first, is_second}
use Rattle.rules.specs.Movements.{older, lasting, advanced}
use Rattle.laws.proofs.Booleans.{never_both}
use Rattle.rules.proofs.IntervalTests.{idle-not-walking}
use Rattle.proof_runs.proofs.ValidStates.{Aged, ValidMovement}
use Rattle.proof_runs.proofs.Lasting.{lasting-cases}
use Rattle.proof_validity.proofs.Positions.{older-aged, new-aged}

-- ── Stages ──

-- a movement in no walk and no clearance is idle
pub cleared-idle : (stage : Stage) → is_walk_or_first stage ≡ false → is_second stage ≡ false → is_idle stage ≡ true
cleared-idle Idle w c = refl
cleared-idle Walk w c = sym w
cleared-idle ClearanceOne w c = sym w
cleared-idle ClearanceTwo w c = sym c

-- a movement that is idle at age 1 is valid at every position
pub idle-valid :
    (site : Site) (position : Position) (k : ℕ) (m : Movement) → is_idle m.stage ≡ true → m.age ≡ 1 → ValidMovement site position k m
idle-valid site position k m i e =
    record {
      age = subst (λ (age : ℕ). Aged age) (sym e) new-aged;
      of_phase = λ q. absurd (never_both i q);
      leaving = λ q. idle-not-walking m.stage i;
      start_red = λ q. i;
      idle_age = λ q. e;
    }

-- ── Part 2 of a step ──

module _ (site : Site) (position : Position) (k : ℕ) where
  -- a stage that is not idle runs on
  on-valid :
      (stage : Stage) (age : ℕ) →
      is_idle stage ≡ false →
      ValidMovement site position k (record { stage = stage; age = age }) →
      ValidMovement site position k (record { stage = stage; age = older age })
  on-valid stage age busy v =
      record {
        age = older-aged age v.age;
        of_phase = v.of_phase;
        leaving = v.leaving;
        start_red = v.start_red;
        idle_age = λ q. absurd (never_both q busy);
      }

  -- a stage that is not idle gives way to the next
  way-valid :
      (stage next : Stage) (age : ℕ) →
      is_idle stage ≡ false →
      (is_walk_or_first stage ≡ false → is_walk_or_first next ≡ false) →
      ValidMovement site position k (record { stage = stage; age = age }) →
      ValidMovement site position k (record { stage = next; age = 1 })
  way-valid stage next age busy out v =
      record {
        age = new-aged;
        of_phase = λ q. v.of_phase busy;
        leaving = λ q. out (v.leaving q);
        start_red = λ q. absurd (never_both (v.start_red q) busy);
        idle_age = λ q. refl;
      }

  -- one or the other
  lasting-valid :
      (may_end : Bool) (setting : ℕ) (stage next : Stage) (age : ℕ) →
      is_idle stage ≡ false →
      (is_walk_or_first stage ≡ false → is_walk_or_first next ≡ false) →
      ValidMovement site position k (record { stage = stage; age = age }) →
      ValidMovement site position k (lasting may_end setting stage next age)
  lasting-valid may_end setting stage next age busy out v =
      lasting-cases (ValidMovement site position k) may_end setting stage next age (λ over. way-valid stage next age busy out v)
      (λ still. on-valid stage age busy v)

  -- part 2 keeps a movement valid at the position that the state has
  pub advanced-valid :
      (may_end : Bool) (stage : Stage) (times : WalkTimes) (age : ℕ) →
      ValidMovement site position k (record { stage = stage; age = age }) →
      ValidMovement site position k (advanced may_end stage times age)
  unfolding advanced
  advanced-valid may_end Idle times age v = v
  advanced-valid may_end Walk times age v = lasting-valid may_end times.walk Walk ClearanceOne age refl (λ h. h) v
  advanced-valid may_end ClearanceOne times age v = lasting-valid true times.first ClearanceOne ClearanceTwo age refl (λ h. refl) v
  advanced-valid may_end ClearanceTwo times age v = lasting-valid true times.second ClearanceTwo Idle age refl (λ h. h) v
