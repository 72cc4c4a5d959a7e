-- The fresh state of a sound site is valid: its phase is A, which every site has, its counts are 0, nothing is demanded, and every
-- movement is idle at age 1.
use mathlib.Core.Bool.{true}
use mathlib.Core.Path.{◌≡◌, refl, sym, subst}
use native.Mathlib.Omega.{arith}
use lib.ListN.{get_or-replicate}
use Rattle.rules.specs.declared.site.Site.{Site}
use Rattle.rules.specs.declared.state.Movement.{Movement}
use Rattle.rules.specs.State.{idle, fresh, locked, asked, movement, interval_valid, target_valid, previous_valid, valid}
use Rattle.rules.specs.Laws.{Sound}
use Rattle.laws.proofs.Booleans.{or_right, never_both}
use Rattle.laws.proofs.Bits.{bit-blank}
use Rattle.proof_runs.proofs.ValidStates.{ValidState, ValidMovement, state-holds}
use Rattle.proof_validity.proofs.Positions.{new-aged}
use Rattle.proof_validity.proofs.Stages.{idle-valid}

fresh-state : (site : Site) → Sound site → ValidState site fresh
unfolding fresh locked asked movement interval_valid target_valid previous_valid
fresh-state site sound =
    record {
      phase = omega (arith, sound.phases.0);
      interval = or_right site.early refl;
      target = refl;
      previous = refl;
      age = new-aged;
      gap = omega arith;
      maximum = omega arith;
      locks = λ p l h. absurd (never_both h (bit-blank p));
      buttons = λ k l h. absurd (never_both h (bit-blank k));
      movements = λ k l.
          subst (λ (m : Movement). ValidMovement site fresh.position k m) (sym (get_or-replicate 8 k idle idle l))
          (idle-valid site fresh.position k idle refl refl);
    }

pub fresh-valid : (site : Site) → Sound site → valid site fresh ≡ true
fresh-valid site sound = state-holds site fresh (fresh-state site sound)
