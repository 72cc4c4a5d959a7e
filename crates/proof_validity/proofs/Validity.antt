-- A step from a valid state, with inputs that are all wired, leads to a valid state: position, counts, demands and movements of the
-- next state are each shown valid in a file of their own.
use Prim.Native.Nat.{ℕ}
use mathlib.Core.Bool.{true, false}
use mathlib.Core.Path.{◌≡◌, sym, subst}
use Rattle.rules.specs.declared.site.Site.{Site}
use Rattle.rules.specs.declared.state.Position.{Position}
use Rattle.rules.specs.declared.state.State.{State}
use Rattle.rules.specs.State.{movement, valid}
use Rattle.rules.specs.Step.{stepped}
use Rattle.rules.specs.Call.{stray_input}
use Rattle.rules.specs.Laws.{Sound}
use Rattle.proof_runs.proofs.ValidStates.{ValidState, ValidMovement, state-told, state-holds}
use Rattle.proof_runs.proofs.Steps.{position-of, counts_of}
use Rattle.proof_validity.proofs.Positions.{next-position}
use Rattle.proof_validity.proofs.Counts.{next-counts}
use Rattle.proof_validity.proofs.Demands.{next-locks, next-buttons}
use Rattle.proof_validity.proofs.Walks.{next-movement}

next-state :
    (site : Site) →
    Sound site →
    (s : State) (inputs : ℕ) →
    ValidState site s →
    stray_input site inputs ≡ false →
    ValidState site (stepped site s inputs)
next-state site sound s inputs v stray =
    let position = next-position site sound s inputs v in
    let counts = next-counts site s inputs v in
    record {
      phase = rw (position-of site s inputs) position.phase;
      interval = rw (position-of site s inputs) position.interval;
      target = rw (position-of site s inputs) position.target;
      previous = rw (position-of site s inputs) position.previous;
      age = rw (position-of site s inputs) position.age;
      gap = rw (position-of site s inputs, counts_of site s inputs) counts.0;
      maximum = rw (position-of site s inputs, counts_of site s inputs) counts.1;
      locks = λ p l h. next-locks site sound s inputs p v l h;
      buttons = λ k l h. next-buttons site sound s inputs k v stray l h;
      movements = λ k l.
          subst (λ (p : Position). ValidMovement site p k (movement (stepped site s inputs) k)) (sym (position-of site s inputs))
          (next-movement site sound s inputs k l v);
    }

pub stepped-valid :
    (site : Site) →
    Sound site →
    (s : State) (inputs : ℕ) →
    valid site s ≡ true →
    stray_input site inputs ≡ false →
    valid site (stepped site s inputs) ≡ true
stepped-valid site sound s inputs h stray =
    state-holds site (stepped site s inputs) (next-state site sound s inputs (state-told site s h) stray)
