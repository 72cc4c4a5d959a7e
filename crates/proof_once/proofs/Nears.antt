-- One step while a demand of phase q waits: it meets the demand or leaves it standing, and a start leaves fewer starts to come. After the start of
-- phase q itself the demand is met, or it is about to be: nothing starts before that.
use Prim.Native.Nat.{ℕ, ◌-◌, ◌≤◌, ◌<◌}
use mathlib.Core.Bool.{Bool, true, false}
use mathlib.Core.List.{List}
use mathlib.Core.Logic.{◌⊎◌, inl, inr, ⊎_elim}
use mathlib.Core.Path.{◌≡◌, subst}
use native.Mathlib.Omega.{arith}
use borrow.Author.Tests.{eqb-true}
use Rattle.rules.specs.declared.state.Position.{Position}
use Rattle.rules.specs.declared.state.State.{State}
use Rattle.rules.specs.Runs.{Step}
use Rattle.rules.specs.OnceEach.{some_starts, phase_starts}
use Rattle.laws.proofs.Booleans.{and_left, and_right, decided, never_both}
use Rattle.laws.proofs.Indices.{same-or-apart}
use Rattle.proof_waits.proofs.Paths.{ahead-some, ahead_apart}
use Rattle.proof_once.proofs.Ways.{one, from_start, starts_left, Way}
use Rattle.proof_once.proofs.Falling.{Falls}

-- a phase that starts is the one that the state has after the step
phase-told : (r : ℕ) (step : Step) → phase_starts r step ≡ true → (some_starts step ≡ true) × (step.after.position.phase ≡ r)
unfolding phase_starts
phase-told r step h =
    (and_left (some_starts step) _ h, eqb-true step.after.position.phase r (and_right (some_starts step) _ h))

-- `Last` says of a position that the demand is about to be met
module _ (phases : List ℕ) (q : ℕ) (met : Step → Bool) (Stands : State → Type 0) (Last : Position → Type 0) where
  -- the demand stands, and n bounds the starts to come, or none comes before it is met
  pub record Near (n : ℕ) (s : State) : Type 0 where
    pub stands : Stands s
    pub bound : (starts_left phases q s.position ≤ n) ⊎ Last s.position

  pub record Nears (n : ℕ) (step : Step) : Type 0 where
    pub left : ℕ
    pub falls : Falls (from_start phases q) n step left
    pub near : (met step ≡ true) ⊎ Near left step.after

  module _ (n : ℕ) (step : Step) where
    -- no phase starts
    quiet-nears : some_starts step ≡ false → (met step ≡ true) ⊎ Near n step.after → Nears n step
    quiet-nears none near = record { left = n; falls = (omega arith, λ r e. absurd (never_both (phase-told r step e).0 none)); near = near }

    -- the demand was about to be met
    pub last-nears :
        some_starts step ≡ false →
        (met step ≡ true) ⊎ Stands step.after →
        (Stands step.after → Last step.after.position) →
        Nears n step
    last-nears none goes last =
        quiet-nears none
        (⊎_elim
        (λ (e : met step ≡ true). inl e)
        (λ (stands : Stands step.after). inr (record { stands = stands; bound = inr (last stands) }))
        goes)

    pub way-nears :
        Way phases q step.before.position.interval step.before.position step.after.position →
        starts_left phases q step.before.position ≤ n →
        (met step ≡ true) ⊎ Stands step.after →
        (Stands step.after → some_starts step ≡ true → step.after.position.phase ≡ q → Last step.after.position) →
        Nears n step
    unfolding some_starts
    way-nears way most goes own =
        ⊎_elim
        (λ (h : some_starts step ≡ true).
        let t = step.after.position.phase in
        let keys = way.starts h in
        record {
          left = from_start phases q t - 1;
          falls = (
            omega (arith, keys.0, most),
            λ r e.
                subst (λ (r : ℕ). (from_start phases q t - 1 < from_start phases q r) × (from_start phases q r ≤ n)) (phase-told r step e).1
                (omega (arith, ahead-some one phases q 1 t), omega (arith, keys.0, most)),
          );
          near =
              ⊎_elim
              (λ (e : met step ≡ true). inl e)
              (λ (stands : Stands step.after).
              inr (record {
                stands = stands;
                bound =
                    ⊎_elim
                    (λ (same : t ≡ q). inr (own stands h same))
                    (λ (other : t ≡ q → ⊥). inl (omega (arith, keys.1, ahead_apart one phases q 1 t other)))
                    (same-or-apart t q);
              }))
              goes;
        })
        (λ (h : some_starts step ≡ false).
        quiet-nears h
        (⊎_elim
        (λ (e : met step ≡ true). inl e)
        (λ (stands : Stands step.after). inr (record { stands = stands; bound = inl (omega (arith, way.quiet h, most)) }))
        goes))
        (decided (some_starts step))
