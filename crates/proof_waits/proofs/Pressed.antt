-- A button demand of a movement m of phase q, for any measure of what is left: while it stands m is not in walk, for a press in walk is not
-- registered and the beginning of a walk clears the demand; a step begins the walk or leaves the demand standing.
use Prim.Native.Nat.{ℕ, suc, ◌<◌}
use mathlib.Core.Bool.{true, false, not}
use mathlib.Core.Logic.{◌⊎◌, inl, inr, ⊎_elim}
use mathlib.Core.Path.{◌≡◌, ap, ◌∙◌}
use native.Mathlib.Omega.{arith}
use borrow.Author.Tests.{not-true}
use Rattle.rules.specs.declared.site.Site.{Site}
use Rattle.rules.specs.declared.state.Movement.{Movement}
use Rattle.rules.specs.declared.state.State.{State}
use Rattle.rules.specs.Site.{walk_times, crosses}
use Rattle.rules.specs.IntervalTable.{is_walk}
use Rattle.rules.specs.State.{asked, movement}
use Rattle.rules.specs.Demands.{pressed, registers_button}
use Rattle.rules.specs.Step.{stepped}
use Rattle.rules.specs.Laws.{Sound}
use Rattle.rules.specs.Runs.{Step}
use Rattle.rules.specs.DemandThree.{in_walk, walk_begins}
use Rattle.laws.proofs.Booleans.{and_right, and_both, or_left, or_right, decided, never_both}
use Rattle.proof_runs.proofs.Steps.{may_end, now, started, moved, asked_now, begun, asked_of, movement-of}
use Rattle.proof_runs.proofs.Chains.{ValidLink}
use Rattle.proof_waits.proofs.Stages.{walk-kept-out}
use Rattle.proof_waits.proofs.Moves.{moved_on}
use Rattle.proof_waits.proofs.Demand.{Waits}

-- the button is set, and the movement is not in walk
pub record ButtonStands (m : ℕ) (s : State) : Type 0 where
  pub asked : asked s m ≡ true
  pub still : in_walk s m ≡ false

-- a movement whose button a step registers is not in walk
pub registers-still : (s : State) (inputs m : ℕ) → registers_button s.movements inputs m ≡ true → in_walk s m ≡ false
unfolding registers_button in_walk movement
registers-still s inputs m r = not-true (is_walk (movement s m).stage) (and_right (pressed inputs m) _ r)

module _
    (site : Site)
    (sound : Sound site)
    (q m : ℕ)
    (exists : m < site.size.movements)
    (crossing : crosses site.crossings m q ≡ true)
  where
    pub button-room : m < 8
    button-room = omega (arith, sound.movements)

    -- ── A step in which its walk does not begin ──

    module _ (s : State) (inputs : ℕ) (standing : asked_now site s inputs m ≡ true) (quiet : begun site s inputs m ≡ false) where
      abbrev next : State
      next = stepped site s inputs

      asked-kept : asked next m ≡ true
      asked-kept = asked_of site s inputs m button-room ∙ and_both standing (ap not quiet)

      pub still_kept : in_walk s m ≡ false → in_walk next m ≡ false
      unfolding in_walk moved
      still_kept h =
          ap (λ (k : Movement). is_walk k.stage) (moved_on site s inputs m button-room quiet)
          ∙ walk-kept-out (may_end site s inputs) (walk_times site.times m) (movement s m).age (movement s m).stage h

      -- the phase does not start: the walk would begin
      pub not-started : started site s inputs ≡ true → (now site s inputs).phase ≡ q → ⊥
      unfolding begun
      not-started h e = never_both (and_both (and_both standing (ap (crosses site.crossings m) e ∙ crossing)) (or_left _ h)) quiet

    -- ── A step ──

    walk-entered : (s : State) (inputs : ℕ) → begun site s inputs m ≡ true → in_walk (stepped site s inputs) m ≡ true
    unfolding in_walk
    walk-entered s inputs b = rw (movement-of site s inputs m button-room, b)

    module _
        (Left : ℕ → State → Type 0)
        (s : State)
        (step : Step)
        (link : ValidLink site s step)
        (falls :
        asked_now site s step.inputs m ≡ true →
        begun site s step.inputs m ≡ false →
        in_walk s m ≡ false →
        (n : ℕ) →
        Left (suc n) s →
        Left n (stepped site s step.inputs))
      where
        -- the step begins the walk, or the demand waits on
        button-step :
            asked_now site s step.inputs m ≡ true →
            in_walk s m ≡ false →
            (walk_begins m step ≡ true) ⊎ Waits (ButtonStands m) Left s step
        unfolding walk_begins
        button-step standing still =
            ⊎_elim
            (λ (b : begun site s step.inputs m ≡ true).
            inl (rw (link.taken.before, link.taken.after) (and_both (walk-entered s step.inputs b) (ap not still))))
            (λ (b : begun site s step.inputs m ≡ false).
            inr (record {
              stands =
                  rw link.taken.after (record {
                    asked = asked-kept s step.inputs standing b;
                    still = still_kept s step.inputs standing b still;
                  });
              falls = λ n left. rw link.taken.after (falls standing b still n left);
            }))
            (decided (begun site s step.inputs m))

        pub button-registers-by :
            registers_button s.movements step.inputs m ≡ true →
            (walk_begins m step ≡ true) ⊎ Waits (ButtonStands m) Left s step
        unfolding asked_now
        button-registers-by r = button-step (or_right (asked s m) r) (registers-still s step.inputs m r)

        pub button-goes-by : ButtonStands m s → (walk_begins m step ≡ true) ⊎ Waits (ButtonStands m) Left s step
        unfolding asked_now
        button-goes-by stands = button-step (or_left (registers_button s.movements step.inputs m) stands.asked) stands.still
