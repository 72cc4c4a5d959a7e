-- The pass over the pressed buttons: those that are taken and not dropped have their demands, and their movements' phases are in the set.
use Prim.Native.Nat.{ℕ, ◌/◌, ◌%◌, ◌^◌, ◌<◌}
use mathlib.Core.Bool.{Bool, true, false, not, ◌&&◌, ◌||◌, or-false, or-true}
use mathlib.Core.List.{List}
use mathlib.Core.Logic.{⊎_elim}
use mathlib.Core.Path.{◌≡◌, sym, ap, ◌∙◌}
use native.Mathlib.Nat.{mod-lt}
use native.Mathlib.Omega.{arith}
use borrow.Author.Tests.{eqb-true, eqb-false}
use lib.Bits.{bit_or}
use lib.Dec.{eqb}
use lib.ListN.{get_or}
use lib.Pow.{pow_pos}
use Rattle.rules.specs.declared.state.Movement.{Movement}
use Rattle.laws.specs.Bytes.{bit}
use Rattle.laws.specs.Folds.{set_of}
use Rattle.rules.specs.IntervalTable.{is_walk}
use Rattle.rules.specs.State.{idle}
use Rattle.rules.specs.Demands.{pressed, registers_button, buttons_after}
use Rattle.rules.specs.Kept.{press_keeps}
use Rattle.laws.proofs.Booleans.{decided}
use Rattle.laws.proofs.Bits.{bit-lower, bit-down}
use Rattle.laws.proofs.LowestBit.{lowest, others, taken_none, counted, counted-other, counted-own, counted_same}
use Rattle.laws.proofs.ByteSets.{bit-set, set_same, set_told}
use Rattle.step_demands_buttons.proofs.Crossed.{Crossed, none-crossed, one-crossed, one-failed, all-counted, all-crossed}

-- the inputs of the buttons
abbrev word : ℕ → ℕ
word inputs = inputs / 2 ^ 48 % 2 ^ 8

-- a press is registered unless the movement is in walk
abbrev pub stays : List Movement → ℕ → Bool
stays movements k = not (is_walk (get_or movements k idle).stage)

abbrev registered : List Movement → ℕ → ℕ → ℕ → Bool
registered movements inputs rest k = counted (word inputs) (stays movements) rest k

pub record Pressed (buttons : ℕ) (movements : List Movement) (crossings : List ℕ) (inputs rest out phases : ℕ) : Type 0 where
  pub keeps : Crossed crossings (word inputs) 8 (stays movements) rest phases
  pub told : out ≡ set_of (λ k. bit k buttons || registered movements inputs rest k)

pub none-pressed :
    (buttons : ℕ) (movements : List Movement) (crossings : List ℕ) (inputs : ℕ) →
    buttons < 256 →
    Pressed buttons movements crossings inputs (word inputs) buttons 0
none-pressed buttons movements crossings inputs small =
    record {
      keeps = none-crossed crossings (word inputs) 8 (stays movements) (mod-lt (inputs / 2 ^ 48) (pow_pos 8));
      told = set_told _ buttons small (λ k l. rw (taken_none (word inputs) k) (sym (or-false (bit k buttons))));
    }

module _
    {buttons : ℕ} {movements : List Movement} {crossings : List ℕ} {inputs rest out phases : ℕ}
    (known : Pressed buttons movements crossings inputs rest out phases)
  where
    -- the buttons that have their demands where this is left
    abbrev standing : ℕ → ℕ → Bool
    standing rest k = bit k buttons || registered movements inputs rest k

    module _ (some : 0 < rest) where
      pub one-pressed :
          get_or crossings (lowest rest) 0 < 256 →
          stays movements (lowest rest) ≡ true →
          Pressed buttons movements crossings inputs (others rest) (set_of (λ k. bit k out || eqb k (lowest rest))) (bit_or phases (get_or crossings (lowest rest) 0))
      one-pressed byte e =
          record {
            keeps = one-crossed known.keeps some (omega arith) byte e;
            told =
                set_same _ _
                (λ k l.
                rw (known.told, bit-set (standing rest) k l)
                (⊎_elim
                (λ (t : eqb k (lowest rest) ≡ true).
                rw (t, eqb-true k (lowest rest) t, counted-own known.keeps.left some (omega arith) (stays movements) e)
                (or-true (standing rest (lowest rest)) ∙ sym (or-true (bit (lowest rest) buttons))))
                (λ (t : eqb k (lowest rest) ≡ false).
                rw (t, counted-other known.keeps.left some (omega arith) (stays movements) k (eqb-false k (lowest rest) t)) (or-false (standing rest k)))
                (decided (eqb k (lowest rest)))));
          }

      pub one-dropped : stays movements (lowest rest) ≡ false → Pressed buttons movements crossings inputs (others rest) out phases
      one-dropped e =
          record {
            keeps = one-failed known.keeps some (omega arith) e;
            told =
                known.told
                ∙ set_same _ _
                (λ k l. ap (λ (t : Bool). bit k buttons || t) (counted_same known.keeps.left some (omega arith) (stays movements) e k));
          }

    module _ (done : rest ≡ 0) where
      all-registered : (k : ℕ) → k < 8 → (bit k (word inputs) && stays movements k) ≡ registers_button movements inputs k
      unfolding registers_button pressed
      all-registered k l = rw (bit-lower 8 k (inputs / 2 ^ 48) l ∙ bit-down inputs 48 k)

      pub all-pressed : out ≡ buttons_after buttons movements inputs
      unfolding buttons_after
      all-pressed =
          known.told
          ∙ set_same _ _
          (λ k l.
          ap (λ (t : Bool). bit k buttons || t) (all-counted known.keeps done (registers_button movements inputs) all-registered k l))

      pub all-kept : phases ≡ set_of (press_keeps movements crossings 8 inputs)
      unfolding press_keeps
      all-kept = all-crossed known.keeps done (registers_button movements inputs) all-registered
