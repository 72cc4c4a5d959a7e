-- One turn of the pass: a pedestrian group shows its movement's stage and raises the count, a vehicle group shows what its record says. The
-- byte stored is the first one that is still as handed in, so one group more is passed.
use Prim.Native.Nat.{ℕ, suc, ◌+◌, ◌<◌}
use mathlib.Core.Bool.{Bool, true, false}
use mathlib.Core.List.{List}
use mathlib.Core.Path.{◌≡◌, refl, sym, ap, ◌∙◌}
use native.Mathlib.Numerals.{add-one}
use native.Mathlib.Omega.{arith}
use lib.ListN.{length, set}
use borrow.Author.Tests.{eq-eqb, ne_eqb, eqb-true}
use Rattle.rules.specs.declared.site.Group.{Group}
use Rattle.rules.specs.declared.state.Position.{Position}
use Rattle.rules.specs.declared.state.Stage.{Stage}
use Rattle.laws.specs.Folds.{count_of, list_of}
use Rattle.rules.specs.Site.{group_of, is_pedestrian, movement_of}
use Rattle.rules.specs.Colours.{movement_colour, vehicle_shown, colour_of, buffer_at, PassedTo, Turn}
use Rattle.laws.proofs.Counting.{count-passed, count-failed}
use Rattle.laws.proofs.Arrays.{fill_step}
use Rattle.rules.proofs.Pass.{passed_length}
use Rattle.step_colours.specs.Turn.{TurnOf}

pub none_passed : (groups : List Group) (shown : ℕ → ℕ) (buffer : List ℕ) → PassedTo groups shown buffer 0 buffer 0
unfolding movement_of count_of buffer_at list_of
none_passed groups shown buffer = record { bytes = refl; counted = refl }

pub pedestrian-mark : (groups : List Group) (g : ℕ) → (group_of groups g).mark ≡ 2 → is_pedestrian groups g ≡ true
unfolding is_pedestrian
pedestrian-mark groups g m = eq-eqb (group_of groups g).mark 2 m

pub pedestrian-has : (groups : List Group) (g : ℕ) → is_pedestrian groups g ≡ true → (group_of groups g).mark ≡ 2
unfolding is_pedestrian
pedestrian-has groups g e = eqb-true (group_of groups g).mark 2 e

vehicle-mark : (groups : List Group) (g : ℕ) → ((group_of groups g).mark ≡ 2 → ⊥) → is_pedestrian groups g ≡ false
unfolding is_pedestrian
vehicle-mark groups g m = ne_eqb (group_of groups g).mark 2 m

module _ (g : ℕ) {buffer after : List ℕ} {k next colour : ℕ} (fits : g < length buffer) (stored : after ≡ set buffer g colour) where
  turned :
      (groups : List Group) (shown : ℕ → ℕ) →
      colour ≡ shown g →
      (k ≡ movement_of groups g → next ≡ movement_of groups (suc g)) →
      Turn groups shown g buffer k after next
  unfolding buffer_at
  turned groups shown e n handed_in p =
      let room : g < length handed_in = omega (arith, fits, ap length p.bytes, passed_length shown handed_in g) in
      record {
        bytes = stored ∙ (fill_step (record { told = p.bytes }) room e).told;
        counted = rw add-one (n p.counted);
      }

  module _ (group : Group) (stage : Stage) (closes : Bool) (position : Position) where
    pub pedestrian-passed :
        group.mark ≡ 2 → colour ≡ movement_colour stage → next ≡ k + 1 → TurnOf group stage closes position g buffer k after next
    unfolding colour_of movement_of
    pedestrian-passed m e n groups movements here own =
        let is = pedestrian-mark groups g (ap (λ (x : Group). x.mark) here ∙ m) in
        turned groups (colour_of groups closes position movements) (rw (is, own is) e)
        (λ counted. omega (arith, counted, n, count-passed (is_pedestrian groups) g is))

    pub vehicle-passed :
        (group.mark ≡ 2 → ⊥) →
        colour ≡ vehicle_shown closes position group →
        next ≡ k →
        TurnOf group stage closes position g buffer k after next
    unfolding colour_of movement_of
    vehicle-passed m e n groups movements here own =
        let no = vehicle-mark groups g (λ t. m (ap (λ (x : Group). x.mark) (sym here) ∙ t)) in
        turned groups (colour_of groups closes position movements) (rw (no, here) e)
        (λ counted. omega (arith, counted, n, count-failed (is_pedestrian groups) g no))
