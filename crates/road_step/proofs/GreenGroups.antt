-- The set of the vehicle groups that show green: it is that of the position, and a position that only ages keeps it.
use Rattle.std.specs.Prelude.{Option}
use Prim.Native.Nat.{ℕ, ◌+◌, ◌≤◌, ◌<◌}
use mathlib.Core.Bool.{Bool, true, false, ◌&&◌, or-false}
use mathlib.Core.Logic.{inl, inr, ⊎_elim}
use mathlib.Core.Path.{◌≡◌, refl, sym, ap, ◌∙◌}
use lib.Dec.{eqb}
use native.Mathlib.Omega.{arith}
use borrow.Author.Tests.{eq-eqb, ne_eqb}
use Rattle.laws.specs.Bytes.{bit}
use Rattle.laws.proofs.Bits.{bit-blank}
use Rattle.laws.proofs.Indices.{same-or-apart}
use Rattle.rules.specs.declared.site.Site.{Site}
use Rattle.rules.specs.declared.site.Times.{Times}
use Rattle.rules.specs.declared.state.Interval.{Interval}
use Rattle.rules.specs.declared.state.Interval.TheVariants.{StartRed, LateStart, MinimumGreen, Running, EarlyCutOff, Yellow, AllRed}
use Rattle.rules.specs.declared.state.KeptState.{KeptState}
use Rattle.rules.specs.declared.state.Position.{Position}
use Rattle.rules.specs.declared.state.State.{State}
use Rattle.rules.specs.Site.{group_of, is_pedestrian}
use Rattle.rules.specs.Interval.{entering, starting, leaving, following, staying, position_after}
use Rattle.rules.specs.Step.{stepped_into, stepped_to}
use Rattle.rules.specs.Kept.{kept_stepped}
use Rattle.rules.specs.Colours.{green, closing, vehicle_shown, colour_of, shown_in}
use Rattle.rules.specs.Laws.{Sound}
use Rattle.step_colours.proofs.Unclosed.{closing-there}
use Rattle.road_step.specs.Greens.{WithBit, GreenIn, Follows}

-- ── The set of a state ──

-- what a vehicle group shows
vehicle-shown :
    (site : Site) → Sound site →
    (s : State) (g : ℕ) →
    is_pedestrian site.groups g ≡ false →
    vehicle_shown (site.early && closing site.times s.position) s.position (group_of site.groups g) ≡ shown_in site s g
unfolding colour_of
vehicle-shown site sound s g vehicle = rw vehicle at (closing-there site sound s g)

pub green-in :
    (site : Site) → Sound site →
    (s : State) (greens : ℕ) →
    ((g : ℕ) →
    g < site.size.groups →
    bit g greens ≡ eqb (vehicle_shown (site.early && closing site.times s.position) s.position (group_of site.groups g)) green) →
    GreenIn site s greens
green-in site sound s greens all g l vehicle = all g l ∙ ap (λ (c : ℕ). eqb c green) (vehicle-shown site sound s g vehicle)

-- ── The pass over the groups ──

-- the first g groups are passed
pub record GreensTo (test : ℕ → Bool) (greens g : ℕ) : Type 0 where
  pub passed : (d : ℕ) → d < g → bit d greens ≡ test d
  pub clear : (d : ℕ) → g ≤ d → bit d greens ≡ false

module _ {test : ℕ → Bool} where
  pub greens-none : GreensTo test 0 0
  greens-none = record { passed = λ d l. absurd (omega (arith, l)); clear = λ d l. bit-blank d }

  pub greens-more : {greens new g : ℕ} {on : Bool} → GreensTo test greens g → on ≡ test g → WithBit greens g on new → GreensTo test new (g + 1)
  greens-more {greens} {new} {g} {on} to is word =
      record {
        passed =
            λ d l.
            ⊎_elim
            (λ (here : d ≡ g). rw here (word.bits g ∙ rw (to.clear g (omega arith), eq-eqb g g refl, is) refl))
            (λ (apart : d ≡ g → ⊥).
            word.bits d ∙ rw (to.passed d (omega (arith, l, apart)), ne_eqb g d (λ e. omega (arith, e, apart))) (or-false (test d)))
            (same-or-apart d g);
        clear = λ d l. word.bits d ∙ rw (to.clear d (omega (arith, l)), ne_eqb g d (λ e. omega (arith, e, l))) refl;
      }

-- ── The next state ──

-- without early cut-off green a position that only ages shows the same
pub green-kept :
    (site : Site) → Sound site → site.early ≡ false →
    (old new : State) (greens : ℕ) →
    (new.position.age ≡ 1 → ⊥) →
    Follows old.position new.position →
    GreenIn site old greens →
    GreenIn site new greens
unfolding vehicle_shown
green-kept site sound none old new greens older follows held g l vehicle =
    ⊎_elim
    (λ (begins : new.position.age ≡ 1). absurd (older begins))
    (λ (same : (new.position.phase ≡ old.position.phase) × (new.position.interval ≡ old.position.interval) × (new.position.previous ≡ old.position.previous) × (new.position.target ≡ old.position.target)).
    held g l vehicle
    ∙ ap (λ (c : ℕ). eqb c green)
    (sym (vehicle-shown site sound old g vehicle)
    ∙ rw (none, same.0, same.1, same.2, same.3) refl
    ∙ vehicle-shown site sound new g vehicle))
    follows

-- an interval that follows begins at age 1
begun : (interval : Interval) (times : Times) (next : Option ℕ) (old : Position) → (following interval times next old).age ≡ 1
unfolding following entering starting leaving
begun StartRed times next old = refl
begun LateStart times next old = refl
begun MinimumGreen times next old = refl
begun Running times next old = refl
begun EarlyCutOff times next old = refl
begun Yellow times next old = refl
begun AllRed times next old = refl

after : (ended : Bool) (times : Times) (next : Option ℕ) (old : Position) → Follows old (position_after ended times next old)
unfolding position_after staying
after true times next old = inl (begun old.interval times next old)
after false times next old = inr (refl, refl, refl, refl)

pub step_follows : (site : Site) (s : KeptState) (inputs : ℕ) → Follows s.core.position (kept_stepped site s inputs).core.position
unfolding kept_stepped stepped_to stepped_into
step_follows site s inputs = after _ site.times _ s.core.position
