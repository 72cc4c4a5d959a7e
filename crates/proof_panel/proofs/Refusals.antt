-- Each refusal has a written number and place: those of the personality's checks, and then each further check at 0.
use Prim.Native.Nat.{ℕ}
use mathlib.Core.Bool.{true}
use mathlib.Core.List.{List}
use mathlib.Core.Logic.{inl, inr}
use mathlib.Core.Path.{◌≡◌, refl}
use Rattle.rules.specs.Laws.{reading_number, PlaceIn, Written}
use Rattle.proof_acceptance.proofs.Refusals.{Refusals, if-refusals, or-refusals, personality-refusals}
use Rattle.board_panel.specs.PanelCall.{length_checks, why_checks}
use Rattle.proof_panel.specs.PanelLaws.{LengthRefusalIsWritten, WhyRefusalIsWritten}

length-refusals :
    (b state : List ℕ) (inputs : ℕ) (Allowed : ℕ → ℕ → Type 0) →
    ((number place : ℕ) → reading_number number ≡ true → PlaceIn b place → Allowed number place) →
    Allowed 13 0 → Allowed 15 0 →
    Refusals Allowed (length_checks b state inputs)
unfolding length_checks
length-refusals b state inputs Allowed reading thirteen fifteen =
    or-refusals Allowed _ _ (personality-refusals b Allowed reading)
    (λ e. or-refusals Allowed _ _ (if-refusals Allowed _ 13 0 thirteen) (λ f. if-refusals Allowed _ 15 0 fifteen))

pub length-refusal-is-written : LengthRefusalIsWritten
unfolding LengthRefusalIsWritten
length-refusal-is-written b state inputs =
    length-refusals b state inputs _ (λ number place known l. inl (known, l)) (inr (refl, refl)) (inr (refl, refl))

pub why-refusal-is-written : WhyRefusalIsWritten
unfolding WhyRefusalIsWritten why_checks
why-refusal-is-written b state inputs room =
    or-refusals (Written b) _ _
    (length-refusals b state inputs (Written b) (λ number place known l. inl (known, l)) (inr (refl, refl)) (inr (refl, refl)))
    (λ e. if-refusals (Written b) _ 14 0 (inr (refl, refl)))
