-- Every refusal of the call is a written one: those of the personality's checks, and then 22, 13 and 14 at 0.
use Prim.Native.Nat.{ℕ}
use mathlib.Core.Bool.{true}
use mathlib.Core.List.{List}
use mathlib.Core.Logic.{◌⊎◌, inl, inr}
use mathlib.Core.Path.{◌≡◌, refl}
use Rattle.rules.specs.Laws.{reading_number, PlaceIn}
use Rattle.proof_acceptance.proofs.Refusals.{if-refusals, or-refusals, personality-refusals}
use Rattle.road_streams.specs.Road.{streams_verdict, road_verdict}
use Rattle.proof_road.specs.Roads.{road_number, RoadRefusalIsWritten}

-- what is written
abbrev Allowed : List ℕ → ℕ → ℕ → Type 0
Allowed b number place = ((reading_number number ≡ true) × PlaceIn b place) ⊎ ((road_number number ≡ true) × (place ≡ 0))

pub road-refusal-is-written : RoadRefusalIsWritten
unfolding RoadRefusalIsWritten road_verdict streams_verdict
road-refusal-is-written b streams steps state_fits room =
    or-refusals (Allowed b) _ _
    (or-refusals (Allowed b) _ _ (personality-refusals b (Allowed b) (λ number place known l. inl (known, l)))
    (λ e. if-refusals (Allowed b) _ 22 0 (inr (refl, refl))))
    (λ e. or-refusals (Allowed b) _ _ (if-refusals (Allowed b) _ 13 0 (inr (refl, refl))) (λ f. if-refusals (Allowed b) _ 14 0 (inr (refl, refl))))
