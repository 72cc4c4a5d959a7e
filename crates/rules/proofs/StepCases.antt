-- Every worked case of the five parts of a step holds.
use mathlib.Core.Path.{refl}
use Rattle.rules.specs.CallCases.{CallHolds, AllHold}
use Rattle.rules.specs.StepCases.{demand_parts, movement_parts, interval_parts, walk_parts, StepsHold}
use Rattle.rules.proofs.Opened.{opened}

demand-parts-hold : AllHold CallHolds demand_parts
unfolding opened demand_parts
demand-parts-hold = (refl, (refl, (refl, (refl, (refl, (refl, (refl, (refl, (refl, (refl, (refl, (refl, (refl, (refl, (refl, (refl, (refl, (refl, (refl, (refl, (refl, (refl, (refl, (refl, (refl, (refl, (refl, (refl, (refl, (refl, tt))))))))))))))))))))))))))))))

movement-parts-hold : AllHold CallHolds movement_parts
unfolding opened movement_parts
movement-parts-hold = (refl, (refl, (refl, (refl, (refl, (refl, (refl, (refl, (refl, (refl, (refl, (refl, (refl, (refl, (refl, (refl, (refl, (refl, (refl, (refl, (refl, (refl, tt))))))))))))))))))))))

interval-parts-hold : AllHold CallHolds interval_parts
unfolding opened interval_parts
interval-parts-hold = (refl, (refl, (refl, (refl, (refl, (refl, (refl, (refl, (refl, (refl, (refl, (refl, (refl, (refl, (refl, (refl, (refl, (refl, (refl, (refl, (refl, (refl, (refl, (refl, (refl, (refl, (refl, (refl, (refl, tt)))))))))))))))))))))))))))))

walk-parts-hold : AllHold CallHolds walk_parts
unfolding opened walk_parts
walk-parts-hold = (refl, (refl, (refl, (refl, (refl, (refl, (refl, (refl, (refl, (refl, (refl, (refl, (refl, (refl, (refl, (refl, (refl, tt)))))))))))))))))

pub steps-hold : StepsHold
unfolding StepsHold
steps-hold = (demand-parts-hold, movement-parts-hold, interval-parts-hold, walk-parts-hold)
