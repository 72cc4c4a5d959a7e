-- Every worked case of a valid state, and of one that is not, holds.
use mathlib.Core.Path.{refl}
use Rattle.rules.specs.CallCases.{CallHolds, AllHold}
use Rattle.rules.specs.StateCases.{position_cases, demand_cases, movement_cases, StatesHold}
use Rattle.rules.proofs.Opened.{opened}

position-cases-hold : AllHold CallHolds position_cases
unfolding opened position_cases
position-cases-hold = (refl, (refl, (refl, (refl, (refl, (refl, (refl, (refl, (refl, (refl, (refl, (refl, (refl, (refl, (refl, (refl, (refl, (refl, (refl, (refl, (refl, (refl, (refl, (refl, (refl, (refl, (refl, (refl, (refl, (refl, (refl, tt)))))))))))))))))))))))))))))))

demand-cases-hold : AllHold CallHolds demand_cases
unfolding opened demand_cases
demand-cases-hold = (refl, (refl, (refl, (refl, (refl, (refl, (refl, (refl, (refl, (refl, (refl, (refl, (refl, (refl, (refl, tt)))))))))))))))

movement-cases-hold : AllHold CallHolds movement_cases
unfolding opened movement_cases
movement-cases-hold = (refl, (refl, (refl, (refl, (refl, (refl, (refl, (refl, (refl, (refl, (refl, (refl, (refl, (refl, (refl, (refl, (refl, (refl, (refl, (refl, (refl, (refl, (refl, (refl, (refl, tt)))))))))))))))))))))))))

pub states-hold : StatesHold
unfolding StatesHold
states-hold = (position-cases-hold, demand-cases-hold, movement-cases-hold)
