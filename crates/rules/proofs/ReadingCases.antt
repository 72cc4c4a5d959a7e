-- Every worked case of reading a personality holds.
use mathlib.Core.Path.{refl}
use Rattle.rules.specs.CallCases.{CallHolds, AllHold}
use Rattle.rules.specs.ReadingCases.{head_cases, body_cases, ReadingsHold}
use Rattle.rules.proofs.Opened.{opened}

head-cases-hold : AllHold CallHolds head_cases
unfolding opened head_cases
head-cases-hold = (refl, (refl, (refl, (refl, (refl, (refl, (refl, (refl, (refl, (refl, (refl, (refl, (refl, (refl, (refl, (refl, (refl, (refl, (refl, (refl, (refl, (refl, (refl, (refl, (refl, (refl, (refl, (refl, (refl, (refl, (refl, (refl, (refl, (refl, (refl, (refl, (refl, (refl, (refl, (refl, (refl, (refl, (refl, tt)))))))))))))))))))))))))))))))))))))))))))

body-cases-hold : AllHold CallHolds body_cases
unfolding opened body_cases
body-cases-hold = (refl, (refl, (refl, (refl, (refl, (refl, (refl, (refl, (refl, (refl, (refl, (refl, (refl, (refl, (refl, (refl, (refl, (refl, (refl, (refl, (refl, (refl, (refl, (refl, (refl, (refl, (refl, (refl, (refl, (refl, (refl, (refl, (refl, (refl, (refl, (refl, (refl, (refl, (refl, (refl, (refl, (refl, (refl, (refl, (refl, (refl, (refl, (refl, (refl, (refl, (refl, (refl, (refl, (refl, (refl, (refl, (refl, (refl, (refl, (refl, (refl, tt)))))))))))))))))))))))))))))))))))))))))))))))))))))))))))))

pub readings-hold : ReadingsHold
unfolding ReadingsHold
readings-hold = (head-cases-hold, body-cases-hold)
