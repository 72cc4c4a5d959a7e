-- Every worked case of the limits of the times holds.
use mathlib.Core.Path.{refl}
use Rattle.rules.specs.LimitCases.{limit_cases, LimitsHold}
use Rattle.rules.proofs.Opened.{opened}

pub limits-hold : LimitsHold
unfolding opened limit_cases LimitsHold
limits-hold = (refl, (refl, (refl, (refl, (refl, (refl, (refl, (refl, (refl, (refl, (refl, (refl, (refl, (refl, (refl, (refl, (refl, (refl, (refl, (refl, (refl, (refl, (refl, (refl, (refl, (refl, (refl, (refl, (refl, (refl, (refl, (refl, (refl, (refl, (refl, (refl, (refl, (refl, (refl, (refl, (refl, (refl, (refl, (refl, tt))))))))))))))))))))))))))))))))))))))))))))
