-- Every worked case of one call holds: what the rules compute is, case by case, what it must be.
use mathlib.Core.Path.{refl}
use Rattle.rules.specs.CallCases.{call_cases, CallsHold}
use Rattle.rules.proofs.Opened.{opened}

pub calls-hold : CallsHold
unfolding opened call_cases CallsHold
calls-hold = (refl, (refl, (refl, (refl, (refl, (refl, (refl, (refl, (refl, (refl, (refl, (refl, (refl, (refl, (refl, (refl, (refl, (refl, (refl, (refl, (refl, (refl, (refl, (refl, (refl, (refl, (refl, (refl, (refl, (refl, (refl, (refl, (refl, (refl, (refl, (refl, (refl, (refl, (refl, tt)))))))))))))))))))))))))))))))))))))))
