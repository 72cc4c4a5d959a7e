-- Every worked case of one call on a timed state holds.
use mathlib.Core.Path.{refl}
use Rattle.rules.specs.TimedCases.{timed_cases, TimedCallsHold}
use Rattle.rules.proofs.Opened.{opened}

pub timed-calls-hold : TimedCallsHold
unfolding opened timed_cases TimedCallsHold
timed-calls-hold = (refl, (refl, (refl, (refl, (refl, (refl, (refl, (refl, (refl, (refl, (refl, (refl, (refl, (refl, (refl, (refl, (refl, (refl, (refl, (refl, (refl, (refl, (refl, (refl, (refl, (refl, (refl, (refl, (refl, (refl, (refl, (refl, (refl, (refl, (refl, (refl, (refl, (refl, (refl, (refl, (refl, (refl, (refl, (refl, (refl, (refl, (refl, (refl, (refl, (refl, (refl, (refl, (refl, (refl, (refl, tt)))))))))))))))))))))))))))))))))))))))))))))))))))))))
