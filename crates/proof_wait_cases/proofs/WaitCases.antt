-- The waits of the example sites are computed.
use mathlib.Core.Path.{refl}
use Rattle.rules.proofs.Opened.{opened}
use Rattle.proof_wait_cases.specs.Examples.{t_junction, four_phases, staggered, crossings}
use Rattle.proof_wait_cases.specs.WaitCases.{ExampleWaits}

pub example-waits : ExampleWaits
unfolding opened t_junction four_phases staggered crossings
example-waits = record { two_phases = refl; t_junction = refl; four_phases = refl; staggered = refl; crossings = refl }
