-- The largest personality of each edition: its verdict, its edition, its length and its wait bound are computed.
use mathlib.Core.Path.{refl}
use Rattle.rules.specs.declared.site.Edition.TheVariants.{One, Two}
use Rattle.rules.proofs.Opened.{opened}
use Rattle.proof_acceptance.specs.Largest.{copies, largest, GreatestIsReached}

pub greatest-is-reached : GreatestIsReached
unfolding opened copies largest GreatestIsReached
greatest-is-reached One = record { accepted = refl; own = refl; long = refl; wait = refl }
greatest-is-reached Two = record { accepted = refl; own = refl; long = refl; wait = refl }
