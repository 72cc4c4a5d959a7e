-- The states of a run fit the types of the machine, and so the bytes of a state.
use Rattle.std.specs.Prelude.{ℕ, true, false, List, ◌≡◌}
use Rattle.rules.specs.Verdicts.{Accepted}
use Rattle.rules.specs.Personality.{verdict_of}
use Rattle.rules.specs.Site.{times_in, site_of}
use Rattle.rules.specs.Timed.{TimedState, fresh_timed, timed_valid, timed_stepped}
use Rattle.rules.specs.Call.{stray_input}
use Rattle.rules.specs.TimedCall.{retime_verdict, retimed}
use Rattle.state_timed.specs.TimedLayout.{ProperTimed}

unfoldable pub FreshTimedIsProper : Type 0
FreshTimedIsProper = (b : List ℕ) → verdict_of b ≡ Accepted → ProperTimed (fresh_timed (site_of b))

-- a claim about every valid state of an accepted personality that fits the types
abbrev OfProper : (List ℕ → TimedState → Type 0) → Type 0
OfProper Claim = (b : List ℕ) → verdict_of b ≡ Accepted → (s : TimedState) → timed_valid (site_of b) s ≡ true → ProperTimed s → Claim b s

unfoldable pub TimedStepIsProper : Type 0
TimedStepIsProper =
    OfProper (λ b s. (inputs : ℕ) → stray_input (site_of b) inputs ≡ false → ProperTimed (timed_stepped (site_of b) s inputs))

unfoldable pub RetimeIsProper : Type 0
RetimeIsProper = OfProper (λ b s. (new : List ℕ) → retime_verdict b s new ≡ Accepted → ProperTimed (retimed s (times_in new)))
