-- The valid states of a personality, as bytes. A call that takes other bytes is refused with 13 at 0.
use Rattle.std.specs.Prelude.{ℕ, Bool, ◌&&◌, List}
use Rattle.rules.specs.Site.{site_of}
use Rattle.rules.specs.Timed.{timed_valid}
use Rattle.state_timed.specs.TimedLayout.{is_timed, timed_decoded}

-- the bytes are a state, and a valid one of the personality
unfoldable pub is_state_of : List ℕ → List ℕ → Bool
is_state_of b bytes = is_timed bytes && timed_valid (site_of b) (timed_decoded bytes)
