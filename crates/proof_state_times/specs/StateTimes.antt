-- The times in the bytes of a state, by request twelve: the state keeps the ruling and the waiting times, and is valid only if the personality would be
-- accepted with either.
use Rattle.std.specs.Prelude.{ℕ, true, false, List, ◌≡◌}
use Rattle.rules.specs.Verdicts.{Accepted}
use Rattle.rules.specs.declared.site.Times.{Times}
use Rattle.rules.specs.Personality.{verdict_of}
use Rattle.rules.specs.Site.{site_of}
use Rattle.rules.specs.SiteTimes.{under, blank}
use Rattle.rules.specs.Kept.{kept_valid}
use Rattle.rules.specs.Timed.{kept_of}
use Rattle.rules.specs.TimedLaws.{with_times}
use Rattle.state_timed.specs.TimedLayout.{is_timed, timed_decoded}
use Rattle.state_valid.specs.StateOf.{is_state_of}

-- the personality with these times in the place of its own is accepted, and its site is the old site under them
pub record AcceptedWith (b : List ℕ) (times : Times) : Type 0 where
  pub accepted : verdict_of (with_times b times) ≡ Accepted
  pub site : site_of (with_times b times) ≡ under (site_of b) times

-- bytes are a state of a personality only if it would be accepted with the ruling times, and with the waiting ones if some wait
unfoldable pub StateWouldBeAccepted : Type 0
StateWouldBeAccepted =
    (b bytes : List ℕ) →
    verdict_of b ≡ Accepted →
    is_state_of b bytes ≡ true →
    let s = timed_decoded bytes in
    AcceptedWith b s.ruling × (s.waiting.present ≡ true → AcceptedWith b s.waiting.times)

-- What bytes have to be for that, in full. They are in the form of a state; if no times wait, every waiting time is 0; and the rest is a valid state of the
-- personality with the ruling times.
pub record StateWith (b bytes : List ℕ) : Type 0 where
  pub form : is_timed bytes ≡ true
  pub ruling : AcceptedWith b (timed_decoded bytes).ruling
  pub waiting : (timed_decoded bytes).waiting.present ≡ true → AcceptedWith b (timed_decoded bytes).waiting.times
  pub none : (timed_decoded bytes).waiting.present ≡ false → blank (site_of b) (timed_decoded bytes).waiting.times ≡ true
  pub rest : kept_valid (site_of (with_times b (timed_decoded bytes).ruling)) (kept_of (timed_decoded bytes)) ≡ true

-- bytes are a state of an accepted personality exactly then
unfoldable pub StateExactly : Type 0
StateExactly =
    (b bytes : List ℕ) →
    verdict_of b ≡ Accepted →
    (is_state_of b bytes ≡ true → StateWith b bytes) × (StateWith b bytes → is_state_of b bytes ≡ true)
