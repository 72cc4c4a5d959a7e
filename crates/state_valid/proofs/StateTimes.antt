-- The times in the bytes of a state, test by test; and what is known of the site under them.
use Prim.Native.Nat.{ℕ, ◌<◌}
use mathlib.Core.Bool.{Bool, true, false}
use mathlib.Core.List.{List}
use mathlib.Core.Path.{◌≡◌, ap}
use native.Mathlib.Omega.{arith}
use lib.ListN.{length}
use Rattle.rules.specs.Verdicts.{Accepted}
use Rattle.laws.specs.Bytes.{byte_at}
use Rattle.rules.specs.Personality.{verdict_of, phase_count, movement_count, has_early}
use Rattle.rules.specs.Site.{site_of}
use Rattle.rules.specs.SiteTimes.{under, admitted, blank}
use Rattle.rules.specs.Kept.{kept_valid}
use Rattle.rules.specs.Timed.{TimedState, waiting_valid, timed_valid}
use Rattle.rules.specs.Laws.{Sound, AcceptedIsSound}
use Rattle.laws.proofs.Booleans.{and_left}
use Rattle.proof_acceptance.proofs.Acceptance.{accepted-is-sound}
use Rattle.proof_change.proofs.Admitted.{admitted-is-sound}
use Rattle.state_times.specs.TimesLayout.{times}
use Rattle.state_timed.specs.TimedLayout.{timed_bytes, is_timed, timed_decoded}
use Rattle.state_timed.proofs.TimedLaws.{timed-known}
use Rattle.state_valid.specs.StateOf.{is_state_of}
use Rattle.state_bytes.specs.Layout.{state}
use Rattle.state_times.specs.TimeRows.{site_times}
use Rattle.state_valid.specs.TimesValid.{times_valid}
use Rattle.state_valid.proofs.AdmittedTimes.{site-times}

-- a state has the length of one
pub timed_size : (b : List ℕ) → is_timed b ≡ true → length b ≡ timed_bytes
timed_size b known = (timed-known b known).size

module _ (b old : List ℕ) where
  abbrev s : TimedState
  s = timed_decoded old

  -- ── The tests of the times ──

  pub ruling-fails : admitted (site_of b) (times.read old 39) ≡ false → false ≡ times_valid b s
  unfolding timed_decoded
  ruling-fails e = rw e

  module _ {r : Bool} (ok : admitted (site_of b) (times.read old 39) ≡ true) where
    pub none-wait : byte_at old 187 ≡ 0 → r ≡ blank (site_of b) (times.read old 188) → r ≡ times_valid b s
    unfolding timed_decoded waiting_valid
    none-wait z e = rw (ok, z) e

    pub some-wait : (byte_at old 187 ≡ 0 → ⊥) → byte_at old 187 < 2 → r ≡ admitted (site_of b) (times.read old 188) → r ≡ times_valid b s
    unfolding timed_decoded waiting_valid
    some-wait z l e =
        let one : byte_at old 187 ≡ 1 = omega (arith, z, l) in
        rw (ok, one) e

  -- ── The check ──

  pub no-state : is_timed old ≡ false → false ≡ is_state_of b old
  unfolding is_state_of
  no-state other = rw other

  module _ (known : is_timed old ≡ true) where
    pub times-fail : times_valid b s ≡ false → false ≡ is_state_of b old
    unfolding is_state_of timed_valid
    times-fail fail = rw (known, fail)

    -- past the test of the times the site is the one under the ruling times
    pub rest-decides :
        {r : Bool} →
        times_valid b s ≡ true →
        r ≡ kept_valid (under (site_of b) (times.read old 39)) (state.read old 0) →
        r ≡ is_state_of b old
    unfolding is_state_of timed_valid timed_decoded
    rest-decides ok v = rw (known, ok) v

  pub ruling-admitted : times_valid b s ≡ true → admitted (site_of b) (times.read old 39) ≡ true
  unfolding timed_decoded
  ruling-admitted ok = and_left (admitted (site_of b) s.ruling) _ ok

-- ── The site under times that it may have ──

module _ (b bytes : List ℕ) (at : ℕ) (accepted : verdict_of b ≡ Accepted) (ok : admitted (site_of b) (times.read bytes at) ≡ true) where
  pub under-same :
      under (site_of b) (site_times (phase_count b) (movement_count b) (has_early b) bytes at) ≡ under (site_of b) (times.read bytes at)
  unfolding site_of AcceptedIsSound
  under-same =
      let sound = accepted-is-sound b accepted in
      ap (under (site_of b)) (site-times (site_of b) bytes at sound.phases.1 sound.movements ok)

  pub under-sound : Sound (under (site_of b) (times.read bytes at))
  unfolding AcceptedIsSound
  under-sound = admitted-is-sound (site_of b) (times.read bytes at) (accepted-is-sound b accepted) ok
