-- A valid state has admitted times, and admitted times are those with which the personality is accepted. Times that are read from bytes have seven phases and
-- eight movements, whatever the bytes are.
use Prim.Native.Nat.{ℕ}
use mathlib.Core.Bool.{Bool, true, false}
use mathlib.Core.List.{List}
use mathlib.Core.Path.{◌≡◌, refl, sym, ap, ◌∙◌}
use lib.ListN.{length}
use Rattle.rules.specs.Verdicts.{Accepted}
use Rattle.rules.specs.declared.site.Site.{Site}
use Rattle.rules.specs.declared.site.Times.{Times}
use Rattle.rules.specs.Personality.{verdict_of}
use Rattle.rules.specs.Site.{site_of}
use Rattle.rules.specs.SiteTimes.{admitted, blank}
use Rattle.rules.specs.Kept.{kept_valid}
use Rattle.rules.specs.Timed.{TimedState, Waiting, kept_of, waiting_valid, timed_valid}
use Rattle.rules.specs.TimedLaws.{AdmittedIsAccepted}
use Rattle.laws.proofs.Booleans.{and_left, and_right, and_both}
use Rattle.laws.proofs.Lists.{list_length}
use Rattle.proof_change.proofs.Timed.{timed-told, timed-holds, waiting-admitted}
use Rattle.proof_time_bytes.proofs.Put.{admitted-is-accepted}
use Rattle.state_timed.specs.TimedLayout.{is_timed, timed_decoded}
use Rattle.state_valid.specs.StateOf.{is_state_of}
use Rattle.proof_state_times.specs.StateTimes.{AcceptedWith, StateWouldBeAccepted, StateWith, StateExactly}

-- ── Times with rows of seven and eight ──

module _ (b : List ℕ) (known : verdict_of b ≡ Accepted) (times : Times) (seven : length times.phases ≡ 7) (eight : length times.walks ≡ 8) where
  accepted-with : admitted (site_of b) times ≡ true → AcceptedWith b times
  unfolding AdmittedIsAccepted
  accepted-with ok =
      let told = (admitted-is-accepted b known times seven eight).0 ok in
      record { accepted = told.0; site = told.1 }

  admitted-with : AcceptedWith b times → admitted (site_of b) times ≡ true
  unfolding AdmittedIsAccepted
  admitted-with with = (admitted-is-accepted b known times seven eight).1 with.accepted with.site

-- if none wait, every time is 0
waiting-blank : (site : Site) (waiting : Waiting) → waiting_valid site waiting ≡ true → waiting.present ≡ false → blank site waiting.times ≡ true
unfolding waiting_valid
waiting-blank site waiting v e = rw e at v

waiting-holds :
    (site : Site) (waiting : Waiting) →
    (waiting.present ≡ true → admitted site waiting.times ≡ true) →
    (waiting.present ≡ false → blank site waiting.times ≡ true) →
    waiting_valid site waiting ≡ true
unfolding waiting_valid
waiting-holds site waiting some none = by waiting.present refl
  where
    by : (t : Bool) → waiting.present ≡ t → waiting_valid site waiting ≡ true
    by true e = rw e (some e)
    by false e = rw e (none e)

-- ── The bytes of a state ──

module _ (b bytes : List ℕ) (known : verdict_of b ≡ Accepted) where
  abbrev s : TimedState
  s = timed_decoded bytes

  ruling-seven : length s.ruling.phases ≡ 7
  unfolding timed_decoded
  ruling-seven = list_length _ 7

  ruling-eight : length s.ruling.walks ≡ 8
  unfolding timed_decoded
  ruling-eight = list_length _ 8

  waiting-seven : length s.waiting.times.phases ≡ 7
  unfolding timed_decoded
  waiting-seven = list_length _ 7

  waiting-eight : length s.waiting.times.walks ≡ 8
  unfolding timed_decoded
  waiting-eight = list_length _ 8

  told : is_state_of b bytes ≡ true → StateWith b bytes
  unfolding is_state_of
  told ok =
      let valid = timed-told (site_of b) s (and_right (is_timed bytes) (timed_valid (site_of b) s) ok) in
      let ruling = accepted-with b known s.ruling ruling-seven ruling-eight valid.ruling in
      record {
        form = and_left (is_timed bytes) (timed_valid (site_of b) s) ok;
        ruling = ruling;
        waiting =
            λ some. accepted-with b known s.waiting.times waiting-seven waiting-eight (waiting-admitted (site_of b) s.waiting valid.waiting some);
        none = waiting-blank (site_of b) s.waiting valid.waiting;
        rest = ap (λ (site : Site). kept_valid site (kept_of s)) ruling.site ∙ valid.rest;
      }

  holds : StateWith b bytes → is_state_of b bytes ≡ true
  unfolding is_state_of
  holds with =
      and_both with.form
      (timed-holds (site_of b) s
      (record {
        ruling = admitted-with b known s.ruling ruling-seven ruling-eight with.ruling;
        waiting =
            waiting-holds (site_of b) s.waiting
            (λ some. admitted-with b known s.waiting.times waiting-seven waiting-eight (with.waiting some))
            with.none;
        rest = sym (ap (λ (site : Site). kept_valid site (kept_of s)) with.ruling.site) ∙ with.rest;
      }))

pub state-exactly : StateExactly
unfolding StateExactly
state-exactly b bytes known = (told b bytes known, holds b bytes known)

pub state-would-be-accepted : StateWouldBeAccepted
unfolding StateWouldBeAccepted
state-would-be-accepted b bytes known ok = let with = told b bytes known ok in (with.ruling, with.waiting)
