-- A step call, check by check: each decides the verdict once the checks before it have passed, and the verdict decides the answer, the state's bytes and
-- the colours.
use Prim.Native.Nat.{ℕ}
use mathlib.Core.Bool.{true, false}
use mathlib.Core.List.{List}
use mathlib.Core.Path.{◌≡◌, refl, ap, subst}
use lib.Dec.{ltb}
use lib.ListN.{length}
use Rattle.std.specs.Prelude.{Err}
use Rattle.rules.specs.declared.answer.Refusal.{Refusal}
use Rattle.rules.specs.Verdicts.{Outcome, Stepped, StepRefused, Accepted, Refused}
use Rattle.rules.specs.declared.site.Site.{Site}
use Rattle.rules.specs.declared.state.KeptState.{KeptState}
use Rattle.rules.specs.Verdicts.{◌or_else◌, refuse_if}
use Rattle.rules.specs.Personality.{verdict_of}
use Rattle.rules.specs.Site.{site_of}
use Rattle.rules.specs.SiteTimes.{admitted}
use Rattle.rules.specs.Timed.{kept_of, ruled_site, ruling_next, takes_over, timed_stepped}
use Rattle.rules.specs.WaitBound.{wait_bound}
use Rattle.rules.specs.Call.{stray_input, step_verdict, bound_for, handed_back, buffer_for}
use Rattle.rules.specs.Laws.{AcceptedIsSound}
use Rattle.laws.proofs.Booleans.{and_left, and_right}
use Rattle.proof_acceptance.proofs.Acceptance.{accepted-is-sound}
use Rattle.proof_change.proofs.Timed.{timed-told, waiting-admitted}
use Rattle.state_times.specs.TimesLayout.{times}
use Rattle.state_timed.specs.TimedLayout.{is_timed, timed_decoded}
use Rattle.state_valid.specs.StateOf.{is_state_of}
use Rattle.board_answers.specs.Answers.{packed}
use Rattle.board_answers.proofs.Answers.{outcome-declined}
use Rattle.board_step.specs.StepCall.{step_checks, stepped_in, step_answer, state_after, colours_after}
use Rattle.board_step.specs.Accepted.{Stepping, takes_over_in, Steps}

-- what a call answers, with the state's bytes and the colours as they return
abbrev pub Answers : List ℕ → List ℕ → ℕ → List ℕ → ℕ → List ℕ → List ℕ → Type 0
Answers b old inputs buffer r new out =
    (r ≡ step_answer b old inputs (length buffer))
    × (new ≡ state_after b old inputs (length buffer))
    × (out ≡ colours_after b old inputs buffer)

-- the same before the answer is packed
abbrev pub Tries : List ℕ → List ℕ → ℕ → List ℕ → Outcome → List ℕ → List ℕ → Type 0
Tries b old inputs buffer o new out =
    (o ≡ bound_for (step_checks b old inputs (length buffer)) (wait_bound (ruled_site (site_of b) (stepped_in b old inputs))))
    × (new ≡ state_after b old inputs (length buffer))
    × (out ≡ colours_after b old inputs buffer)

module _ (b old : List ℕ) (inputs : ℕ) (buffer : List ℕ) where
  keeps : {r : Refusal} → step_checks b old inputs (length buffer) ≡ Err r → Tries b old inputs buffer (Err r) old buffer
  unfolding state_after colours_after bound_for handed_back buffer_for
  keeps e = (rw e, rw e, rw e)

  pub not-read : {r : Refusal} → verdict_of b ≡ Err r → Tries b old inputs buffer (Err r) old buffer
  unfolding step_checks ◌or_else◌
  not-read e = keeps (rw e)

  pub refused :
      (r : ℕ) {number place : ℕ} → verdict_of b ≡ Refused number place → r ≡ packed number place → Answers b old inputs buffer r old buffer
  unfolding step_answer
  refused r e p =
      let kept = not-read e in
      (outcome-declined _ _ r kept.0 refl p, kept.1, kept.2)

  module _ (accepted : verdict_of b ≡ Accepted) where
    pub no-state : is_state_of b old ≡ false → Tries b old inputs buffer (StepRefused 13 0) old buffer
    unfolding step_checks step_verdict ◌or_else◌ refuse_if
    no-state e = keeps (rw (accepted, e))

    module _ (valid : is_state_of b old ≡ true) where
      -- the bytes hold a state from which the step goes
      pub stepping :
          {site : Site} {before : KeptState} →
          site ≡ ruled_site (site_of b) (timed_decoded old) →
          before ≡ kept_of (timed_decoded old) →
          Stepping site before old
      unfolding is_state_of AcceptedIsSound
      stepping ruled kept =
          record {
            own = site_of b;
            sound = accepted-is-sound b accepted;
            known = and_left (is_timed old) _ valid;
            valid = and_right (is_timed old) _ valid;
            ruled = ruled;
            kept = kept;
          }

      -- waiting times that take over are times that the site may have
      pub may_rule : (site : Site) → takes_over_in site old ≡ true → admitted (site_of b) (times.read old 188) ≡ true
      unfolding is_state_of timed_decoded takes_over
      may_rule site over =
          let s = timed_decoded old in
          let told = timed-told (site_of b) s (and_right (is_timed old) _ valid) in
          waiting-admitted (site_of b) s.waiting told.waiting (and_left s.waiting.present _ over)

      pub stray : stray_input (site_of b) inputs ≡ true → Tries b old inputs buffer (StepRefused 15 0) old buffer
      unfolding step_checks step_verdict ◌or_else◌ refuse_if
      stray e = keeps (rw (accepted, valid, e))

      module _ (wired_only : stray_input (site_of b) inputs ≡ false) where
        pub no_room : ltb (length buffer) (site_of b).size.groups ≡ true → Tries b old inputs buffer (StepRefused 14 0) old buffer
        unfolding step_checks step_verdict ◌or_else◌ refuse_if
        no_room e = keeps (rw (accepted, valid, wired_only, e))

        pub steps :
            {wait : ℕ} {new out : List ℕ} {site : Site} →
            ltb (length buffer) (site_of b).size.groups ≡ false →
            site ≡ ruled_site (site_of b) (timed_decoded old) →
            Steps site old inputs buffer wait new out →
            Tries b old inputs buffer (Stepped wait) new out
        unfolding state_after colours_after step_checks step_verdict stepped_in ◌or_else◌ refuse_if bound_for handed_back buffer_for timed_stepped ruling_next takes_over
        steps {wait} {new} {out} room ruled given =
            let own = subst (λ (x : Site). Steps x old inputs buffer wait new out) ruled given in (
              rw (accepted, valid, wired_only, room) (ap (λ (w : ℕ). Stepped w) own.waits),
              rw (accepted, valid, wired_only, room) own.stored,
              rw (accepted, valid, wired_only, room) own.shown,
            )
