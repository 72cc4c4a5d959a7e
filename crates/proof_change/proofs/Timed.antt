-- A timed step is the plain step under the times that ruled, or, if others take over, the plain step under those from the ready state. So it keeps
-- a timed state valid, and does to the rest of the state what the scanning step does.
use Prim.Native.Nat.{ℕ, ◌<◌}
use mathlib.Core.Bool.{Bool, true, false, not, ◌&&◌}
use mathlib.Core.List.{[]}
use mathlib.Core.Path.{◌≡◌, refl, sym, ap, ◌∙◌}
use lib.Dec.{ltb}
use lib.ListN.{get_or-replicate}
use Rattle.rules.specs.declared.site.Site.{Site}
use Rattle.rules.specs.declared.site.Times.{Times}
use Rattle.rules.specs.declared.state.KeptState.{KeptState}
use Rattle.rules.specs.declared.state.Position.{Position}
use Rattle.rules.specs.declared.state.State.{State}
use Rattle.std.specs.Prelude.{if◌then◌else◌, Option}
use Rattle.rules.specs.Limits.{limit_of, within}
use Rattle.rules.specs.Site.{no_phase_times, no_walk_times, phase_times, walk_times}
use Rattle.rules.specs.IntervalTable.{is_before_start}
use Rattle.rules.specs.State.{valid}
use Rattle.rules.specs.SiteTimes.{under, no_times, record_limits, phase_within, walk_within, times_within, admitted, blank}
use Rattle.rules.specs.Demands.{registers_lock, calls, next_demanded}
use Rattle.rules.specs.Step.{stepped_into, stepped}
use Rattle.rules.specs.Kept.{is_kept, kept_valid, kept_after, next_kept, kept_stepped_into, kept_stepped}
use Rattle.rules.specs.Timed.{TimedState, Waiting, kept_of, ruled_site, none_waiting, fresh_timed, waiting_valid, timed_valid, starts_next, takes_over, without_counts, ruling_next, timed_stepped}
use Rattle.rules.specs.Call.{wired, stray_input}
use Rattle.rules.specs.Laws.{Sound}
use Rattle.rules.specs.TimedLaws.{ready, starts_phase}
use Rattle.laws.proofs.Booleans.{and_left, and_right, and_both}
use Rattle.laws.proofs.Folds.{all-each}
use Rattle.proof_change.proofs.KeptValid.{kept-fresh-valid, kept-stepped-valid}
use Rattle.proof_kept.proofs.Scans.{next-kept}
use Rattle.proof_kept.proofs.Forgets.{stepped_same}
use Rattle.proof_change.proofs.Change.{change-same, ready-valid, change-position}
use Rattle.proof_change.proofs.Starts.{starts-before, follows, starts-shown}
use Rattle.proof_change.proofs.Admitted.{phase-blank, walk-blank, admitted-is-sound}

-- what a valid timed state tells
pub record ValidTimed (site : Site) (s : TimedState) : Type 0 where
  pub ruling : admitted site s.ruling ≡ true
  pub waiting : waiting_valid site s.waiting ≡ true
  pub rest : kept_valid (ruled_site site s) (kept_of s) ≡ true

pub timed-told : (site : Site) (s : TimedState) → timed_valid site s ≡ true → ValidTimed site s
unfolding timed_valid
timed-told site s v =
    let first = admitted site s.ruling in
    let second = waiting_valid site s.waiting in
    let both = and_left (first && second) _ v in
    record { ruling = and_left first second both; waiting = and_right first second both; rest = and_right (first && second) _ v }

pub timed-holds : (site : Site) (s : TimedState) → ValidTimed site s → timed_valid site s ≡ true
unfolding timed_valid
timed-holds site s v = and_both (and_both v.ruling v.waiting) v.rest

-- times that wait are admitted
pub waiting-admitted : (site : Site) (waiting : Waiting) → waiting_valid site waiting ≡ true → waiting.present ≡ true → admitted site waiting.times ≡ true
unfolding waiting_valid
waiting-admitted site waiting v e = rw e at v

-- if none wait, every time is 0
pub none-valid : (site : Site) → waiting_valid site none_waiting ≡ true
unfolding waiting_valid none_waiting blank times_within no_times phase_times walk_times within limit_of
none-valid site =
    and_both
    (all-each (λ p. phase_within (record_limits [] site.size.phases p) site.early (phase_times no_times p)) 7
    (λ p l. phase p l (ltb p site.size.phases) site.early))
    (all-each (λ k. walk_within (record_limits [] site.size.movements k) (walk_times no_times k)) 8
    (λ k l. walk k l (ltb k site.size.movements)))
  where
    phase : (p : ℕ) → p < 7 → (t early : Bool) → phase_within (if t then [] else []) early (phase_times no_times p) ≡ true
    phase p l true early = rw (get_or-replicate 7 p no_phase_times no_phase_times l) (phase-blank early)
    phase p l false early = rw (get_or-replicate 7 p no_phase_times no_phase_times l) (phase-blank early)

    walk : (k : ℕ) → k < 8 → (t : Bool) → walk_within (if t then [] else []) (walk_times no_times k) ≡ true
    walk k l true = rw (get_or-replicate 8 k no_walk_times no_walk_times l) walk-blank
    walk k l false = rw (get_or-replicate 8 k no_walk_times no_walk_times l) walk-blank

-- ── The fresh state ──

pub fresh-timed-valid : (site : Site) → Sound site → admitted site site.times ≡ true → timed_valid site (fresh_timed site) ≡ true
unfolding fresh_timed
fresh-timed-valid site sound ok =
    timed-holds site (fresh_timed site) (record { ruling = ok; waiting = none-valid site; rest = kept-fresh-valid site sound })

-- ── The step ──

-- the kept state from which a step is plain
unfoldable pub plain_state : Site → TimedState → KeptState
plain_state site s = if takes_over site s then ready (kept_of s) else kept_of s

module _ (site : Site) (sound : Sound site) (s : TimedState) (v : timed_valid site s ≡ true) where
  told : ValidTimed site s
  told = timed-told site s v

  pub old-sound : Sound (ruled_site site s)
  old-sound = admitted-is-sound site s.ruling sound told.ruling

  pub core-valid : valid (ruled_site site s) s.core ≡ true
  unfolding kept_valid
  core-valid = and_left (valid (ruled_site site s) s.core) _ told.rest

  module _ (over : takes_over site s ≡ true) where
    pub over-waits : s.waiting.present ≡ true
    unfolding takes_over
    over-waits = and_left s.waiting.present _ over

    pub over-starts : starts_next (ruled_site site s) s.core ≡ true
    unfolding takes_over
    over-starts = and_right s.waiting.present _ over

    over-admitted : admitted site s.waiting.times ≡ true
    over-admitted = waiting-admitted site s.waiting told.waiting over-waits

    pub new-sound : Sound (under site s.waiting.times)
    new-sound = admitted-is-sound site s.waiting.times sound over-admitted

    pub change-step :
        (inputs : ℕ) →
        kept_stepped_into s.waiting.times (ruled_site site s) (without_counts (kept_of s)) inputs
        ≡ kept_stepped (under site s.waiting.times) (ready (kept_of s)) inputs
    change-step inputs = change-same (ruled_site site s) s.waiting.times new-sound (kept_of s) inputs core-valid over-starts

  pub ready-timed : (new : Times) → kept_valid (under site new) (ready (kept_of s)) ≡ true
  ready-timed new = ready-valid (ruled_site site s) new (kept_of s) told.rest

  pub next-sound : Sound (under site (ruling_next site s))
  unfolding ruling_next
  next-sound = by (takes_over site s) refl
    where
      by : (t : Bool) → takes_over site s ≡ t → Sound (under site (if t then s.waiting.times else s.ruling))
      by true e = new-sound e
      by false e = old-sound

  pub plain-valid : kept_valid (under site (ruling_next site s)) (plain_state site s) ≡ true
  unfolding ruling_next plain_state
  plain-valid = by (takes_over site s)
    where
      by : (t : Bool) → kept_valid (under site (if t then s.waiting.times else s.ruling)) (if t then ready (kept_of s) else kept_of s) ≡ true
      by true = ready-timed s.waiting.times
      by false = told.rest

  -- a timed step is a plain step
  pub timed-is-plain : (inputs : ℕ) → kept_of (timed_stepped site s inputs) ≡ kept_stepped (under site (ruling_next site s)) (plain_state site s) inputs
  unfolding timed_stepped ruling_next plain_state kept_stepped
  timed-is-plain inputs = by (takes_over site s) refl
    where
      by :
          (t : Bool) →
          takes_over site s ≡ t →
          kept_stepped_into (if t then s.waiting.times else s.ruling) (ruled_site site s) (if t then without_counts (kept_of s) else kept_of s) inputs
          ≡ kept_stepped (under site (if t then s.waiting.times else s.ruling)) (if t then ready (kept_of s) else kept_of s) inputs
      by true e = change-step e inputs
      by false e = refl

  -- what rules and what waits after it
  next-admitted : admitted site (ruling_next site s) ≡ true
  unfolding ruling_next
  next-admitted = by (takes_over site s) refl
    where
      by : (t : Bool) → takes_over site s ≡ t → admitted site (if t then s.waiting.times else s.ruling) ≡ true
      by true e = over-admitted e
      by false e = told.ruling

  next-waiting : (t : Bool) → waiting_valid site (if t then none_waiting else s.waiting) ≡ true
  next-waiting true = none-valid site
  next-waiting false = told.waiting

  pub timed-stepped-valid : (inputs : ℕ) → stray_input site inputs ≡ false → timed_valid site (timed_stepped site s inputs) ≡ true
  unfolding timed_stepped stray_input wired
  timed-stepped-valid inputs stray =
      timed-holds site (timed_stepped site s inputs)
      (record {
        ruling = next-admitted;
        waiting = next-waiting (takes_over site s);
        rest =
            ap (λ (t : KeptState). kept_valid (under site (ruling_next site s)) t) (timed-is-plain inputs)
            ∙ kept-stepped-valid (under site (ruling_next site s)) next-sound (plain_state site s) inputs plain-valid stray;
      })

  -- and the scanning step, for the rest of the state
  pub timed-is-scanned : (inputs : ℕ) → (timed_stepped site s inputs).core ≡ stepped (under site (ruling_next site s)) (plain_state site s).core inputs
  timed-is-scanned inputs =
      ap (λ (t : KeptState). t.core) (timed-is-plain inputs)
      ∙ stepped_same (under site (ruling_next site s)) next-sound (plain_state site s) inputs plain-valid

  -- the step finds the next phase by a scan
  next-same : (t : Bool) (inputs : ℕ) → next_kept (ruled_site site s) (if t then without_counts (kept_of s) else kept_of s) inputs ≡ next_demanded (ruled_site site s) s.core inputs
  unfolding next_kept kept_after is_kept registers_lock calls
  next-same true inputs = next-kept (ruled_site site s) old-sound (kept_of s) inputs told.rest
  next-same false inputs = next-kept (ruled_site site s) old-sound (kept_of s) inputs told.rest

  pub timed-forgets :
      (inputs : ℕ) →
      (timed_stepped site s inputs).core
      ≡ stepped_into (ruling_next site s) (next_demanded (ruled_site site s) s.core inputs) (ruled_site site s)
      (if takes_over site s then without_counts (kept_of s) else kept_of s).core
      inputs
  unfolding timed_stepped
  timed-forgets inputs =
      ap
      (λ (next : Option ℕ).
      stepped_into (ruling_next site s) next (ruled_site site s) (if takes_over site s then without_counts (kept_of s) else kept_of s).core inputs)
      (next-same (takes_over site s) inputs)

  -- waiting times take over in the step exactly if it starts a phase
  pub over-at-start : (inputs : ℕ) → takes_over site s ≡ (s.waiting.present && starts_phase s.core (timed_stepped site s inputs).core)
  unfolding timed_stepped ruling_next takes_over kept_stepped
  over-at-start inputs = by (takes_over site s) refl
    where
      old : Site
      old = ruled_site site s

      after : Bool → State
      after t = (kept_stepped_into (if t then s.waiting.times else s.ruling) old (if t then without_counts (kept_of s) else kept_of s) inputs).core

      by : (t : Bool) → takes_over site s ≡ t → takes_over site s ≡ (s.waiting.present && starts_phase s.core (after t))
      by true e =
          let begun = change-position old s.waiting.times (kept_of s) inputs (over-starts e) in
          let shown : starts_phase s.core (after true) ≡ true =
          ap (λ (now : Position). is_before_start s.core.position.interval && not (is_before_start now.interval)) begun.1
          ∙ follows s.core.position.interval s.waiting.times begun.0 s.core.position
          ∙ starts-before old s.core (over-starts e) in
          e ∙ sym (and_both (over-waits e) shown)
      by false e =
          ap (λ (t : Bool). s.waiting.present && t)
          (sym
          (ap (λ (t : State). starts_phase s.core t) (stepped_same old old-sound (kept_of s) inputs told.rest)
          ∙ starts-shown old s.core inputs))
