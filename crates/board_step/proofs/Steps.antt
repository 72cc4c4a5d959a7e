-- The step from a valid state: what its calls ask for, and that the state which they make is that of the rules. Neither the valid state nor the step
-- looks at the site's own times.
use Prim.Native.Nat.{ℕ}
use mathlib.Core.Bool.{Bool, true, false}
use mathlib.Core.List.{List, ◌++◌}
use mathlib.Core.Path.{◌≡◌, refl, sym, ap, ◌∙◌}
use lib.ListN.{drop}
use Rattle.rules.specs.declared.site.Site.{Site}
use Rattle.rules.specs.declared.site.Times.{Times}
use Rattle.rules.specs.declared.state.KeptState.{KeptState}
use Rattle.laws.specs.Bytes.{byte_at}
use Rattle.std.specs.Prelude.{if◌then◌else◌}
use Rattle.rules.specs.SiteTimes.{under}
use Rattle.rules.specs.Kept.{kept_valid, kept_stepped}
use Rattle.rules.specs.Timed.{TimedState, kept_of, ruled_site, none_waiting, starts_next, takes_over, ruling_next, timed_stepped}
use Rattle.rules.specs.Colours.{colours_of}
use Rattle.rules.specs.WaitBound.{wait_bound}
use Rattle.rules.specs.TimedLaws.{ready}
use Rattle.proof_change.proofs.Timed.{timed-told, plain_state, ready-timed, timed-is-plain}
use Rattle.state_timed.specs.TimedLayout.{settled, timed_decoded, timed_encoded}
use Rattle.board_step.specs.Accepted.{Stepping, takes_over_in, after, Steps}

-- The site and the state from which the plain step goes: the state is valid, the step is that of the rules, and the site has the times that rule
-- after it. `over` says if waiting times take over.
pub record Goes (site : Site) (old : List ℕ) (over : Bool) (new : Site) (from : KeptState) : Type 0 where
  pub valid : kept_valid new from ≡ true
  pub same :
      (inputs : ℕ) (next : KeptState) →
      next ≡ kept_stepped new from inputs →
      after new next over (timed_decoded old) ≡ timed_stepped site (timed_decoded old) inputs
  pub ruled : under site (if over then new.times else (timed_decoded old).ruling) ≡ new

module _ (site : Site) (before : KeptState) (old : List ℕ) (given : Stepping site before old) where
  abbrev s : TimedState
  s = timed_decoded old

  abbrev own : Site
  own = given.own

  -- ── The state and the site ──

  pub kept-valid : kept_valid site before ≡ true
  kept-valid = rw (given.ruled, given.kept) (timed-told own s given.valid).rest

  same-times : under site s.ruling ≡ site
  same-times = ap (λ (x : Site). under x s.ruling) given.ruled ∙ sym given.ruled

  same-others : (times : Times) → under site times ≡ under own times
  same-others times = ap (λ (x : Site). under x times) given.ruled

  same_over : takes_over site s ≡ takes_over own s
  unfolding takes_over
  same_over = ap (λ (x : Site). takes_over x s) given.ruled

  same_step : (inputs : ℕ) → timed_stepped site s inputs ≡ timed_stepped own s inputs
  unfolding timed_stepped ruling_next takes_over
  same_step inputs = ap (λ (x : Site). timed_stepped x s inputs) given.ruled

  -- ── Whether times take over ──

  pub none-waits : byte_at old 187 ≡ 0 → false ≡ takes_over_in site old
  unfolding takes_over timed_decoded
  none-waits zero = rw zero

  pub by-start : {r : Bool} → s.waiting.present ≡ true → r ≡ starts_next site before.core → r ≡ takes_over_in site old
  unfolding takes_over
  by-start waits e = rw (waits, same-times) (rw given.kept at e)

  -- ── The next state ──

  plain_by :
      (inputs : ℕ) (t : Bool) →
      takes_over own s ≡ t →
      kept_of (timed_stepped own s inputs)
      ≡ kept_stepped (under own (if t then s.waiting.times else s.ruling)) (if t then ready (kept_of s) else kept_of s) inputs
  unfolding ruling_next plain_state
  plain_by inputs t e =
      timed-is-plain own given.sound s given.valid inputs
      ∙ ap (λ (t : Bool). kept_stepped (under own (if t then s.waiting.times else s.ruling)) (if t then ready (kept_of s) else kept_of s) inputs) e

  -- the state that has such a rest, and the times by whether they take over
  abbrev with_times : Bool → KeptState → TimedState
  with_times t k =
      record {
        core = k.core;
        kept = k.kept;
        ruling = if t then s.waiting.times else s.ruling;
        waiting = if t then none_waiting else s.waiting;
      }

  next-by : (inputs : ℕ) (t : Bool) → takes_over own s ≡ t → with_times t (kept_of (timed_stepped own s inputs)) ≡ timed_stepped own s inputs
  unfolding timed_stepped ruling_next
  next-by inputs t e = ap (λ (t : Bool). with_times t (kept_of (timed_stepped own s inputs))) (sym e)

  pub changed :
      (inputs : ℕ) (next : KeptState) →
      takes_over_in site old ≡ true →
      next ≡ kept_stepped (under site s.waiting.times) (ready before) inputs →
      settled s.waiting.times next ≡ timed_stepped site s inputs
  changed inputs next over e =
      let over' = sym same_over ∙ over in
      ap (with_times true)
      (e
      ∙ ap (λ (x : Site). kept_stepped x (ready before) inputs) (same-others s.waiting.times)
      ∙ ap (λ (k : KeptState). kept_stepped (under own s.waiting.times) (ready k) inputs) given.kept
      ∙ sym (plain_by inputs true over'))
      ∙ next-by inputs true over'
      ∙ sym (same_step inputs)

  pub stayed :
      (inputs : ℕ) (next : KeptState) →
      takes_over_in site old ≡ false →
      next ≡ kept_stepped site before inputs →
      record { core = next.core; kept = next.kept; ruling = s.ruling; waiting = s.waiting } ≡ timed_stepped site s inputs
  stayed inputs next over e =
      let over' = sym same_over ∙ over in
      ap (with_times false)
      (e
      ∙ ap (λ (x : Site). kept_stepped x before inputs) given.ruled
      ∙ ap (λ (k : KeptState). kept_stepped (ruled_site own s) k inputs) given.kept
      ∙ sym (plain_by inputs false over'))
      ∙ next-by inputs false over'
      ∙ sym (same_step inputs)

  -- ── The site and the state from which the plain step goes ──

  pub goes_over :
      {over : Bool} {new : Site} {from : KeptState} →
      over ≡ takes_over_in site old →
      over ≡ true →
      new ≡ under site s.waiting.times →
      from ≡ ready before →
      Goes site old over new from
  goes_over takes e read from =
      let news = s.waiting.times in
      let over = sym takes ∙ e in
      rw (e, read, from)
      (record {
        valid =
            ap (λ (x : Site). kept_valid x (ready before)) (same-others news)
            ∙ ap (λ (k : KeptState). kept_valid (under own news) (ready k)) given.kept
            ∙ ready-timed own given.sound s given.valid news;
        same = λ inputs next. changed inputs next over;
        ruled = refl;
      })

  pub goes_on :
      {over : Bool} {new : Site} {from : KeptState} →
      over ≡ takes_over_in site old →
      over ≡ false →
      new ≡ site →
      from ≡ before →
      Goes site old over new from
  goes_on takes e same from =
      rw (e, same, from)
      (record { valid = kept-valid; same = λ inputs next. stayed inputs next (sym takes ∙ e); ruled = same-times })

  -- ── What the call gives ──

  pub steps :
      {over : Bool} {new : Site} {from : KeptState} (goes : Goes site old over new from) (inputs : ℕ) (buffer : List ℕ) (next : KeptState)
      {wait : ℕ} {bytes out : List ℕ} →
      next ≡ kept_stepped new from inputs →
      bytes ≡ timed_encoded (after new next over s) →
      (wait ≡ wait_bound new) × (out ≡ colours_of new next.core ++ drop new.size.groups buffer) →
      Steps site old inputs buffer wait bytes out
  steps {over} {new} goes inputs buffer next e n shown =
      let same = goes.same inputs next e in
      record {
        waits =
            shown.0
            ∙ ap wait_bound (sym goes.ruled)
            ∙ ap (λ (x : TimedState). wait_bound (ruled_site site x)) same;
        stored = n ∙ ap timed_encoded same;
        shown =
            shown.1
            ∙ ap (λ (x : Site). colours_of x next.core ++ drop x.size.groups buffer) (sym goes.ruled)
            ∙ ap (λ (x : TimedState). colours_of (ruled_site site x) x.core ++ drop site.size.groups buffer) same;
      }
