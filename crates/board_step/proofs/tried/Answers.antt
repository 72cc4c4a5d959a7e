-- Check by check: a refused personality, bytes that are no valid state, a stray input, a short buffer. Then the step, in which waiting times
-- take over or not.
use Rattle.std.proofs.Common.{ℕ, Bool, List, ◌≡◌, ◌∙◌, true, sym, ap, arith}
use lib.ListN.{length}
use borrow.Author.Tests.{lt-ltb, le-ltb}
use Rattle.std.proofs.lemmas.Result.{err_from_is_err_and}
use Rattle.rules.specs.declared.site.Site.{Site}
use Rattle.rules.specs.Verdicts.{Accepted, verdict}
use Rattle.rules.specs.Personality.{verdict_of}
use Rattle.rules.specs.Site.{site_of}
use Rattle.rules.specs.SiteTimes.{under}
use Rattle.rules.specs.Timed.{kept_of, ruled_site}
use Rattle.rules.specs.Call.{wired, stray_input}
use Rattle.state_times.specs.TimesLayout.{times as times_form}
use Rattle.state_timed.specs.TimedLayout.{is_timed, timed_decoded}
use Rattle.state_timed.proofs.TimedLaws.{TimedKnown, timed-known}
use Rattle.state_valid.specs.StateOf.{is_state_of}
use Rattle.state_valid.specs.TimesValid.{times_valid}
use Rattle.state_valid.proofs.StateTimes.{no-state as none, times-fail, rest-decides, ruling-admitted}
use Rattle.board_step.specs.Accepted.{Stepping}
use Rattle.board_step.proofs.Steps.{Goes, goes_over, goes_on, steps as made}
use Rattle.board_step.proofs.StepCalls.{not-read, no-state, stepping, may_rule, stray, no_room, steps}
use Rattle.board_step.proofs.tried.Goals as goal
use Rattle.board_step.proofs.tried.Goals.{In_ok-p, Else-not-times_valid, Else-not-kept_valid, Joined-over, then-over, else-over, then-not-is_timed-via-then-not-is_timed, then-not-is_timed-via-else-not-is_timed+then-not-times_valid}

-- ── The personality ──

pub returns-in_err-p : goal.returns-in_err-p
unfolding verdict
returns-in_err-p c =
    let a = c.args in
    let p = err_from_is_err_and c.from_residual.result c.from_residual.ensures.1 in
    rw (p.1, p.2) (not-read a.personality.now a.state.now a.inputs a.colours.now (sym c.in_err-p.ensures.verdict))

accepted : (c : In_ok-p) → verdict_of c.args.personality.now ≡ Accepted
unfolding verdict
accepted c = sym c.in_ok-p.ensures.verdict

-- ── The state ──

pub returns-then-not-is_timed : goal.returns-then-not-is_timed
returns-then-not-is_timed c =
    let a = c.args in
    let b = a.personality.now in
    let old = a.state.now in
    no-state b old a.inputs a.colours.now (accepted (goal.at.returns-then-not-is_timed c).In_ok-p)
    (elim c.then-not-is_timed.branch [
      | then-not-is_timed-via-then-not-is_timed w ↦ sym (none b old (sym c.is_timed.ensures ∙ w.if-not-is_timed.true))
      | then-not-is_timed-via-else-not-is_timed+then-not-times_valid w ↦
          sym
          (times-fail b old (sym c.is_timed.ensures ∙ w.if-not-is_timed.false)
          (rw c.in_ok-p.ensures.bytes at (sym w.times_valid.ensures ∙ w.if-not-times_valid.true)))
    ])

-- what is known of bytes of a state whose times are valid
module _ (c : Else-not-times_valid) where
  known : is_timed c.args.state.now ≡ true
  known = sym c.is_timed.ensures ∙ c.if-not-is_timed.false

  sizes : TimedKnown c.args.state.now
  sizes = timed-known c.args.state.now known

  times : times_valid c.args.personality.now (timed_decoded c.args.state.now) ≡ true
  times = rw c.in_ok-p.ensures.bytes at (sym c.times_valid.ensures ∙ c.if-not-times_valid.false)

pub site_under-site-requires : goal.site_under-site-requires
site_under-site-requires c =
    let at = (goal.at.site_under-site-requires c).Else-not-times_valid in
    (omega (arith, (sizes at).size), rw c.in_ok-p.ensures.bytes (ruling-admitted c.args.personality.now c.args.state.now (times at)))

pub read-before-requires : goal.read-before-requires
read-before-requires c =
    let known = sizes (goal.at.read-before-requires c).Else-not-times_valid in
    (omega (arith, known.size), known.kept-known)

pub returns-then-not-kept_valid : goal.returns-then-not-kept_valid
returns-then-not-kept_valid c =
    let a = c.args in
    let b = a.personality.now in
    let at = goal.at.returns-then-not-kept_valid c in
    let t = at.Else-not-times_valid in
    let under-times = rw c.in_ok-p.ensures.bytes at c.site_under-site.ensures in
    no-state b a.state.now a.inputs a.colours.now (accepted at.In_ok-p)
    (sym (rest-decides b a.state.now (known t) (times t) (rw (under-times, c.read-before.ensures) at c.kept_valid.ensures))
    ∙ c.if-not-kept_valid.true)

-- what is known of a valid state of an accepted personality
module _ (c : Else-not-kept_valid) where
  taken : verdict_of c.args.personality.now ≡ Accepted
  unfolding verdict
  taken = sym c.in_ok-p.ensures.verdict

  read-as : is_timed c.args.state.now ≡ true
  read-as = sym c.is_timed.ensures ∙ c.if-not-is_timed.false

  under-times : c.site_under-site.result ≡ under (site_of c.args.personality.now) (times_form.read c.args.state.now 39)
  under-times = rw c.in_ok-p.ensures.bytes at c.site_under-site.ensures

  state-valid : is_state_of c.args.personality.now c.args.state.now ≡ true
  state-valid =
      sym
      (rest-decides c.args.personality.now c.args.state.now read-as
      (rw c.in_ok-p.ensures.bytes at (sym c.times_valid.ensures ∙ c.if-not-times_valid.false))
      (rw (under-times, c.read-before.ensures) at c.kept_valid.ensures))
      ∙ c.if-not-kept_valid.false

  ruled : c.site_under-site.result ≡ ruled_site (site_of c.args.personality.now) (timed_decoded c.args.state.now)
  unfolding timed_decoded
  ruled = under-times

  rest : c.read-before.result ≡ kept_of (timed_decoded c.args.state.now)
  unfolding timed_decoded
  rest = c.read-before.ensures

  ready : Stepping c.site_under-site.result c.read-before.result c.args.state.now
  ready =
      let a = c.args in
      stepping a.personality.now a.state.now a.inputs a.colours.now taken state-valid ruled rest

  groups : c.site.inside.site.size.groups ≡ (site_of c.args.personality.now).size.groups
  groups = ap (λ (x : Site). x.size.groups) (c.site.view_is ∙ ruled)

-- ── The inputs ──

-- the inputs of the site and of the one under the ruling times are the same
tested :
    (b state : List ℕ) (inputs : ℕ) (site : Site) (stray : Bool) →
    site ≡ ruled_site (site_of b) (timed_decoded state) →
    stray ≡ stray_input site inputs →
    stray ≡ stray_input (site_of b) inputs
unfolding stray_input wired
tested b state inputs site stray e own = own ∙ ap (λ (x : Site). stray_input x inputs) e

pub returns-then-stray_input : goal.returns-then-stray_input
returns-then-stray_input c =
    let a = c.args in
    let at = (goal.at.returns-then-stray_input c).Else-not-kept_valid in
    let same = tested a.personality.now a.state.now a.inputs c.site_under-site.result c.stray_input.result (ruled at) c.stray_input.ensures in
    stray a.personality.now a.state.now a.inputs a.colours.now (taken at) (state-valid at) (sym same ∙ c.if-stray_input.true)

-- ── The buffer ──

pub returns-then-colours-from : goal.returns-then-colours-from
returns-then-colours-from c =
    let a = c.args in
    let at = (goal.at.returns-then-colours-from c).Else-not-kept_valid in
    let same = tested a.personality.now a.state.now a.inputs c.site_under-site.result c.stray_input.result (ruled at) c.stray_input.ensures in
    no_room a.personality.now a.state.now a.inputs a.colours.now (taken at) (state-valid at) (sym same ∙ c.if-stray_input.false)
    (lt-ltb (length a.colours.now) _ (omega (arith, groups at)))

-- ── A step ──

pub takes_over-over-requires : goal.takes_over-over-requires
takes_over-over-requires c = ready (goal.at.takes_over-over-requires c).Else-not-kept_valid

pub site_under-site-requires-then-over : goal.site_under-site-requires-then-over
site_under-site-requires-then-over c =
    let a = c.args in
    let v = (goal.at.site_under-site-requires-then-over c).Else-not-kept_valid in
    let over = sym c.takes_over-over.ensures ∙ c.if-over.true in (
      omega (arith, (timed-known a.state.now (read-as v)).size),
      rw c.in_ok-p.ensures.bytes
          (may_rule a.personality.now a.state.now a.inputs a.colours.now (taken v) (state-valid v) c.site_under-site.result over),
    )

-- the site and the state from which the step goes, by whether waiting times take over
goes :
    (c : Joined-over) →
    c.site_under-site.result ≡ ruled_site (site_of c.args.personality.now) (timed_decoded c.args.state.now) →
    Stepping c.site_under-site.result c.read-before.result c.args.state.now →
    Goes c.site_under-site.result c.args.state.now c.takes_over-over.result c.if-over.site c.if-over.before
unfolding timed_decoded
goes c ruled ready =
    let old = c.args.state.now in
    let site = c.site_under-site.result in
    let takes = c.takes_over-over.ensures in
    elim c.if-over.branch [
      | then-over w ↦
          goes_over site c.read-before.result old ready takes w.if-over.true
          (w.site-is
          ∙ rw c.in_ok-p.ensures.bytes at w.site_under-site-then-over.ensures
          ∙ ap (λ (x : Site). under x (timed_decoded old).waiting.times) (sym ruled))
          (w.before-is ∙ w.ready-before.ensures)
      | else-over w ↦ goes_on site c.read-before.result old ready takes w.if-over.false w.site-is w.before-is
    ]

pub kept_stepped-next-requires : goal.kept_stepped-next-requires
kept_stepped-next-requires c =
    let at = goal.at.kept_stepped-next-requires c in
    let v = at.Else-not-kept_valid in
    (goes at.Joined-over (ruled v) (ready v)).valid

pub returns : goal.returns
returns c =
    let a = c.args in
    let at = goal.at.returns c in
    let v = at.Else-not-kept_valid in
    let by = goes at.Joined-over (ruled v) (ready v) in
    let same = tested a.personality.now a.state.now a.inputs c.site_under-site.result c.stray_input.result (ruled v) c.stray_input.ensures in
    steps a.personality.now a.state.now a.inputs a.colours.now (taken v) (state-valid v) (sym same ∙ c.if-stray_input.false)
    (le-ltb (length a.colours.now) _ (omega (arith, groups v, c.if-colours-from.false, c.from.ensures)))
    (ruled v)
    (made c.site_under-site.result c.read-before.result a.state.now (ready v) by a.inputs a.colours.now c.kept_stepped-next.result
    c.kept_stepped-next.ensures
    c.put_next.ensures
    c.shown.ensures)
