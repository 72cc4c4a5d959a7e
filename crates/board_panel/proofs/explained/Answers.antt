-- Check by check: a refused personality, bytes that are no valid state, a stray input. Then the line is empty or says why.
use Rattle.std.proofs.Common.{ℕ, Bool, List, refl, ◌≡◌, ◌∙◌, true, false, sym, ap, arith}
use Rattle.std.proofs.lemmas.Result.{err_from_is_err_and}
use Rattle.rules.specs.declared.site.Site.{Site}
use Rattle.rules.specs.Verdicts.{Accepted, verdict}
use Rattle.rules.specs.Personality.{verdict_of}
use Rattle.rules.specs.Site.{site_of}
use Rattle.rules.specs.Timed.{ruled_site, kept_of}
use Rattle.rules.specs.Call.{wired, stray_input}
use Rattle.state_timed.specs.TimedLayout.{timed_decoded}
use Rattle.state_timed.proofs.TimedLaws.{TimedKnown, timed-known}
use Rattle.state_valid.specs.StateOf.{is_state_of}
use Rattle.state_valid.proofs.StateTimes.{no-state as none, times-fail, rest-decides, ruling-admitted}
use Rattle.board_answers.proofs.Answers.{refused-near}
use Rattle.board_panel.proofs.PanelCalls.{refused, no-state, stray, passed, site-sound, kept-valid, silent}
use Rattle.board_panel.proofs.explained.Goals as goal
use Rattle.board_panel.proofs.explained.Goals.{In_ok-p, Else-not-is_timed, After-kept_valid, Else-not-kept_valid, then-not-is_timed-via-then-not-is_timed, then-not-is_timed-via-else-not-is_timed+then-not-times_valid}

-- ── The personality ──

pub returns-in_err-p : goal.returns-in_err-p
unfolding verdict
returns-in_err-p c =
    let a = c.args in
    let told = sym c.in_err-p.ensures.verdict in
    let p = err_from_is_err_and c.from_residual.result c.from_residual.ensures.1 in
    rw (p.1, p.2) (refused a.personality.now a.state.now a.inputs told, refused-near a.personality.now _ (sym told) refl)

accepted : (c : In_ok-p) → verdict_of c.args.personality.now ≡ Accepted
unfolding verdict
accepted c = sym c.in_ok-p.ensures.verdict

-- ── The state ──

pub returns-then-not-is_timed : goal.returns-then-not-is_timed
returns-then-not-is_timed c =
    let a = c.args in
    let b = a.personality.now in
    let other : false ≡ is_state_of b a.state.now =
    elim c.then-not-is_timed.branch [
      | then-not-is_timed-via-then-not-is_timed w ↦ none b a.state.now (sym c.is_timed.ensures ∙ w.if-not-is_timed.true)
      | then-not-is_timed-via-else-not-is_timed+then-not-times_valid w ↦
          times-fail b a.state.now (sym c.is_timed.ensures ∙ w.if-not-is_timed.false)
          (rw c.in_ok-p.ensures.bytes at (sym w.times_valid.ensures ∙ w.if-not-times_valid.true))
    ]
    in
    (no-state b a.state.now a.inputs (accepted (goal.at.returns-then-not-is_timed c).In_ok-p) (sym other), omega arith)

sizes : (c : Else-not-is_timed) → TimedKnown c.args.state.now
sizes c = timed-known c.args.state.now (sym c.is_timed.ensures ∙ c.if-not-is_timed.false)

pub site_under-site-requires : goal.site_under-site-requires
site_under-site-requires c = (
  omega (arith, (sizes (goal.at.site_under-site-requires c).Else-not-is_timed).size),
  ruling-admitted _ _ (sym c.times_valid.ensures ∙ c.if-not-times_valid.false),
)

pub read-kept-requires : goal.read-kept-requires
read-kept-requires c =
    let known = sizes (goal.at.read-kept-requires c).Else-not-is_timed in
    (omega (arith, known.size), known.kept-known)

-- what the check of the rest of the state says
module _ (c : After-kept_valid) where
  decided : c.kept_valid.result ≡ is_state_of c.args.personality.now c.args.state.now
  decided =
      rest-decides c.args.personality.now c.args.state.now (sym c.is_timed.ensures ∙ c.if-not-is_timed.false)
      (rw c.in_ok-p.ensures.bytes at (sym c.times_valid.ensures ∙ c.if-not-times_valid.false))
      (rw (c.site_under-site.ensures, c.read-kept.ensures, c.in_ok-p.ensures.bytes) at c.kept_valid.ensures)

pub returns-then-not-kept_valid : goal.returns-then-not-kept_valid
returns-then-not-kept_valid c =
    let a = c.args in
    let at = goal.at.returns-then-not-kept_valid c in
    (no-state a.personality.now a.state.now a.inputs (accepted at.In_ok-p) (sym (decided at.After-kept_valid) ∙ c.if-not-kept_valid.true), omega arith)

-- what is known of a valid state of an accepted personality
module _ (c : Else-not-kept_valid) where
  known : verdict_of c.args.personality.now ≡ Accepted
  unfolding verdict
  known = sym c.in_ok-p.ensures.verdict

  state-valid : is_state_of c.args.personality.now c.args.state.now ≡ true
  state-valid = sym (decided (goal.at.Else-not-kept_valid c).After-kept_valid) ∙ c.if-not-kept_valid.false

  ruled : c.site_under-site.result ≡ ruled_site (site_of c.args.personality.now) (timed_decoded c.args.state.now)
  unfolding timed_decoded
  ruled = rw c.in_ok-p.ensures.bytes at c.site_under-site.ensures

  kept : c.read-kept.result ≡ kept_of (timed_decoded c.args.state.now)
  unfolding timed_decoded
  kept = c.read-kept.ensures

-- ── The inputs ──

-- the inputs of the site and of the one under the ruling times are the same
tested :
    (b state : List ℕ) (inputs : ℕ) (site : Site) (stray : Bool) →
    site ≡ ruled_site (site_of b) (timed_decoded state) →
    stray ≡ stray_input site inputs →
    stray ≡ stray_input (site_of b) inputs
unfolding stray_input wired
tested b state inputs site stray e own = own ∙ ap (λ (x : Site). stray_input x inputs) e

pub returns-then-stray_input : goal.returns-then-stray_input
returns-then-stray_input c =
    let a = c.args in
    let at = (goal.at.returns-then-stray_input c).Else-not-kept_valid in
    let same = tested a.personality.now a.state.now a.inputs c.site_under-site.result c.stray_input.result (ruled at) c.stray_input.ensures in
    (stray a.personality.now a.state.now a.inputs (known at) (state-valid at) (sym same ∙ c.if-stray_input.true), omega arith)

-- ── The line ──

pub returns-then-not-is_running : goal.returns-then-not-is_running
returns-then-not-is_running c =
    let a = c.args in
    let at = (goal.at.returns-then-not-is_running c).Else-not-kept_valid in
    let same = tested a.personality.now a.state.now a.inputs c.site_under-site.result c.stray_input.result (ruled at) c.stray_input.ensures in (
      passed a.personality.now a.state.now a.inputs (known at) (state-valid at) (sym same ∙ c.if-stray_input.false),
      silent a.personality.now a.state.now a.inputs (kept at) (sym c.is_running.ensures ∙ c.if-not-is_running.true),
    )

pub why_of-requires : goal.why_of-requires
why_of-requires c =
    let a = c.args in
    let at = (goal.at.why_of-requires c).Else-not-kept_valid in
    record {
      sound = site-sound a.personality.now a.state.now a.inputs (known at) (state-valid at) (ruled at);
      valid = kept-valid a.personality.now a.state.now a.inputs (known at) (state-valid at) (ruled at) (kept at);
      running = sym c.is_running.ensures ∙ c.if-not-is_running.false;
    }

pub returns : goal.returns
returns c =
    let a = c.args in
    let at = (goal.at.returns c).Else-not-kept_valid in
    let same = tested a.personality.now a.state.now a.inputs c.site_under-site.result c.stray_input.result (ruled at) c.stray_input.ensures in (
      passed a.personality.now a.state.now a.inputs (known at) (state-valid at) (sym same ∙ c.if-stray_input.false),
      c.why_of.ensures.line (site_of a.personality.now) (timed_decoded a.state.now) (ruled at) (kept at),
      c.why_of.ensures.phase,
    )
