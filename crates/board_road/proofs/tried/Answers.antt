-- Each check that fails gives its refusal once those before it have passed, and if all pass the road is run.
use Rattle.std.proofs.Common.{ℕ, Bool, List, ◌≡◌, false, sym, ap, ◌∙◌}
use Rattle.std.proofs.lemmas.Result.{err_from_is_err_and}
use Rattle.rules.specs.declared.site.Site.{Site}
use Rattle.rules.specs.Verdicts.{Accepted, verdict}
use Rattle.rules.specs.Personality.{verdict_of}
use Rattle.rules.specs.Site.{site_of}
use Rattle.road_streams.specs.Road.{bad_streams}
use Rattle.road_run.specs.Whole.{OfPersonality}
use Rattle.board_road.proofs.RoadAnswers.{by-personality, by-streams, by_state, by-room, by-none, declines, goes_on}
use Rattle.board_road.proofs.tried.Goals as goal
use Rattle.board_road.proofs.tried.Goals.{In_ok-p, After-sound_site_of-site, After-bad_streams}

-- ── A refused personality ──

pub returns-in_err-p : goal.returns-in_err-p
unfolding verdict
returns-in_err-p c =
    let a = c.args in
    let p = err_from_is_err_and c.from_residual.result c.from_residual.ensures.1 in
    rw (p.1, p.2) (declines a.personality.now a.streams.now a.steps a.state.now a.results.now
    (by-personality _ _ _ _ _ (sym c.in_err-p.ensures.verdict)))

-- ── An accepted one, and streams that are refused ──

accepted : (c : In_ok-p) → verdict_of c.args.personality.now ≡ Accepted
unfolding verdict
accepted c = sym c.in_ok-p.ensures.verdict

placed : (c : After-sound_site_of-site) → c.sound_site_of-site.result ≡ site_of c.args.personality.now
placed c = rw c.in_ok-p.ensures.bytes at c.sound_site_of-site.ensures

tested : (c : After-bad_streams) → c.bad_streams.result ≡ bad_streams (site_of c.args.personality.now) c.args.streams.now c.args.steps
tested c =
    c.bad_streams.ensures ∙ ap (λ (s : Site). bad_streams s c.args.streams.now c.args.steps) (rw c.in_ok-p.ensures.bytes at c.sound_site_of-site.ensures)

pub returns-then-bad_streams : goal.returns-then-bad_streams
returns-then-bad_streams c =
    let a = c.args in
    let at = goal.at.returns-then-bad_streams c in
    declines a.personality.now a.streams.now a.steps a.state.now a.results.now
    (by-streams _ _ _ _ _ (accepted at.In_ok-p) (sym (tested at.After-bad_streams) ∙ c.if-bad_streams.true))

-- ── Streams that are not refused, and buffers that are ──

pub returns-then-state-ne-TIMED_BYTES : goal.returns-then-state-ne-TIMED_BYTES
returns-then-state-ne-TIMED_BYTES c =
    let a = c.args in
    let at = goal.at.returns-then-state-ne-TIMED_BYTES c in
    declines a.personality.now a.streams.now a.steps a.state.now a.results.now
    (by_state _ _ _ _ _ (accepted at.In_ok-p) (sym (tested at.After-bad_streams) ∙ c.if-bad_streams.false) c.if-state-ne-TIMED_BYTES.true)

pub returns-then-results-streams : goal.returns-then-results-streams
returns-then-results-streams c =
    let a = c.args in
    let at = goal.at.returns-then-results-streams c in
    declines a.personality.now a.streams.now a.steps a.state.now a.results.now
    (by-room _ _ _ _ _ (accepted at.In_ok-p) (sym (tested at.After-bad_streams) ∙ c.if-bad_streams.false) c.if-state-ne-TIMED_BYTES.false c.if-results-streams.true)

-- ── The road ──

start :
    (b streams : List ℕ) (steps : ℕ) (site : Site) (bad : Bool) →
    verdict_of b ≡ Accepted →
    site ≡ site_of b →
    bad ≡ bad_streams (site_of b) streams steps →
    bad ≡ false →
    OfPersonality b site streams steps
start b streams steps site bad read place tested good = record { read = read; place = place; known = sym tested ∙ good }

pub run-last-requires : goal.run-last-requires
run-last-requires c =
    let a = c.args in
    let at = goal.at.run-last-requires c in
    record {
      b = a.personality.now;
      start =
          start a.personality.now a.streams.now a.steps c.sound_site_of-site.result c.bad_streams.result (accepted at.In_ok-p) (placed at.After-sound_site_of-site) (tested at.After-bad_streams) c.if-bad_streams.false;
      enough = c.if-results-streams.false;
    }

pub returns : goal.returns
returns c =
    let a = c.args in
    let at = goal.at.returns c in
    let read = accepted at.In_ok-p in
    let known = sym (tested at.After-bad_streams) ∙ c.if-bad_streams.false in
    let from =
    start a.personality.now a.streams.now a.steps c.sound_site_of-site.result c.bad_streams.result read (placed at.After-sound_site_of-site) (tested at.After-bad_streams) c.if-bad_streams.false in
    goes_on a.personality.now a.streams.now a.steps a.state.now a.results.now
    (by-none _ _ _ _ _ read known c.if-state-ne-TIMED_BYTES.false c.if-results-streams.false)
    (placed at.After-sound_site_of-site)
    (c.run-last.ensures.state a.personality.now from)
    (rw c.site.view_is at c.put_settled.ensures)
    (c.run-last.ensures.written a.personality.now from)
