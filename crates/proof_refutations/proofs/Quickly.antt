-- The run of each controller is that of the same controller without the test of the times, which is quicker to compute: its steps keep times that fit.
use Prim.Native.Nat.{ℕ}
use mathlib.Core.Bool.{Bool, true, false, ◌&&◌}
use mathlib.Core.List.{List, map}
use mathlib.Core.Path.{◌≡◌, refl}
use lib.Dec.{eqb, leb}
use Rattle.std.specs.Prelude.{if◌then◌else◌}
use Rattle.rules.specs.Verdicts.{Verdict}
use Rattle.rules.specs.declared.site.Site.{Site}
use Rattle.rules.specs.declared.site.Times.{Times}
use Rattle.rules.specs.declared.state.Interval.{Interval}
use Rattle.rules.specs.declared.state.Interval.TheVariants.{LateStart, AllRed}
use Rattle.rules.specs.Personality.{verdict_of}
use Rattle.rules.specs.Site.{site_of, phase_times}
use Rattle.rules.specs.IntervalTable.{is_start_red}
use Rattle.rules.specs.Interval.{entering, staying}
use Rattle.rules.specs.SiteTimes.{admitted}
use Rattle.rules.specs.State.{valid}
use Rattle.rules.specs.Kept.{kept_valid}
use Rattle.rules.specs.Demands.{next_demanded}
use Rattle.rules.specs.WaitBound.{wait_bound}
use Rattle.rules.specs.Timed.{TimedState, kept_of, ruled_site, none_waiting, fresh_timed, waiting_valid, timed_valid, timed_stepped}
use Rattle.rules.specs.TimedCall.{retimed}
use Rattle.rules.specs.Runs.{controller_of, Call, taken_from}
use Rattle.rules.specs.Scanning.{scan_valid}
use Rattle.laws.proofs.Booleans.{and_both, and_right}
use Rattle.proof_quick_runs.proofs.QuickRuns.{times_fit, calls_fit, Keeps, Takes, ready, timed-keeps, finding-keeps, retimed-takes, taken-quick, fresh-none}
use Rattle.proof_refutations.specs.Faults.{scanned, faulty, with, moved, ages_only, never_alters, dawdles, stays_late, is, without_second, ends_on_timer, shortens, shortens_clearance, choosing, chooses_again, chooses_early_again, registers_none, drops_locks, drops_presses, forgets_walk, sets_back, ruled_now, only_retimes, retiming}

-- ── Each step keeps times that fit ──

fits-either :
    (site : Site) (t : Bool) (s other : TimedState) →
    times_fit site s ≡ true →
    times_fit site other ≡ true →
    times_fit site (if t then s else other) ≡ true
fits-either site true s other first second = first
fits-either site false s other first second = second

module _ (site : Site) (none : waiting_valid site none_waiting ≡ true) where
  abbrev pub scanned-keeps : Keeps site scanned
  scanned-keeps = finding-keeps site none next_demanded

  pub ages-only-keeps : Keeps site ages_only
  unfolding ages_only moved with
  ages-only-keeps s inputs fit =
      let old = s.core.position in
      fits-either site (is_start_red old.interval && eqb old.age 1) (scanned site s inputs) (moved s (staying old)) (scanned-keeps s inputs fit) fit

  pub never-alters-keeps : Keeps site never_alters
  unfolding never_alters
  never-alters-keeps s inputs fit = fit

  pub ends-on-timer-keeps : Keeps site ends_on_timer
  unfolding ends_on_timer with
  ends-on-timer-keeps s inputs fit =
      let old = s.core.position in
      let over = is AllRed old.interval && leb (phase_times s.ruling old.phase).red old.age in
      let cut = with s old s.core.counts (map without_second s.core.movements) in
      scanned-keeps (if over then cut else s) inputs (fits-either site over cut s fit fit)

  pub dawdles-keeps : (limit : Site → ℕ) → Keeps site (dawdles limit)
  unfolding dawdles moved with
  dawdles-keeps limit s inputs fit =
      let old = s.core.position in
      fits-either site (is_start_red old.interval && leb old.age (limit (ruled_site site s))) (moved s (staying old)) (scanned site s inputs) fit
      (scanned-keeps s inputs fit)

  pub stays-late-keeps : Keeps site stays_late
  unfolding stays_late moved with
  stays-late-keeps s inputs fit =
      let old = s.core.position in
      fits-either site (is LateStart old.interval) (moved s (staying old)) (scanned site s inputs) fit (scanned-keeps s inputs fit)

  pub shortens-keeps : (short : Interval) → Keeps site (shortens short)
  unfolding shortens moved with
  shortens-keeps short s inputs fit =
      let old = s.core.position in
      let first = is short old.interval && eqb old.age 1 in
      let older = moved s (staying old) in
      scanned-keeps (if first then older else s) inputs (fits-either site first older s fit fit)

  pub shortens-clearance-keeps : Keeps site shortens_clearance
  unfolding shortens_clearance with
  shortens-clearance-keeps s inputs fit = scanned-keeps _ inputs fit

  choosing-keeps : (last new : Interval) → Keeps site (choosing last new)
  unfolding choosing moved with
  choosing-keeps last new s inputs fit =
      let old = s.core.position in
      let after = scanned site s inputs in
      fits-either site (is last old.interval && is new after.core.position.interval)
      (moved after (entering new (next_demanded (ruled_site site s) s.core inputs) old))
      after
      (scanned-keeps s inputs fit)
      (scanned-keeps s inputs fit)

  pub chooses-again-keeps : Keeps site chooses_again
  unfolding chooses_again
  chooses-again-keeps = choosing-keeps _ _

  pub chooses-early-again-keeps : Keeps site chooses_early_again
  unfolding chooses_early_again
  chooses-early-again-keeps = choosing-keeps _ _

  pub registers-none-keeps : Keeps site registers_none
  unfolding registers_none
  registers-none-keeps s inputs fit = scanned-keeps s 0 fit

  pub drops-locks-keeps : Keeps site drops_locks
  unfolding drops_locks
  drops-locks-keeps s inputs fit = scanned-keeps s _ fit

  pub drops-presses-keeps : Keeps site drops_presses
  unfolding drops_presses
  drops-presses-keeps s inputs fit = scanned-keeps s _ fit

  pub forgets-walk-keeps : Keeps site forgets_walk
  unfolding forgets_walk
  forgets-walk-keeps s inputs fit =
      fits-either site (is_start_red s.core.position.interval) _ (scanned site s inputs) (scanned-keeps s inputs fit) (scanned-keeps s inputs fit)

  pub sets-back-keeps : Keeps site sets_back
  unfolding sets_back with
  sets-back-keeps s inputs fit = scanned-keeps _ inputs fit

  pub only-retimes-keeps : Keeps site only_retimes
  unfolding only_retimes ruled_now
  only-retimes-keeps s inputs fit = by s.waiting.present refl
    where
      by : (t : Bool) → s.waiting.present ≡ t → times_fit site (if t then ruled_now s s.waiting.times else s) ≡ true
      by true e = and_both (ready site none s.waiting e (and_right (admitted site s.ruling) (waiting_valid site s.waiting) fit)) none
      by false e = fit

  pub ruled-now-takes : Takes site ruled_now
  unfolding ruled_now
  ruled-now-takes s times fit ok = and_both ok none

-- ── The runs ──

-- the tests of the rest of the state, by the scanning rules and by the rules
abbrev rest_valid : Site → TimedState → Bool
rest_valid site s = valid (ruled_site site s) s.core

abbrev rest_kept : Site → TimedState → Bool
rest_kept site s = kept_valid (ruled_site site s) (kept_of s)

module _ (b : List ℕ) (fit : times_fit (site_of b) (fresh_timed (site_of b)) ≡ true) (calls : List Call) (all : calls_fit (site_of b) calls ≡ true) where
  none : waiting_valid (site_of b) none_waiting ≡ true
  none = fresh-none (site_of b) fit

  pub faulty-quickly :
      (verdict : List ℕ → Verdict) (step : Site → TimedState → ℕ → TimedState) (wait : Site → ℕ) →
      (waiting_valid (site_of b) none_waiting ≡ true → Keeps (site_of b) step) →
      taken_from (faulty verdict step wait) b (fresh_timed (site_of b)) calls
      ≡ taken_from (controller_of verdict rest_valid step wait retimed) b (fresh_timed (site_of b)) calls
  unfolding scan_valid
  faulty-quickly verdict step wait keeps =
      taken-quick verdict rest_valid step wait retimed b (keeps none) (retimed-takes (site_of b) none) (fresh_timed (site_of b)) calls fit all

  pub retiming-quickly :
      (change : TimedState → Times → TimedState) →
      (waiting_valid (site_of b) none_waiting ≡ true → Takes (site_of b) change) →
      taken_from (retiming change) b (fresh_timed (site_of b)) calls
      ≡ taken_from (controller_of verdict_of rest_kept timed_stepped wait_bound change) b (fresh_timed (site_of b)) calls
  unfolding timed_valid
  retiming-quickly change takes =
      taken-quick verdict_of rest_kept timed_stepped wait_bound change b (timed-keeps (site_of b) none) (takes none) (fresh_timed (site_of b)) calls fit all
