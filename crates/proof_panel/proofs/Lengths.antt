-- The longest line: in a valid state the gap count is at most 100 and the steps left at most 1,500, in either edition of the limits.
use Prim.Native.Nat.{ℕ, ◌+◌, ◌<◌, ◌≤◌}
use mathlib.Core.Bool.{Bool, true, false, not}
use mathlib.Core.List.{List, []}
use mathlib.Core.Path.{◌≡◌, refl}
use native.Mathlib.Omega.{arith}
use lib.Dec.{ltb}
use lib.ListN.{length}
use borrow.Author.Tests.{not-false, le-ltb}
use Rattle.rules.specs.Verdicts.{Verdict}
use Rattle.rules.specs.Verdicts.{Accepted, Refused}
use Rattle.rules.specs.declared.site.Edition.{Edition}
use Rattle.rules.specs.declared.site.Edition.TheVariants.{One, Two}
use Rattle.std.specs.Prelude.{if◌then◌else◌, Ok, Err}
use Rattle.rules.specs.Verdicts.{◌or_else◌, refuse_if}
use Rattle.rules.specs.Limits.{limits, limit_of, phase_settings}
use Rattle.rules.specs.Personality.{verdict_of}
use Rattle.rules.specs.Site.{site_of}
use Rattle.rules.specs.IntervalTable.{is_running}
use Rattle.rules.specs.State.{valid}
use Rattle.rules.specs.Kept.{kept_valid}
use Rattle.rules.specs.Timed.{TimedState, ruled_site, timed_valid}
use Rattle.rules.specs.Call.{stray_input}
use Rattle.rules.specs.Laws.{AcceptedIsSound}
use Rattle.rules.specs.TraceText.{phase_letter}
use Rattle.rules.proofs.Opened.{opened}
use Rattle.rules.proofs.Verdicts.{or-first, or_later, refuse-passed, refuse-no}
use Rattle.laws.proofs.Booleans.{and_left, and_right}
use Rattle.proof_acceptance.proofs.Acceptance.{accepted-is-sound}
use Rattle.proof_runs.proofs.ValidStates.{state-told}
use Rattle.proof_change.proofs.Admitted.{admitted-told}
use Rattle.proof_change.proofs.Timed.{timed-told}
use Rattle.laws.specs.Decimal.{digits, decimal}
use Rattle.panel_text.specs.Text.{reason_text, reasons_text, line}
use Rattle.panel_line.specs.Reasons.{told, walks, reasons_by}
use Rattle.panel_line.proofs.Lengths.{longest}
use Rattle.panel_reasons.specs.PanelLine.{no_other, steps_left, walking_among, reasons_of, panel_line}
use Rattle.state_forms.specs.Forms.{parts_of}
use Rattle.state_timed.specs.TimedLayout.{is_timed, timed_encoded, timed_decoded}
use Rattle.state_valid.specs.StateOf.{is_state_of}
use Rattle.board_panel.specs.PanelCall.{why_line, length_checks, why_checks}
use Rattle.proof_panel.specs.WhyCases.{eight_crossings, longest as longest_state}
use Rattle.proof_panel.specs.PanelLaws.{longest_line, LongestLine, LongestRoomIsEnough}

-- the highest G and X of each edition
highest-gap : (edition : Edition) → (limit_of (limits edition) (phase_settings + 3)).high ≡ 100
unfolding limits limit_of
highest-gap One = refl
highest-gap Two = refl

highest-maximum : (edition : Edition) → (limit_of (limits edition) (phase_settings + 2)).high ≡ 1500
unfolding limits limit_of
highest-maximum One = refl
highest-maximum Two = refl

module _ (b state : List ℕ) (inputs : ℕ) (passed : length_checks b state inputs ≡ Accepted) where
  abbrev s : TimedState
  s = timed_decoded state

  known : verdict_of b ≡ Accepted
  unfolding length_checks
  known = or-first (verdict_of b) _ passed

  valid-state : timed_valid (site_of b) s ≡ true
  unfolding length_checks is_state_of
  valid-state =
      and_right (is_timed state) _
      (not-false (is_state_of b state)
      (refuse-passed (not (is_state_of b state)) 13 0
      (or-first (refuse_if (not (is_state_of b state)) 13 0) (refuse_if (stray_input (site_of b) inputs) 15 0) (or_later (verdict_of b) _ passed))))

  counts-small : (s.core.counts.gap < 1000) × (steps_left s < 10000)
  unfolding AcceptedIsSound kept_valid steps_left
  counts-small =
      let sound = accepted-is-sound b known in
      let told-state = timed-told (site_of b) s valid-state in
      let core = state-told (ruled_site (site_of b) s) s.core (and_left (valid (ruled_site (site_of b) s) s.core) _ told-state.rest) in
      let times = admitted-told (site_of b) s.ruling sound.phases.1 sound.movements told-state.ruling in
      let settings = times.in_table.phase s.core.position.phase core.phase in (
        omega (arith, core.gap, settings.gap.1, highest-gap (site_of b).edition),
        omega (arith, settings.maximum.1, highest-maximum (site_of b).edition),
      )

  line-within : length (why_line b state inputs) ≤ longest_line
  unfolding panel_line reasons_of
  line-within = by (is_running s.core.position.interval)
    where
      by : (t : Bool) → length (if t then line s.core.position.phase (reasons_of (site_of b) s inputs) else []) ≤ longest_line
      by true = longest _ _ _ _ _ counts-small.0 counts-small.1
      by false = omega arith

pub longest-line : LongestLine
unfolding LongestLine opened phase_letter digits decimal reason_text reasons_text line told walks reasons_by no_other steps_left walking_among reasons_of panel_line parts_of is_timed timed_encoded timed_decoded is_state_of length_checks eight_crossings
longest-line = (line-within, (eight_crossings, timed_encoded longest_state, 0, refl, refl))

pub longest-room-is-enough : LongestRoomIsEnough
unfolding LongestRoomIsEnough why_checks ◌or_else◌
longest-room-is-enough b state inputs room h = by (length_checks b state inputs) refl
  where
    by : (v : Verdict) → length_checks b state inputs ≡ v → (v or_else refuse_if (ltb room (length (why_line b state inputs))) 14 0) ≡ v
    by (Ok _) e = refuse-no 14 0 (le-ltb room (length (why_line b state inputs)) (omega (arith, line-within b state inputs e)))
    by (Err r) e = refl
