-- After an accepted step call: the new state is valid and the inputs have their detectors, so the line can be had; and it tells what the step
-- found, which a scan of the locks and movements finds too.
use Prim.Native.Nat.{ℕ}
use mathlib.Core.Bool.{Bool, true, false, not}
use mathlib.Core.List.{List}
use mathlib.Core.Path.{◌≡◌, refl, ap, ◌∙◌}
use Rattle.rules.specs.Verdicts.{Accepted}
use Rattle.std.specs.Prelude.{if◌then◌else◌, Option}
use Rattle.rules.specs.Verdicts.{◌or_else◌, refuse_if}
use Rattle.rules.specs.Personality.{verdict_of}
use Rattle.rules.specs.Site.{site_of}
use Rattle.rules.specs.IntervalTable.{is_running, is_held}
use Rattle.rules.specs.Demands.{detected, registers_lock, calls, locks_after, demands_after, demanded, next_demanded}
use Rattle.rules.specs.Kept.{is_kept, kept_after, next_kept}
use Rattle.rules.specs.Timed.{TimedState, kept_of, ruled_site, timed_valid, takes_over, without_counts, ruling_next, timed_stepped}
use Rattle.rules.specs.Call.{stray_input, step_verdict, checks_by}
use Rattle.rules.specs.TimedCall.{timed_verdict}
use Rattle.rules.specs.Laws.{Sound, AcceptedIsSound}
use Rattle.rules.specs.TimedLaws.{StepKeepsValid}
use Rattle.rules.proofs.Verdicts.{or-first}
use Rattle.proof_acceptance.proofs.Acceptance.{accepted-is-sound}
use Rattle.proof_runs.proofs.Chains.{checks-told}
use Rattle.proof_kept.proofs.Scans.{next-kept}
use Rattle.proof_change.proofs.Timed.{timed-told, old-sound}
use Rattle.proof_guarantees.proofs.Accepted.{step-keeps-valid}
use Rattle.panel_reasons.specs.PanelLine.{no_other, reasons_of, panel_line}
use Rattle.state_timed.specs.TimedLayout.{is_timed, timed_decoded}
use Rattle.state_valid.specs.StateOf.{is_state_of}
use Rattle.board_panel.specs.PanelCall.{length_checks}
use Rattle.proof_panel.specs.PanelLaws.{found_none, StepIsExplained, ToldExactly}
use Rattle.proof_panel.proofs.AfterStep.{told-by-kept}

module _ (b : List ℕ) (s : TimedState) (inputs room : ℕ) (passed : timed_verdict b s inputs room ≡ Accepted) where
  known : verdict_of b ≡ Accepted
  unfolding checks_by
  known = or-first (verdict_of b) (step_verdict (site_of b) (timed_valid (site_of b) s) inputs room) passed

  checked : (timed_valid (site_of b) s ≡ true) × (stray_input (site_of b) inputs ≡ false)
  unfolding checks_by
  checked = checks-told b inputs room (timed_valid (site_of b) s) passed

  explained : (state : List ℕ) → is_timed state ≡ true → timed_decoded state ≡ timed_stepped (site_of b) s inputs → length_checks b state inputs ≡ Accepted
  unfolding length_checks is_state_of ◌or_else◌ refuse_if StepKeepsValid
  explained state t e = rw (known, t, e, step-keeps-valid b known s checked.0 inputs checked.1, checked.1)

  sound : Sound (ruled_site (site_of b) s)
  unfolding AcceptedIsSound
  sound = old-sound (site_of b) (accepted-is-sound b known) s checked.0

  -- ── What the step found ──

  found : next_kept (ruled_site (site_of b) s) (kept_of s) inputs ≡ next_demanded (ruled_site (site_of b) s) s.core inputs
  found = next-kept (ruled_site (site_of b) s) sound (kept_of s) inputs (timed-told (site_of b) s checked.0).rest

  -- the search looks neither at the times nor at the counts
  found-own : next_demanded (ruled_site (site_of b) s) s.core inputs ≡ next_demanded (site_of b) s.core inputs
  unfolding next_demanded demanded demands_after locks_after registers_lock calls detected
  found-own = refl

  found-without :
      (t : Bool) →
      next_kept (ruled_site (site_of b) s) (if t then without_counts (kept_of s) else kept_of s) inputs ≡ next_kept (ruled_site (site_of b) s) (kept_of s) inputs
  unfolding next_kept kept_after is_kept registers_lock calls
  found-without true = refl
  found-without false = refl

  told :
      is_running (timed_stepped (site_of b) s inputs).core.position.interval ≡ true →
      no_other (site_of b) (kept_of (timed_stepped (site_of b) s inputs)) inputs ≡ found_none (site_of b) s.core inputs
  unfolding timed_stepped no_other calls detected found_none
  told running =
      let before = if takes_over (site_of b) s then without_counts (kept_of s) else kept_of s in
      told-by-kept (ruling_next (site_of b) s) (ruled_site (site_of b) s) sound before inputs running
      ∙ ap (λ (next : Option ℕ). not (is_held next)) (found-without (takes_over (site_of b) s) ∙ found ∙ found-own)

pub step-is-explained : StepIsExplained
unfolding StepIsExplained
step-is-explained = explained

pub told-exactly : ToldExactly
unfolding ToldExactly panel_line reasons_of
told-exactly b s inputs room passed running = rw (running, told b s inputs room passed running)
