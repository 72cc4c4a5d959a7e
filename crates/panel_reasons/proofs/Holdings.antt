-- What is known of a state whose phase holds, and what its parts say of the line. The line does not look at the site's own times.
use Rattle.std.specs.Prelude.{Option, None, Some, is_some}
use borrow.Author.Tests.{not-true, not-false}
use Prim.Native.Nat.{ℕ, ◌-◌, ◌<◌}
use mathlib.Core.Bool.{Bool, true, not, ◌&&◌, ◌||◌, and-true}
use mathlib.Core.Path.{◌≡◌, sym, ap, ap₂, ◌∙◌}
use native.Mathlib.Omega.{arith}
use lib.Bits.{bit_or}
use mathlib.Core.List.{List}
use lib.Dec.{eqb}
use lib.ListN.{length, take}
use Rattle.rules.specs.declared.site.Detector.{Detector}
use Rattle.rules.specs.declared.site.Site.{Site}
use Rattle.rules.specs.declared.state.KeptState.{KeptState}
use Rattle.laws.specs.Bytes.{bit}
use Rattle.laws.specs.Folds.{set_of}
use Rattle.rules.specs.Site.{phase_times, ring}
use Rattle.rules.specs.IntervalTable.{is_running, is_green, is_held}
use Rattle.rules.specs.State.{valid}
use Rattle.rules.specs.Demands.{calling, detected, in_green, calls, next_after}
use Rattle.rules.specs.Kept.{is_kept, kept_valid}
use Rattle.rules.specs.Timed.{TimedState, kept_of, ruled_site}
use Rattle.rules.proofs.IntervalTests.{running-only}
use Rattle.laws.proofs.Booleans.{and_left}
use Rattle.laws.proofs.ByteSets.{bit-set, set_same, self-told, union-told}
use Rattle.proof_runs.proofs.ValidStates.{ValidState, state-told}
use Rattle.site_sound.proofs.Rows.{detected-taken}
use Rattle.step_demands.proofs.Sites.{ring-same}
use Rattle.step_demands_detectors.specs.declared.Sensed.{Sensed}
use Rattle.step_demands_detectors.specs.Sensed.{SensedBy}
use Rattle.panel_text.specs.Text.{line}
use Rattle.panel_line.specs.declared.Why.{Why}
use Rattle.panel_line.specs.Reasons.{line_of}
use Rattle.panel_line.proofs.Parts.{reasons-same}
use Rattle.panel_reasons.specs.PanelLine.{no_other, steps_left, walking_among, reasons_of, panel_line}
use Rattle.panel_reasons.specs.Holding.{Holding}

-- as the code asks it
pub none-told : (next : Option ℕ) (none : Bool) → is_some next ≡ not none → none ≡ not (is_held next)
unfolding is_held
none-told None none e = not-false none (sym e)
none-told (Some p) none e = not-true none (sym e)

module _ {site : Site} {s : KeptState} (holding : Holding site s) where
  pub holding-valid : ValidState site s.core
  unfolding kept_valid
  holding-valid = state-told site s.core (and_left (valid site s.core) _ holding.valid)

  -- ── No other demand ──

  green-phase : is_green s.core.position.interval ≡ true
  green-phase = rw (running-only s.core.position.interval holding.running)

  module _
      {inputs called : ℕ} {own : List Detector} {sensed : Sensed} {next : Option ℕ}
      (row : own ≡ take site.size.detectors site.detectors)
      (count : length own ≡ site.size.detectors)
      (scanned : SensedBy own inputs s.core.position.phase sensed)
      (called-is : called ≡ set_of (λ p. bit p sensed.calls && not (eqb p s.core.position.phase)))
      (searched : next ≡ next_after (ring site.order site.size.phases) s.core.position.phase (λ p. bit p (bit_or s.kept called)))
      (small : s.kept < 256)
    where
      called-told : called ≡ set_of (calls site s.core inputs)
      unfolding calls detected in_green
      called-told =
          called-is
          ∙ set_same _ _
          (λ p l.
          ap₂ (λ (there own : Bool). there && not own)
          (scanned.calls p l ∙ detected-taken site.detectors site.size.detectors row count calling inputs p)
          (sym (and-true (eqb p s.core.position.phase)) ∙ ap (λ (green : Bool). eqb p s.core.position.phase && green) (sym green-phase)))

      pub no-other-told : not (is_held next) ≡ no_other site s inputs
      unfolding no_other is_kept
      no-other-told =
          ap (λ (h : Option ℕ). not (is_held h))
          (searched
          ∙ ring-same site holding.sound (λ p. bit p (bit_or s.kept called)) (λ p. bit p s.kept || calls site s.core inputs p)
          s.core.position.phase
          (λ p l. ap (bit p) (union-told _ _ _ _ (self-told s.kept small) called-told) ∙ bit-set _ p (omega arith)))

-- ── The line ──

-- the parts of what the line says
pub record Parts (site : Site) (state : KeptState) (inputs : ℕ) (why : Why) : Type 0 where
  pub running : is_running state.core.position.interval ≡ true
  pub phase : why.phase ≡ state.core.position.phase
  pub alone : why.alone ≡ no_other site state inputs
  pub gap : why.gap ≡ state.core.counts.gap
  pub left : why.left ≡ (phase_times site.times state.core.position.phase).maximum - state.core.counts.maximum
  pub walks : why.walks ≡ set_of (walking_among state.core.movements)

pub line-told :
    (site : Site) (state : KeptState) (inputs : ℕ) (why : Why) →
    Parts site state inputs why →
    (own : Site) (s : TimedState) →
    site ≡ ruled_site own s →
    state ≡ kept_of s →
    line_of why ≡ panel_line own s inputs
unfolding line_of panel_line reasons_of steps_left no_other calls detected
line-told site state inputs why given own s ruled kept =
    let parts : Parts (ruled_site own s) (kept_of s) inputs why = rw (ruled, kept) at given in
    rw (parts.running, parts.phase, parts.alone, parts.gap, parts.left, parts.walks)
    (ap (line s.core.position.phase)
    (reasons-same (no_other own (kept_of s) inputs) s.core.counts.gap (steps_left s) _ _ (λ k l. bit-set (walking_among s.core.movements) k l)))
