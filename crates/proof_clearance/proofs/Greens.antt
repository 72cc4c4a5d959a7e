-- Part a of demand 3. In a valid state a group that shows green has the running phase in its set, and conflicting groups share no
-- phase; so after no accepted step do two of them show green.
use Prim.Native.Nat.{ℕ, ◌<◌}
use native.Mathlib.Omega.{arith}
use mathlib.Core.Bool.{Bool, true, false}
use mathlib.Core.Path.{◌≡◌, refl, sym, ◌∙◌}
use Rattle.rules.specs.declared.site.Site.{Site}
use Rattle.rules.specs.declared.state.State.{State}
use Rattle.rules.specs.Site.{in_phase, is_pedestrian, movement_of, conflict}
use Rattle.rules.specs.IntervalTable.{is_idle}
use Rattle.rules.specs.State.{movement}
use Rattle.rules.specs.Colours.{green, shown_in}
use Rattle.rules.specs.Runs.{Step}
use Rattle.rules.specs.DemandThree.{shows}
use Rattle.rules.specs.Laws.{Sound}
use Rattle.proof_runs.proofs.ValidStates.{ValidState}
use Rattle.proof_runs.proofs.Chains.{ValidLink}
use Rattle.proof_clearance.proofs.Shown.{vehicle-colour, pedestrian-colour, green-of-phase, green-walks}

-- ── Valid states ──

module _ (site : Site) (sound : Sound site) (s : State) (valid_state : ValidState site s) (g : ℕ) (within : g < site.size.groups) where
  -- a pedestrian group whose movement is not idle is of the phase
  pub busy-has-phase :
      is_pedestrian site.groups g ≡ true → is_idle (movement s (movement_of site.groups g)).stage ≡ false → in_phase site.groups g s.position.phase ≡ true
  busy-has-phase kind busy =
      let below = sound.movement_of_group g within kind in
      let told = valid_state.movements (movement_of site.groups g) (omega (arith, below, sound.movements)) in
      sym (sound.crossing_of_group g within kind s.position.phase) ∙ (told.of_phase busy).1

  -- In a valid state a group that shows green has the phase in its set.
  green-has-phase : shown_in site s g ≡ green → in_phase site.groups g s.position.phase ≡ true
  green-has-phase e = by_kind (is_pedestrian site.groups g) refl
    where
      by_kind : (test : Bool) → is_pedestrian site.groups g ≡ test → in_phase site.groups g s.position.phase ≡ true
      by_kind true kind =
          busy-has-phase kind
          (rw (green-walks (movement s (movement_of site.groups g)).stage (sym (pedestrian-colour site s g kind) ∙ e)))
      by_kind false kind = green-of-phase (in_phase site.groups g s.position.phase) _ (sym (vehicle-colour site s g kind) ∙ e)

-- ── Accepted steps ──

module _ (site : Site) (s : State) (step : Step) (link : ValidLink site s step) where
  -- a group that shows green after an accepted step is of the phase then reached
  pub shown-has-phase :
      (g : ℕ) → g < site.size.groups → shows step g ≡ green → in_phase site.groups g step.after.position.phase ≡ true
  shown-has-phase g within e =
      green-has-phase site link.sound step.after link.there g within (sym (link.taken.shown g within) ∙ e)

  -- after an accepted step no two conflicting groups show green
  pub never-both-green : (g j : ℕ) → conflict site g j ≡ true → shows step g ≡ green → shows step j ≡ green → ⊥
  never-both-green g j apart green_g green_j =
      let within = link.sound.conflict_groups g j apart in
      link.sound.conflict_phase g j apart step.after.position.phase
      (shown-has-phase g within.0 green_g)
      (shown-has-phase j within.1 green_j)
