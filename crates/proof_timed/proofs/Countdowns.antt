-- The steps from a group's last green to a conflicting group's green, and two inductions over them. A colour that counts down while the phase is
-- one of the group's is shown in a row, and all before the conflicting green; and red lasts if each step keeps it.
use Prim.Native.Nat.{ℕ, zero, suc}
use mathlib.Core.Bool.{Bool, true, false}
use mathlib.Core.List.{List, [], ◌∷◌, ◌++◌}
use mathlib.Core.Path.{◌≡◌, refl, ap₂, subst, ◌∙◌}
use lib.ListN.{length, replicate}
use Rattle.rules.specs.declared.site.Site.{Site}
use Rattle.rules.specs.declared.site.Times.{Times}
use Rattle.rules.specs.declared.state.State.{State}
use Rattle.rules.specs.Site.{in_phase, conflict}
use Rattle.rules.specs.Colours.{red, green}
use Rattle.rules.specs.SiteTimes.{under}
use Rattle.rules.specs.Timed.{starts_next}
use Rattle.rules.specs.Runs.{Step}
use Rattle.rules.specs.DemandThree.{shows, shown_by, NeverGreen}
use Rattle.laws.proofs.Booleans.{never_both}
use Rattle.proof_runs.proofs.ValidStates.{ValidState}
use Rattle.proof_runs.proofs.Chains.{ValidLink}
use Rattle.proof_clearance.proofs.Greens.{shown-has-phase, never-both-green}
use Rattle.proof_timed.proofs.Induction.{viewed, plain_from, TimedLink, TimedRun}

-- From state s the steps lead up to `start`, and group j shows green after none of them.
pub record Since (site : Site) (j : ℕ) (start : Step) (later : List Step) (s : State) (ruling : Times) (steps : List Step) : Type 0 where
  pub run : TimedRun site s ruling (steps ++ start ∷ later)
  pub never : NeverGreen j steps

pub since-next :
    {site : Site} {j : ℕ} {start : Step} {later : List Step} {s : State} {ruling : Times} {step : Step} {steps : List Step} →
    Since site j start later s ruling (step ∷ steps) →
    Since site j start later step.after step.ruling steps
since-next since = record { run = since.run.1; never = since.never.1 }

-- A step from a state that does not show group j green leads from P to Q and shows the colour.
abbrev pub Leads : Site → ℕ → (Times → State → Type 0) → (Times → State → Type 0) → ℕ → Type 0
Leads site j P Q colour =
    (s : State) (ruling : Times) (step : Step) →
    TimedLink site s ruling step →
    (shows step j ≡ green → ⊥) →
    P ruling s →
    Q step.ruling step.after × (shows step j ≡ colour)

-- ── Red that lasts ──

module _ (site : Site) (j : ℕ) (start : Step) (later : List Step) (Rests : Times → State → Type 0) (stays : Leads site j Rests Rests red) where
  pub only-red :
      (s : State) (ruling : Times) (steps : List Step) →
      Rests ruling s →
      Since site j start later s ruling steps →
      shown_by j steps ≡ replicate (length steps) red
  unfolding shown_by
  only-red s ruling [] rests since = refl
  only-red s ruling (step ∷ steps) rests since =
      let kept = stays s ruling step since.run.0 since.never.0 rests in
      ap₂ ◌∷◌ kept.1 (only-red step.after step.ruling steps kept.0 (since-next since))

-- ── A colour that counts down ──

module _
    (site : Site) (g j : ℕ) (apart : conflict site g j ≡ true) (start : Step) (later : List Step) (green_g : shows start g ≡ green) where
  module _ (s : State) (ruling : Times) (link : TimedLink site s ruling start) where
    -- at the start the phase is none of the conflicting group's
    pub barred : in_phase site.groups j start.after.position.phase ≡ true → ⊥
    unfolding shows conflict
    barred =
        let plain = link.plain in
        plain.sound.conflict_phase g j apart start.after.position.phase
        (shown-has-phase (under site start.ruling) (plain_from start.changed s) (viewed (plain_from start.changed s) start) plain g
        (plain.sound.conflict_groups g j apart).0
        green_g)

    not-both : shows start j ≡ green → ⊥
    unfolding shows conflict
    not-both =
        never-both-green (under site start.ruling) (plain_from start.changed s) (viewed (plain_from start.changed s) start) link.plain g j apart green_g

  module _
      (Left : ℕ → Times → State → Type 0) (colour : ℕ)
      (member : (n : ℕ) (ruling : Times) (s : State) → ValidState (under site ruling) s → Left n ruling s → in_phase site.groups j s.position.phase ≡ true)
      (falls : (n : ℕ) → Leads site j (Left (suc n)) (Left n) colour) where
    -- Where n steps of a colour are left in state s, they come first and in a row; none is left in the state that they lead to.
    pub counts-down :
        (n : ℕ) (s : State) (ruling : Times) (steps : List Step) →
        Left n ruling s →
        Since site j start later s ruling steps →
        (t : State)
        × (r : Times)
        × (rest : List Step)
        × Left zero r t
        × Since site j start later t r rest
        × (shown_by j steps ≡ replicate n colour ++ shown_by j rest)
    unfolding shown_by
    counts-down zero s ruling steps left since = (s, ruling, steps, left, since, refl)
    counts-down (suc n) s ruling [] left since =
        let link = since.run.0 in
        let fall = falls n s ruling start link (not-both s ruling link) left in
        absurd (barred s ruling link (member n start.ruling start.after link.plain.there fall.0))
    counts-down (suc n) s ruling (step ∷ steps) left since =
        let fall = falls n s ruling step since.run.0 since.never.0 left in
        let more = counts-down n step.after step.ruling steps fall.0 (since-next since) in
        (more.0, more.1, more.2, more.3, more.4, ap₂ ◌∷◌ fall.1 more.5)

-- ── Steps under the times of the green ──

-- a step that is no change is plain from the state handed in
unchanged :
    (site : Site) (s : State) (t : Step) (c : Bool) → c ≡ false → ValidLink site (plain_from c s) (viewed (plain_from c s) t) → ValidLink site s (viewed s t)
unchanged site s t true e link = absurd (never_both refl e)
unchanged site s t false e link = link

module _ (site : Site) (r0 : Times) (s : State) (ruling : Times) (step : Step) (link : TimedLink site s ruling step) (same : ruling ≡ r0) where
  pub plain-link : step.changed ≡ false → ValidLink (under site r0) s (viewed s step)
  plain-link e =
      subst (λ (r : Times). ValidLink (under site r) s (viewed s step)) (link.kept e ∙ same)
      (unchanged (under site step.ruling) s step step.changed e link.plain)

  pub starts_by : step.changed ≡ true → starts_next (under site r0) s ≡ true
  starts_by e = subst (λ (r : Times). starts_next (under site r) s ≡ true) same (link.over e)

  pub sane-by : ValidState (under site r0) s
  sane-by = subst (λ (r : Times). ValidState (under site r) s) same link.sane
