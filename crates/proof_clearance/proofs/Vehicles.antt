-- A vehicle group from green to red, step by step. No phase starts before it has been stopped for Y + R; so the yellow steps still to come are
-- Y while it is green and fall by one from there, and red for R steps at least follows. Red is followed by red unless by green.
use Prim.Native.Nat.{ℕ, suc, ◌+◌, ◌≤◌, ◌<◌}
use native.Mathlib.Omega.{arith}
use mathlib.Core.Bool.{true, false}
use mathlib.Core.Logic.{◌⊎◌, inl, inr, ⊎_elim}
use mathlib.Core.Path.{◌≡◌, sym, subst, ◌∙◌}
use lib.Dec.{leb}
use borrow.Author.Tests.{leb-true, leb-false, le-leb}
use Rattle.rules.specs.declared.site.PhaseTimes.{PhaseTimes}
use Rattle.rules.specs.declared.site.Site.{Site}
use Rattle.rules.specs.declared.state.Interval.{Interval}
use Rattle.rules.specs.declared.state.Interval.TheVariants.{Yellow, AllRed}
use Rattle.rules.specs.declared.state.Position.{Position}
use Rattle.rules.specs.declared.state.State.{State}
use Rattle.rules.specs.Site.{in_phase, phase_times}
use Rattle.rules.specs.Demands.{next_demanded}
use Rattle.rules.specs.Interval.{ends, entering, following, staying}
use Rattle.rules.specs.Colours.{red, yellow, green}
use Rattle.rules.specs.Runs.{Step}
use Rattle.laws.proofs.Booleans.{and_left}
use Rattle.laws.proofs.Indices.{below-or-past}
use Rattle.rules.proofs.Settings.{Timed}
use Rattle.proof_runs.proofs.Steps.{another, counted, moving, ended, position-of}
use Rattle.proof_runs.proofs.Ends.{followed, by_end, ended-in}
use Rattle.proof_runs.proofs.Chains.{Link}
use Rattle.proof_clearance.proofs.Shown.{vehicle_at, green-of-phase}
use Rattle.proof_clearance.proofs.VehicleColours.{closing_at, red-follows}
use Rattle.proof_clearance.proofs.Stopped.{ahead, Leaving, leaving-stays, leaving-enters, Stopped, in-early, in-yellow, in-red, stopped-member, all-red-closed, stopped-shows, green-follows}

-- ── Steps ──

module _ (site : Site) (s : State) (step : Step) (link : Link site s step) where
  -- what holds of the position after the step, by whether the interval ends
  at-end :
      (P : Position → Type 0) →
      (ended site s step.inputs ≡ true → P (followed site s step.inputs)) →
      (ended site s step.inputs ≡ false → P (staying s.position)) →
      P step.after.position
  at-end P over still = rw (link.after, position-of site s step.inputs) (by_end site s step.inputs P over still)

  -- and where it ends at a setting
  at-setting :
      (P : Position → Type 0) (setting : ℕ) →
      ended site s step.inputs ≡ leb setting s.position.age →
      (setting ≤ s.position.age → P (followed site s step.inputs)) →
      (s.position.age < setting → P (staying s.position)) →
      P step.after.position
  at-setting P setting e over still =
      at-end P
      (λ h. over (leb-true setting s.position.age (sym e ∙ h)))
      (λ h. still (leb-false setting s.position.age (sym e ∙ h)))

  module _ (j : ℕ) where
    -- a group that was green and is not has been stopped for one step
    stop-begins :
        Timed (phase_times site.times s.position.phase) →
        closing_at site j s.position ≡ green →
        (closing_at site j step.after.position ≡ green → ⊥) →
        Stopped site j s.position.phase 1 step.after.position
    unfolding staying
    stop-begins times e =
        let p = s.position.phase in
        let member = green-of-phase (in_phase site.groups j p) _ e in
        at-end (λ (q : Position). (closing_at site j q ≡ green → ⊥) → Stopped site j p 1 q)
        (λ over other.
        ⊎_elim
        (λ green-again. absurd (other green-again))
        (λ row. row)
        (green-follows site j (next_demanded site s step.inputs) s.position times member s.position.interval (rw member at e)))
        (λ still other. absurd (other e))

    -- red is followed by red where it is not followed by green
    pub red-stays :
        closing_at site j s.position ≡ red →
        (closing_at site j step.after.position ≡ green → ⊥) →
        closing_at site j step.after.position ≡ red
    unfolding staying
    red-stays e =
        at-end (λ (q : Position). (closing_at site j q ≡ green → ⊥) → closing_at site j q ≡ red)
        (λ over other.
        ⊎_elim
        (λ red-again. red-again)
        (λ turned. absurd (other turned))
        (red-follows site j site.times (next_demanded site s step.inputs) s.position s.position.interval e))
        (λ still other. e)

-- ── How long a group has been stopped ──

module _ (site : Site) (j p : ℕ) (times : Timed (phase_times site.times p)) (s : State) (step : Step) (link : Link site s step) where
  abbrev settings : PhaseTimes
  settings = phase_times site.times p

  -- the interval that leaves the phase ends by its times
  leaving-ends :
      {i : Interval} {before c : ℕ} →
      Leaving site j p i before c s.position →
      ended site s step.inputs
      ≡ ends i site.times.start settings s.position.age (another site s step.inputs) (moving site s step.inputs)
      (counted site s step.inputs)
  leaving-ends {i} row = ended-in site s step.inputs i row.interval ∙ rw row.phase

  -- after a step it has been stopped for one step more, unless it has been for Y + R and is red
  pub stopped-on :
      (c : ℕ) →
      Stopped site j p c s.position →
      Stopped site j p (suc c) step.after.position
      ⊎ ((settings.yellow + settings.red ≤ c) × (closing_at site j s.position ≡ red))
  unfolding ends following entering
  stopped-on c (in-early mark row most) =
      let all : ahead site j p ≡ settings.early = rw mark in
      inl (at-setting site s step link (Stopped site j p (suc c)) settings.early (leaving-ends row)
      (λ over. rw row.interval (in-yellow (leaving-enters row Yellow (omega arith)) (omega (arith, times.yellow))))
      (λ still. in-early mark (leaving-stays row (omega (arith, times.early))) (omega arith)))
  stopped-on c (in-yellow row most) =
      inl (at-setting site s step link (Stopped site j p (suc c)) settings.yellow (leaving-ends row)
      (λ over. rw row.interval (in-red (leaving-enters row AllRed (omega arith)) (omega arith)))
      (λ still. in-yellow (leaving-stays row (omega (arith, times.yellow))) (omega arith)))
  stopped-on c (in-red row more) =
      ⊎_elim
      (λ (less : s.position.age < settings.red).
      inl (at-end site s step link (Stopped site j p (suc c))
      (λ over.
      let past = and_left (leb settings.red s.position.age) _ (sym (leaving-ends row) ∙ over) in
      absurd (omega (arith, leb-true settings.red s.position.age past)))
      (λ still. in-red (leaving-stays row (omega (arith, times.red))) (omega arith))))
      (λ (most : settings.red ≤ s.position.age). inr (omega arith, all-red-closed row))
      (below-or-past s.position.age settings.red)

-- ── Yellow steps still to come ──

-- At a position group j has n yellow steps of phase p still to come.
pub data YellowsLeft (site : Site) (j p n : ℕ) (position : Position) : Type 0 where
  in-green :
      position.phase ≡ p →
      closing_at site j position ≡ green →
      n ≡ (phase_times site.times p).yellow →
      YellowsLeft site j p n position
  stopped : (c : ℕ) → Stopped site j p c position → c + n ≡ (phase_times site.times p).yellow → YellowsLeft site j p n position

module _ (site : Site) (j p : ℕ) where
  -- the phase is still one of the group's
  pub yellows-member : (n : ℕ) (position : Position) → YellowsLeft site j p n position → in_phase site.groups j position.phase ≡ true
  yellows-member n position (in-green here e c) = green-of-phase (in_phase site.groups j position.phase) _ e
  yellows-member n position (stopped c row e) = stopped-member row

  module _ (times : Timed (phase_times site.times p)) where
    -- one of the yellow steps
    yellow-counted :
        (c n : ℕ) (position : Position) →
        Stopped site j p c position →
        c + n ≡ (phase_times site.times p).yellow →
        YellowsLeft site j p n position × (vehicle_at site j position ≡ yellow)
    yellow-counted c n position row e = (
      stopped c row e,
      stopped-shows row ∙ rw (le-leb c (phase_times site.times p).yellow (omega arith)),
    )

    -- a step that does not show green is one of the yellow ones
    pub yellows-fall :
        (s : State) (step : Step) →
        Link site s step →
        (n : ℕ) →
        YellowsLeft site j p (suc n) s.position →
        (closing_at site j step.after.position ≡ green → ⊥) →
        YellowsLeft site j p n step.after.position × (vehicle_at site j step.after.position ≡ yellow)
    yellows-fall s step link n (in-green here e c) other =
        yellow-counted 1 n step.after.position (rw here at (stop-begins site s step link j (rw here times) e other)) (omega arith)
    yellows-fall s step link n (stopped c row e) other =
        ⊎_elim
        (λ (row' : Stopped site j p (suc c) step.after.position). yellow-counted (suc c) n step.after.position row' (omega arith))
        (λ over. absurd (omega (arith, over.0)))
        (stopped-on site j p times s step link c row)

    -- where none is to come, it has been stopped for Y
    pub yellows-over : (position : Position) → YellowsLeft site j p 0 position → Stopped site j p (phase_times site.times p).yellow position
    yellows-over position (in-green here e c) = absurd (omega (arith, times.yellow))
    yellows-over position (stopped c row e) =
        let same : c ≡ (phase_times site.times p).yellow = omega arith in
        subst (λ (c : ℕ). Stopped site j p c position) same row
