-- The late start of a demanded phase, for any measure of the way ahead: once the phase starts only that is left before its minimum green.
use Prim.Native.Nat.{ℕ, suc, ◌+◌, ◌-◌, ◌≤◌, ◌<◌}
use mathlib.Core.Bool.{Bool, true, false, not}
use mathlib.Core.Logic.{◌⊎◌, inl, inr, ⊎_elim}
use mathlib.Core.Path.{◌≡◌, refl, sym, ap, subst, ◌∙◌}
use native.Mathlib.Omega.{arith}
use lib.Dec.{eqb}
use borrow.Author.Tests.{leb-false, eqb-false}
use Rattle.rules.specs.declared.site.Site.{Site}
use Rattle.rules.specs.declared.state.Interval.TheVariants.{LateStart, MinimumGreen}
use Rattle.rules.specs.declared.state.Position.{Position}
use Rattle.rules.specs.declared.state.State.{State}
use Rattle.std.specs.Prelude.{if◌then◌else◌}
use Rattle.rules.specs.Site.{phase_times}
use Rattle.rules.specs.IntervalTable.{is_minimum_green}
use Rattle.rules.specs.Demands.{next_demanded}
use Rattle.rules.specs.Interval.{ends, following, entering, starting, staying}
use Rattle.rules.specs.Step.{stepped}
use Rattle.rules.specs.Laws.{Sound}
use Rattle.rules.specs.Runs.{Step}
use Rattle.rules.specs.DemandThree.{in_minimum_green, in_running, minimum_green_begins}
use Rattle.laws.proofs.Booleans.{and_both, or-false-left, decided, never_both}
use Rattle.rules.proofs.Settings.{phase-timed}
use Rattle.proof_runs.proofs.Steps.{ended, position-of}
use Rattle.proof_runs.proofs.Ends.{by_end, ended-in, next-in}
use Rattle.proof_runs.proofs.Chains.{ValidLink}
use Rattle.proof_waits.proofs.Falls.{timer-falls}
use Rattle.proof_waits.proofs.Progress.{Starts}
use Rattle.proof_waits.proofs.Registers.{green-same}
use Rattle.proof_waits.proofs.Away.{AwayAt, NotBegun, following-away, away-green, not-begun}

abbrev pub late : Site → ℕ → ℕ
late site q = (phase_times site.times q).late

-- only the late start of the phase is left
abbrev pub OwnLate : Site → ℕ → Position → ℕ → Type 0
OwnLate site q position n =
    (position.interval ≡ LateStart) × (position.phase ≡ q) × (late site q - position.age + 1 + 0 ≤ n)

-- a step in which its minimum green does not begin
module _
    (site : Site)
    (sound : Sound site)
    (q : ℕ)
    (below : q < site.size.phases)
    (s : State)
    (inputs : ℕ)
    (none : NotBegun q (stepped site s inputs).position)
  where
    abbrev next : State
    next = stepped site s inputs

    pub away-kept : AwayAt q s.position → AwayAt q next.position
    unfolding staying
    away-kept away =
        rw (position-of site s inputs)
        (by_end site s inputs (λ (p : Position). NotBegun q p → AwayAt q p)
        (λ over. following-away q s.position.interval site.times (next_demanded site s inputs) s.position refl away)
        (λ still none. away)
        (rw (position-of site s inputs) at none))

    -- the phase starts, with late start
    pub late-starts :
        (ahead : ℕ → ℕ) → late site q ≤ ahead q → (n : ℕ) → Starts site ahead q s inputs n → OwnLate site q next.position n
    unfolding starting
    late-starts ahead tail n starts =
        rw starts.position
        (step (eqb (late site q) 0) refl (rw starts.position at none))
      where
        step :
            (b : Bool) →
            eqb (late site q) 0 ≡ b →
            (q ≡ q → is_minimum_green (if b then MinimumGreen else LateStart) ≡ false) →
            ((if b then MinimumGreen else LateStart) ≡ LateStart) × (q ≡ q) × (late site q - 1 + 1 + 0 ≤ n)
        step true e never = absurd (never_both refl (never refl))
        step false e never = (refl, refl, omega (arith, starts.near, tail, eqb-false (late site q) 0 e))

    pub late-goes-on : (n : ℕ) → OwnLate site q s.position (suc n) → OwnLate site q next.position n
    unfolding following entering staying ends
    late-goes-on n h =
        ⊎_elim
        (λ (e : ended site s inputs ≡ true).
        absurd (never_both refl ((rw (next-in site s inputs LateStart h.0 true e) at none) h.1)))
        (λ (e : ended site s inputs ≡ false).
        let runs = leb-false _ _ (sym (ended-in site s inputs LateStart h.0) ∙ e) in
        rw (next-in site s inputs LateStart h.0 false e) (
          h.0,
          h.1,
          timer-falls (late site q) s.position.age 0 0 n (phase-timed site sound q below).late
              (subst (λ (p : ℕ). s.position.age < (phase_times site.times p).late) h.1 runs)
              (omega arith)
              h.2,
        ))
        (decided (ended site s inputs))

-- the minimum green begins in the step, or has not begun after it
pub begins-or-not :
    (site : Site) (q : ℕ) (s : State) (step : Step) →
    ValidLink site s step →
    AwayAt q s.position →
    (minimum_green_begins q step ≡ true) ⊎ NotBegun q (stepped site s step.inputs).position
unfolding minimum_green_begins
begins-or-not site q s step link away =
    let after = stepped site s step.inputs in
    ⊎_elim
    (λ (m : in_minimum_green after q ≡ true).
    let before = or-false-left (in_minimum_green s q) (in_running s q) (sym (green-same s q) ∙ away-green s q away) in
    inl (rw (link.taken.before, link.taken.after) (and_both m (ap not before))))
    (λ (m : in_minimum_green after q ≡ false). inr (not-begun after q m))
    (decided (in_minimum_green after q))
