-- A demand of phase q, by turns: while the phase is not in minimum green or running, a step in which it is demanded, or has started, begins its
-- minimum green or leaves one step less. The turns may be any that are not below those of the site's times, and so the tail, which is for
-- the late start of q.
use Prim.Native.Nat.{ℕ, zero, suc, ◌+◌, ◌-◌, ◌≤◌, ◌<◌}
use mathlib.Core.Bool.{true, false, not, ◌||◌}
use mathlib.Core.Logic.{◌⊎◌, inl, inr, ⊎_elim}
use mathlib.Core.Path.{◌≡◌, refl, ap, subst}
use native.Mathlib.Omega.{arith}
use lib.Dec.{eqb}
use borrow.Author.Tests.{eqb-true, eq-eqb}
use Rattle.rules.specs.declared.site.Site.{Site}
use Rattle.rules.specs.declared.state.Interval.{Interval}
use Rattle.rules.specs.declared.state.Interval.TheVariants.{StartRed, LateStart, MinimumGreen, Running, EarlyCutOff, Yellow, AllRed}
use Rattle.rules.specs.declared.state.State.{State}
use Rattle.rules.specs.IntervalTable.{is_green, is_running, is_before_start, is_leaving}
use Rattle.rules.specs.Demands.{demanded}
use Rattle.rules.specs.Step.{stepped}
use Rattle.rules.specs.Waits.{turn_of, clears_first, phase_wait_by}
use Rattle.rules.specs.Laws.{Sound}
use Rattle.rules.specs.PhaseWaits.{has_started}
use Rattle.laws.proofs.Booleans.{and_left, and_right, and_both, and-false-right, decided, never_both}
use Rattle.rules.proofs.Settings.{start-timed}
use Rattle.proof_runs.proofs.ValidStates.{ValidState}
use Rattle.proof_runs.proofs.Steps.{now}
use Rattle.proof_waits.proofs.Stages.{idles, overs}
use Rattle.proof_waits.proofs.Paths.{ring_in, ahead, onward, ahead_own, ahead_apart, demanded-another, next-near}
use Rattle.proof_waits.proofs.Away.{AwayAt, NotBegun}
use Rattle.proof_waits.proofs.Own.{late, OwnLate, late-starts, late-goes-on}
use Rattle.proof_waits.proofs.Progress.{Starts}
use Rattle.proof_waits.proofs.Entered.{Entered}
use Rattle.proof_waits.proofs.Turns.{TurnIn, TurnLeft, turn-never, Demanding, turn-progress}
use Rattle.proof_waits.proofs.TurnBound.{turn-within}

-- ── Started or not ──

-- a phase that has started and is neither in minimum green nor running is in late start
late-only : (i : Interval) → is_green i ≡ false → not (is_before_start i || is_leaving i) ≡ true → i ≡ LateStart
late-only StartRed g h = absurd (never_both h refl)
late-only LateStart g h = refl
late-only MinimumGreen g h = absurd (never_both refl g)
late-only Running g h = absurd (never_both refl g)
late-only EarlyCutOff g h = absurd (never_both h refl)
late-only Yellow g h = absurd (never_both h refl)
late-only AllRed g h = absurd (never_both h refl)

started-late : (s : State) (q : ℕ) → AwayAt q s.position → has_started s q ≡ true → (s.position.interval ≡ LateStart) × (s.position.phase ≡ q)
unfolding has_started
started-late s q away h =
    let same = eqb-true s.position.phase q (and_left (eqb s.position.phase q) _ h) in (
      late-only s.position.interval (away same)
          (and_right (eqb s.position.phase q) (not (is_before_start s.position.interval || is_leaving s.position.interval)) h),
      same,
    )

pub not-started :
    (s : State) (q : ℕ) →
    has_started s q ≡ false →
    (is_before_start s.position.interval || is_leaving s.position.interval) ≡ false →
    s.position.phase ≡ q →
    ⊥
unfolding has_started
not-started s q h off same = never_both (and_both (eq-eqb s.position.phase q same) (ap not off)) h

-- ── What is left ──

abbrev pub PhaseLeft : (turn : ℕ → ℕ) → (tail : ℕ) → ℕ → Site → ℕ → State → Type 0
PhaseLeft turn tail q site n s =
    TurnLeft site (ahead turn (ring_in site) q tail) (onward turn (ring_in site) q tail) s n ⊎ OwnLate site q s.position n

pub phase-never : (turn : ℕ → ℕ) (tail q : ℕ) (site : Site) (s : State) → PhaseLeft turn tail q site zero s → ⊥
phase-never turn tail q site s (inl h) = turn-never site (ahead turn (ring_in site) q tail) (onward turn (ring_in site) q tail) s h
phase-never turn tail q site s (inr h) = omega (arith, h.2)

module _
    (site : Site)
    (sound : Sound site)
    (q : ℕ)
    (below : q < site.size.phases)
    (turn : ℕ → ℕ)
    (whole : (p : ℕ) → turn_of site p ≤ turn p)
    (tail : ℕ)
    (enough : late site q ≤ tail)
  where
    abbrev here : ℕ → ℕ
    here = ahead turn (ring_in site) q tail

    abbrev beyond : ℕ → ℕ
    beyond = onward turn (ring_in site) q tail

    -- ── A step in which the minimum green does not begin ──

    module _ (s : State) (inputs : ℕ) (away : AwayAt q s.position) (none : NotBegun q (stepped site s inputs).position) where
      abbrev next : State
      next = stepped site s inputs

      -- once the phase has started
      pub started-falls : has_started s q ≡ true → (n : ℕ) → PhaseLeft turn tail q site (suc n) s → PhaseLeft turn tail q site n next
      started-falls h n left =
          inr (late-goes-on site sound q below s inputs none n (own left))
        where
          there : (s.position.interval ≡ LateStart) × (s.position.phase ≡ q)
          there = started-late s q away h

          own : PhaseLeft turn tail q site (suc n) s → OwnLate site q s.position (suc n)
          own (inl left) = (there.0, there.1, shorter (subst (λ (i : Interval). TurnIn site here beyond i s.position s.counts.maximum (overs site s) (idles site s) (suc n)) there.0 left))
            where
              shorter : TurnIn site here beyond LateStart s.position s.counts.maximum (overs site s) (idles site s) (suc n) → late site q - s.position.age + 1 + 0 ≤ suc n
              shorter left = omega (arith, left.0, ap (late site) there.1)
          own (inr started) = started

      -- while it is demanded
      module _ (v : ValidState site s) (v' : ValidState site next) (d : demanded site s inputs q ≡ true) where
        other-phase : is_green s.position.interval ≡ true → s.position.phase ≡ q → ⊥
        other-phase green same = never_both green (away same)

        stand : Demanding site here beyond q s inputs
        stand =
            record {
              apart = λ t other. omega (arith, whole t, ahead_apart turn (ring_in site) q tail t other);
              found = next-near site q sound below s inputs d turn tail v.phase;
              held = λ e. demanded-another site q sound below s inputs d (other-phase (ap is_green e));
              calm = λ green.
                  and-false-right (is_running (now site s inputs).interval)
                  (ap not (demanded-another site q sound below s inputs d (other-phase green)));
            }

        pub demanded-falls : (n : ℕ) → PhaseLeft turn tail q site (suc n) s → PhaseLeft turn tail q site n next
        demanded-falls n (inl h) =
            ⊎_elim
            (λ (starts : Starts site here q s inputs n).
            inr (late-starts site sound q below s inputs none here (omega (arith, enough, ahead_own turn (ring_in site) q tail)) n starts))
            (λ (left : TurnLeft site here beyond next n). inl left)
            (turn-progress site sound here beyond q s inputs v v' stand n h)
        demanded-falls n (inr h) = inr (late-goes-on site sound q below s inputs none n h)

    -- ── No more is left than the wait ──

    own-late :
        (s : State) → ValidState site s → (s.position.interval ≡ LateStart) × (s.position.phase ≡ q) → OwnLate site q s.position (phase_wait_by site tail turn q)
    unfolding phase_wait_by clears_first
    own-late s v h = (h.0, h.1, omega (arith, enough, start-timed site sound, v.age))

    pub phase-within :
        (s : State) → ValidState site s → Entered site s → AwayAt q s.position → PhaseLeft turn tail q site (phase_wait_by site tail turn q) s
    unfolding phase_wait_by
    phase-within s v entered away =
        ⊎_elim
        (λ (h : has_started s q ≡ true). inr (own-late s v (started-late s q away h)))
        (λ (h : has_started s q ≡ false).
        inl (turn-within site sound q below turn whole tail (phase_wait_by site tail turn q) (omega arith) s v entered (not-started s q h)))
        (decided (has_started s q))
