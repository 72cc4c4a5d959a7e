-- At the state in which a button demand comes no more is left than the wait of the movement.
use Prim.Native.Nat.{ℕ, ◌+◌, ◌-◌, ◌≤◌, ◌<◌, max}
use mathlib.Core.Bool.{true, false, not, ◌||◌}
use mathlib.Core.Logic.{⊎_elim}
use mathlib.Core.Path.{◌≡◌, refl, sym, ap, subst}
use native.Mathlib.Omega.{arith}
use lib.Dec.{eqb}
use borrow.Author.Tests.{eqb-true, ne_eqb}
use Rattle.rules.specs.declared.site.Site.{Site}
use Rattle.rules.specs.declared.site.WalkTimes.{WalkTimes}
use Rattle.rules.specs.declared.state.Interval.{Interval}
use Rattle.rules.specs.declared.state.Interval.TheVariants.{StartRed, LateStart, MinimumGreen, Running, EarlyCutOff, Yellow, AllRed}
use Rattle.rules.specs.declared.state.Stage.{Stage}
use Rattle.rules.specs.declared.state.Stage.TheVariants.{Idle, Walk, ClearanceOne, ClearanceTwo}
use Rattle.rules.specs.declared.state.State.{State}
use Rattle.rules.specs.Site.{phase_times, walk_times, crosses}
use Rattle.rules.specs.IntervalTable.{is_idle, is_walk, is_running, is_leaving, is_before_start}
use Rattle.rules.specs.State.{movement}
use Rattle.rules.specs.Waits.{leaving_of, green_of, walk_ending, ending, turn_of, rest_of, clears_first, own_of, movement_wait_by}
use Rattle.rules.specs.PhaseWaits.{has_started}
use Rattle.rules.specs.Laws.{Sound}
use Rattle.laws.proofs.Booleans.{and_left, and_right, decided, never_both}
use Rattle.rules.proofs.Settings.{Reached, walk-reached}
use Rattle.proof_runs.proofs.ValidStates.{ValidState}
use Rattle.proof_runs.proofs.Steps.{times_now}
use Rattle.proof_waits.proofs.Stages.{until_idle, idles, overs, green_left, over_none, past-limit, stage-reached}
use Rattle.proof_waits.proofs.Left.{Each}
use Rattle.proof_waits.proofs.Paths.{ring_in, ahead, onward}
use Rattle.proof_waits.proofs.Entered.{Entered}
use Rattle.proof_waits.proofs.Pressed.{button-room}
use Rattle.proof_waits.proofs.Turns.{TurnIn, ending-walk}
use Rattle.proof_waits.proofs.TurnBound.{late-green, minimum-green, running-green, beyond-own, turn-within}
use Rattle.proof_waits.proofs.PhaseTurns.{not-started}
use Rattle.proof_waits.proofs.Clearing.{Clearing}
use Rattle.proof_waits.proofs.ButtonTurns.{OwnClearing, ButtonTurn, own-green, busy-clearing}

-- ── The wait of a movement ──

own-limit : (stage : Stage) (times : WalkTimes) (age : ℕ) → 1 ≤ age → Reached times → is_walk stage ≡ false → until_idle stage times age ≤ times.first + times.second
unfolding until_idle
own-limit Idle times age a r h = omega arith
own-limit Walk times age a r h = absurd (never_both refl h)
own-limit ClearanceOne times age a r h = omega (arith, r.first)
own-limit ClearanceTwo times age a r h = omega (arith, r.second)

either-most : (a b c m : ℕ) → a + c ≤ m → b + c ≤ m → max a b + c ≤ m
either-most a b c m p q = omega arith

module _
    (site : Site)
    (sound : Sound site)
    (q m : ℕ)
    (below : q < site.size.phases)
    (exists : m < site.size.movements)
    (crossing : crosses site.crossings m q ≡ true)
    (only : (p : ℕ) → crosses site.crossings m p ≡ true → p ≡ q)
    (turn : ℕ → ℕ)
    (whole : (p : ℕ) → turn_of site p ≤ turn p)
  where
    room : m < 8
    room = button-room site sound q m exists crossing

    abbrev wait : ℕ
    wait = movement_wait_by site turn q m

    abbrev green : ℕ
    green = green_of (phase_times site.times q)

    abbrev leaving : ℕ
    leaving = leaving_of (phase_times site.times q)

    abbrev clearing : ℕ
    clearing = (walk_times site.times m).first + (walk_times site.times m).second

    abbrev here : ℕ → ℕ
    here = ahead turn (ring_in site) q 0

    abbrev beyond : ℕ → ℕ
    beyond = onward turn (ring_in site) q 0

    after-own : beyond q ≤ rest_of site turn q
    after-own = omega (arith, beyond-own site sound q below turn whole 0 wait)

    timers-own : (green + leaving ≤ own_of site q m) × (clearing + leaving ≤ own_of site q m)
    unfolding own_of ending
    timers-own = (omega arith, omega arith)

    module _ (k : ℕ) (l : k < site.size.movements) (ne : k ≡ m → ⊥) (c : crosses site.crossings k q ≡ true) where
      abbrev last : ℕ
      last = (walk_times site.times k).first + max leaving (walk_times site.times k).second

      walk-green : max (walk_times site.times k).walk (green + 1) + last ≤ own_of site q m
      unfolding own_of walk_ending
      walk-green = omega (arith, ending-walk site q k (λ k. not (eqb k m)) green 0 l c (ap not (ne_eqb k m ne)))

      walk-clearing : clearing + (walk_times site.times k).walk + last ≤ own_of site q m
      unfolding own_of walk_ending
      walk-clearing = omega (arith, ending-walk site q k (λ k. not (eqb k m)) clearing clearing l c (ap not (ne_eqb k m ne)))

    wait-own : own_of site q m + rest_of site turn q ≤ wait
    unfolding movement_wait_by
    wait-own = omega arith

    wait-first : 0 + clears_first site q + rest_of site turn q ≤ wait
    unfolding movement_wait_by
    wait-first = omega arith

    module _ (s : State) (v : ValidState site s) (entered : Entered site s) (clear : Clearing s) (still : is_walk (movement s m).stage ≡ false) where
      -- in running with m in C1 or C2
      own-within : s.position.phase ≡ q → OwnClearing site m (beyond q) q (idles site s m) ((phase_times site.times q).maximum - s.counts.maximum) wait
      unfolding idles
      own-within same = (
        omega (arith, either-most back hold leaving (own_of site q m) (omega (arith, back-most, timers-own.1)) (omega (arith, timers-own.0)), wait-own, after-own),
        λ k l ne c.
            omega (
              arith,
              either-most (back - 1 + (walk_times site.times k).walk) (hold + 1) ((walk_times site.times k).first + max leaving (walk_times site.times k).second)
                  (own_of site q m)
                  (omega (arith, back-most, walk-clearing k l ne c))
                  (omega (arith, walk-green k l ne c)),
              wait-own,
              after-own,
            ),
      )
        where
          back : ℕ
          back = until_idle (movement s m).stage (walk_times site.times m) (movement s m).age

          hold : ℕ
          hold = (phase_times site.times q).maximum - s.counts.maximum

          back-most : back ≤ clearing
          back-most = own-limit (movement s m).stage (walk_times site.times m) (movement s m).age (v.movements m room).age.0 (walk-reached site sound m exists) still

      -- in the green of q with m idle
      overs-own : (g k : ℕ) → k < 8 → s.position.phase ≡ q → is_idle (movement s m).stage ≡ true → g ≤ green → overs site s g leaving k ≤ own_of site q m
      unfolding overs
      overs-own g k l same idle most =
          let times = walk_times site.times k in
          let age = (movement s k).age in
          let stage = (movement s k).stage in
          ⊎_elim
          (λ (i : is_idle stage ≡ true). omega (arith, over_none times age g leaving stage i))
          (λ (i : is_idle stage ≡ false).
          let of = (v.movements k l).of_phase i in
          let ne : k ≡ m → ⊥ = λ e. never_both idle (subst (λ (j : ℕ). is_idle (movement s j).stage ≡ false) e i) in
          omega (
            arith,
            past-limit times age g (max leaving times.second) true stage (v.movements k l).age.0
                (stage-reached site sound s.position k (movement s k) (v.movements k l) i)
                (omega arith),
            walk-green k of.0 ne (subst (λ (p : ℕ). crosses site.crossings k p ≡ true) same of.1),
          ))
          (decided (is_idle stage))

      green-own :
          s.position.phase ≡ q →
          is_idle (movement s m).stage ≡ true →
          (to hold : ℕ) →
          to + max 1 hold ≤ green →
          Each (to + max 1 hold + leaving_of (times_now site s)) (beyond s.position.phase) (overs site s (to + hold) (leaving_of (times_now site s))) wait
      green-own same idle to hold most =
          subst (λ (p : ℕ). Each (to + max 1 hold + leaving_of (phase_times site.times p)) (beyond p) (overs site s (to + hold) (leaving_of (phase_times site.times p))) wait)
          (sym same) (
            omega (arith, timers-own.0, wait-own, after-own),
            λ k l. omega (arith, overs-own (to + hold) k l same idle (omega arith), wait-own, after-own),
          )

      green-now : s.position.phase ≡ q → (n : ℕ) → n ≤ green_of (times_now site s) → n ≤ green
      green-now same n h = subst (λ (p : ℕ). n ≤ green_of (phase_times site.times p)) same h

      idle-before : is_running s.position.interval ≡ false → is_leaving s.position.interval ≡ false → is_idle (movement s m).stage ≡ true
      idle-before stops off =
          ⊎_elim
          (λ (i : is_idle (movement s m).stage ≡ true). i)
          (λ (i : is_idle (movement s m).stage ≡ false).
          absurd (never_both (ap is_running (clear m room off (busy-clearing (movement s m).stage still i)).0) stops))
          (decided (is_idle (movement s m).stage))

      own-here :
          s.position.phase ≡ q →
          OwnClearing site m (beyond s.position.phase) s.position.phase (idles site s m) (green_left site s) wait
      own-here same =
          subst
          (λ (p : ℕ).
          OwnClearing site m (beyond p) p (idles site s m) ((phase_times site.times p).maximum - s.counts.maximum) wait)
          (sym same)
          (own-within same)

      -- the phase has started
      started-within :
          (i : Interval) →
          s.position.interval ≡ i →
          not (is_before_start i || is_leaving i) ≡ true →
          s.position.phase ≡ q →
          TurnIn site here beyond i s.position s.counts.maximum (overs site s) (idles site s) wait
      started-within StartRed e h same = absurd (never_both h refl)
      started-within LateStart e h same =
          green-own same (idle-before (ap is_running e) (ap is_leaving e)) _ _ (green-now same _ (late-green site sound s v entered e))
      started-within MinimumGreen e h same =
          green-own same (idle-before (ap is_running e) (ap is_leaving e)) _ _ (green-now same _ (minimum-green site sound s v entered))
      started-within Running e h same =
          ⊎_elim
          (λ (i : is_idle (movement s m).stage ≡ true). green-own same i 0 _ (green-now same _ (running-green site sound s v entered)))
          (λ (i : is_idle (movement s m).stage ≡ false).
          subst (λ (j : Interval). TurnIn site here beyond j s.position s.counts.maximum (overs site s) (idles site s) wait) e
          (own-green site sound q m below exists crossing turn whole s wait v e still i (own-here same)))
          (decided (is_idle (movement s m).stage))
      started-within EarlyCutOff e h same = absurd (never_both h refl)
      started-within Yellow e h same = absurd (never_both h refl)
      started-within AllRed e h same = absurd (never_both h refl)

      pub button-within : ButtonTurn turn q m site wait s
      unfolding has_started
      button-within = (
        ⊎_elim
            (λ (h : has_started s q ≡ true).
            started-within s.position.interval refl
            (and_right (eqb s.position.phase q) _ h)
            (eqb-true s.position.phase q (and_left (eqb s.position.phase q) _ h)))
            (λ (h : has_started s q ≡ false).
            turn-within site sound q below turn whole 0 wait wait-first s v entered (not-started s q h))
            (decided (has_started s q)),
        λ busy. own-here (only s.position.phase ((v.movements m room).of_phase busy.1).1),
      )
