-- At the state in which a demand of phase q comes no more is left than its wait. What is left of the phase now is within its turn, or is a
-- clearance that comes first; the ring gives one turn of each other phase. The turns may be any that are not below those of the site's times.
use Prim.Native.Nat.{ℕ, ◌+◌, ◌-◌, ◌≤◌, ◌<◌, max}
use mathlib.Core.Bool.{true, false, not, ◌&&◌, ◌||◌}
use mathlib.Core.Logic.{⊎_elim}
use mathlib.Core.Path.{◌≡◌, refl, ap, subst}
use native.Mathlib.Omega.{arith}
use lib.Dec.{ltb, eqb}
use borrow.Author.Tests.{eqb-true, eqb-false, not-true}
use Rattle.rules.specs.declared.site.Site.{Site}
use Rattle.rules.specs.declared.state.Interval.{Interval}
use Rattle.rules.specs.declared.state.Interval.TheVariants.{StartRed, LateStart, MinimumGreen, Running, EarlyCutOff, Yellow, AllRed}
use Rattle.rules.specs.declared.state.State.{State}
use Rattle.std.specs.Prelude.{if◌then◌else◌, Option, Some, None}
use Rattle.laws.specs.Folds.{sum_of, greatest_of}
use Rattle.rules.specs.Site.{walk_times}
use Rattle.rules.specs.IntervalTable.{phase_held, is_held, is_leaving, is_before_start}
use Rattle.rules.specs.State.{movement, target_valid}
use Rattle.rules.specs.Demands.{next_after}
use Rattle.rules.specs.Waits.{leaving_of, green_of, turn_of, rest_of, comes_after, clearing_of, clears_first}
use Rattle.rules.specs.Laws.{Sound}
use Rattle.laws.proofs.Booleans.{and_right, decided, never_both}
use Rattle.laws.proofs.Sums.{sum-but, greatest-at}
use Rattle.rules.proofs.Settings.{Timed, phase-timed, start-timed}
use Rattle.proof_runs.proofs.ValidStates.{ValidState, leaving-target}
use Rattle.proof_runs.proofs.Steps.{times_now}
use Rattle.proof_waits.proofs.Stages.{idles, overs, clear-most, over-idle}
use Rattle.proof_waits.proofs.Left.{Each}
use Rattle.proof_waits.proofs.Paths.{ring_in, ahead, onward, ahead_past, ahead-most, onward-most, onward-own}
use Rattle.proof_waits.proofs.Entered.{EnteredIn, Entered}
use Rattle.proof_waits.proofs.Turns.{TurnIn, TurnLeft, turn-timers, overs-most}

-- ── What is left of the phase now, by its timers ──

module _ (site : Site) (sound : Sound site) (s : State) (v : ValidState site s) (entered : Entered site s) where
  times : Timed (times_now site s)
  times = phase-timed site sound s.position.phase v.phase

  entered-in : (i : Interval) → s.position.interval ≡ i → EnteredIn i (times_now site s)
  entered-in i e = subst (λ (j : Interval). EnteredIn j (times_now site s)) e entered

  pub late-green :
      s.position.interval ≡ LateStart →
      (times_now site s).late - s.position.age + 1 + (times_now site s).minimum + max 1 (times_now site s).maximum ≤ green_of (times_now site s)
  late-green e = omega (arith, entered-in LateStart e, v.age, times.maximum)

  pub minimum-green : (times_now site s).minimum - s.position.age + 1 + max 1 (times_now site s).maximum ≤ green_of (times_now site s)
  minimum-green = omega (arith, v.age, times.minimum, times.maximum)

  pub running-green : 0 + max 1 ((times_now site s).maximum - s.counts.maximum) ≤ green_of (times_now site s)
  running-green = omega (arith, times.minimum)

  early-leaving :
      s.position.interval ≡ EarlyCutOff →
      (times_now site s).early - s.position.age + 1 + ((times_now site s).yellow + (times_now site s).red) ≤ leaving_of (times_now site s)
  early-leaving e = omega (arith, v.age, entered-in EarlyCutOff e)

  yellow-leaving : (times_now site s).yellow - s.position.age + 1 + (times_now site s).red ≤ leaving_of (times_now site s)
  yellow-leaving = omega (arith, v.age, times.yellow)

  red-leaving : (times_now site s).red - s.position.age + 1 ≤ leaving_of (times_now site s)
  red-leaving = omega (arith, v.age, times.red)

-- ── The next phase in the order ──

target-other : (count phase : ℕ) (target : Option ℕ) → target_valid count phase true target ≡ true → phase_held target ≡ phase → ⊥
unfolding target_valid phase_held
target-other count phase None h = absurd (never_both h refl)
target-other count phase (Some t) h = eqb-false t phase (not-true (eqb t phase) (and_right (ltb t count) (not (eqb t phase)) h))

held-as : (next : Option ℕ) (r : ℕ) → (is_held next && eqb (phase_held next) r) ≡ true → next ≡ Some r
unfolding is_held phase_held
held-as None r h = absurd (never_both h refl)
held-as (Some t) r h = ap Some (eqb-true t r h)

-- ── Within the wait ──

-- with such turns, such a tail after the start of q, and within such a wait
module _
    (site : Site)
    (sound : Sound site)
    (q : ℕ)
    (below : q < site.size.phases)
    (turn : ℕ → ℕ)
    (whole : (p : ℕ) → turn_of site p ≤ turn p)
    (tail wait : ℕ)
  where
    abbrev here : ℕ → ℕ
    here = ahead turn (ring_in site) q tail

    abbrev beyond : ℕ → ℕ
    beyond = onward turn (ring_in site) q tail

    all-turns : rest_of site turn q + turn q ≡ sum_of turn site.size.phases
    unfolding rest_of
    all-turns = sum-but turn site.size.phases q below

    -- the ring once round
    pub beyond-own : beyond q ≤ rest_of site turn q + tail
    beyond-own = omega (arith, all-turns, onward-own site q sound below turn tail)

    here-most : (t : ℕ) → t < site.size.phases → here t ≤ rest_of site turn q + tail
    here-most t l = omega (arith, all-turns, ahead-most site q sound below turn tail t l)

    beyond-most : (p : ℕ) → p < site.size.phases → (p ≡ q → ⊥) → turn_of site p + beyond p ≤ rest_of site turn q + tail
    beyond-most p l other = omega (arith, all-turns, whole p, onward-most site q sound below turn tail p l other)

    -- the way from another phase does not lead through the next one
    past_next : (r t : ℕ) → comes_after site q r ≡ true → t < site.size.phases → (t ≡ r → ⊥) → turn_of site r + here t ≤ rest_of site turn q + tail
    unfolding comes_after
    past_next r t next l other =
        omega (
          arith,
          all-turns,
          whole r,
          ahead_past site q sound below turn tail r t (held-as (next_after (ring_in site) q (λ p. true)) r next) l other,
        )

    first-start : site.times.start ≤ clears_first site q
    unfolding clears_first
    first-start = omega arith

    first-clearing : (r : ℕ) → r < site.size.phases → comes_after site q r ≡ false → clearing_of site r ≤ clears_first site q
    unfolding clears_first
    first-clearing r l after =
        let each : ℕ → ℕ = λ r. if comes_after site q r then 0 else clearing_of site r in
        let most : clearing_of site r ≤ greatest_of each site.size.phases = rw after at (greatest-at each site.size.phases r l) in
        omega (arith, most)

    module _
        (enough : tail + clears_first site q + rest_of site turn q ≤ wait)
        (s : State)
        (v : ValidState site s)
        (entered : Entered site s)
        (apart : (is_before_start s.position.interval || is_leaving s.position.interval) ≡ false → s.position.phase ≡ q → ⊥)
      where
        abbrev leaving : ℕ
        leaving = leaving_of (times_now site s)

        -- while the phase is being left
        module _ (left : is_leaving s.position.interval ≡ true) where
          abbrev target : ℕ
          target = phase_held s.position.target

          other-target : target ≡ s.position.phase → ⊥
          other-target = target-other site.size.phases s.position.phase s.position.target (rw left at v.target)

          -- within the turn
          idles-turn : (k : ℕ) → k < 8 → idles site s k ≤ turn_of site s.position.phase
          unfolding idles overs
          idles-turn k l =
              omega (
                arith,
                over-idle (walk_times site.times k) (movement s k).age 0 leaving (movement s k).stage ((v.movements k l).leaving left),
                overs-most site sound s v 0 k l,
              )

          idles-clearing : (k : ℕ) → k < 8 → idles site s k ≤ clearing_of site s.position.phase
          unfolding idles clearing_of
          idles-clearing k l = omega (arith, clear-most site sound s.position k (movement s k) (v.movements k l) left)

          leaving-clearing : leaving ≤ clearing_of site s.position.phase
          unfolding clearing_of
          leaving-clearing = omega arith

          leaving-within : (timer : ℕ) → timer ≤ leaving → Each timer (here target) (idles site s) wait
          leaving-within timer most =
              let near = leaving-target site s v left in
              ⊎_elim
              (λ (next : comes_after site q s.position.phase ≡ true).
              let way = past_next s.position.phase target next near other-target in (
                omega (arith, way, turn-timers site s.position.phase),
                λ k l. omega (arith, way, idles-turn k l),
              ))
              (λ (other : comes_after site q s.position.phase ≡ false).
              let first = first-clearing s.position.phase v.phase other in
              let way = here-most target near in (
                omega (arith, way, first, leaving-clearing),
                λ k l. omega (arith, way, first, idles-clearing k l),
              ))
              (decided (comes_after site q s.position.phase))

        -- in the green of another phase
        green-within :
            (s.position.phase ≡ q → ⊥) →
            (to hold : ℕ) →
            to + max 1 hold ≤ green_of (times_now site s) →
            Each (to + max 1 hold + leaving) (beyond s.position.phase) (overs site s (to + hold) leaving) wait
        green-within other to hold most =
            let way = beyond-most s.position.phase v.phase other in (
              omega (arith, way, turn-timers site s.position.phase),
              λ k l. omega (arith, way, overs-most site sound s v (to + hold) k l),
            )

        within :
            (i : Interval) →
            s.position.interval ≡ i →
            TurnIn site here beyond i s.position s.counts.maximum (overs site s) (idles site s) wait
        within StartRed e = omega (arith, here-most s.position.phase v.phase, start-timed site sound, v.age, first-start)
        within LateStart e = green-within (apart (rw e refl)) _ _ (late-green site sound s v entered e)
        within MinimumGreen e = green-within (apart (rw e refl)) _ _ (minimum-green site sound s v entered)
        within Running e = green-within (apart (rw e refl)) 0 _ (running-green site sound s v entered)
        within EarlyCutOff e = leaving-within (ap is_leaving e) _ (early-leaving site sound s v entered e)
        within Yellow e = leaving-within (ap is_leaving e) _ (yellow-leaving site sound s v entered)
        within AllRed e = leaving-within (ap is_leaving e) _ (red-leaving site sound s v entered)

        pub turn-within : TurnLeft site here beyond s wait
        turn-within = within s.position.interval refl
