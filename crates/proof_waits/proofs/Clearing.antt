-- A fact of runs: if a phase is not being left, its movements are in C1 or C2 in running only, and then the maximum count is above 0.
use Prim.Native.Nat.{ℕ, ◌+◌, ◌≤◌, ◌<◌, min}
use mathlib.Core.Bool.{Bool, true, false, not, ◌&&◌, ◌||◌}
use mathlib.Core.Logic.{◌⊎◌, inl, inr, ⊎_elim}
use mathlib.Core.Path.{◌≡◌, refl, sym, ap, ◌∙◌}
use native.Mathlib.Omega.{arith}
use lib.Dec.{leb, ltb}
use lib.ListN.{get_or-replicate}
use borrow.Author.Tests.{not-true, lt-ltb}
use Rattle.rules.specs.declared.site.Site.{Site}
use Rattle.rules.specs.declared.site.WalkTimes.{WalkTimes}
use Rattle.rules.specs.declared.state.Counts.{Counts}
use Rattle.rules.specs.declared.state.Interval.{Interval}
use Rattle.rules.specs.declared.state.Interval.TheVariants.{StartRed, LateStart, MinimumGreen, Running, EarlyCutOff, Yellow, AllRed}
use Rattle.rules.specs.declared.state.Movement.{Movement}
use Rattle.rules.specs.declared.state.Position.{Position}
use Rattle.rules.specs.declared.state.Stage.{Stage}
use Rattle.rules.specs.declared.state.Stage.TheVariants.{Idle, Walk, ClearanceOne, ClearanceTwo}
use Rattle.rules.specs.declared.state.State.{State}
use Rattle.rules.specs.Site.{walk_times}
use Rattle.rules.specs.IntervalTable.{is_idle, is_walk, is_walk_or_first, is_second, is_running, is_leaving}
use Rattle.rules.specs.State.{idle, fresh, movement}
use Rattle.rules.specs.Demands.{next_demanded}
use Rattle.rules.specs.Movements.{walk_may_end, lasting, advanced}
use Rattle.rules.specs.Counts.{counts_after, maximum_after}
use Rattle.rules.specs.Interval.{some_movement, ends, following, entering, staying, counts_changed}
use Rattle.rules.specs.Step.{stepped}
use Rattle.rules.specs.Laws.{Sound}
use Rattle.laws.proofs.Booleans.{and_left, and_right, or_left, or_right, decided, never_both}
use Rattle.rules.proofs.Settings.{phase-timed}
use Rattle.proof_runs.proofs.ValidStates.{ValidState}
use Rattle.proof_runs.proofs.Steps.{times_now, another, counted, may_end, moving, ended, moved, begun, counts_of, movement-of}
use Rattle.proof_runs.proofs.Lasting.{lasting-cases}
use Rattle.proof_runs.proofs.Ends.{by-early, ended-in, next-in, none-moved}

-- in C1 or C2
unfoldable pub is_clearing : Stage → Bool
is_clearing stage = not (is_idle stage || is_walk stage)

-- a movement that is in C1 or C2 after part 2 was so before, or was in walk and might end it
clearing-came :
    (may_end : Bool) (stage : Stage) (times : WalkTimes) (age : ℕ) →
    is_clearing (advanced may_end stage times age).stage ≡ true →
    (is_clearing stage ≡ true) ⊎ (may_end ≡ true)
unfolding is_clearing advanced lasting
clearing-came may_end Idle times age h = absurd (never_both h refl)
clearing-came true Walk times age h = inr refl
clearing-came false Walk times age h = absurd (never_both h refl)
clearing-came may_end ClearanceOne times age h = inl refl
clearing-came may_end ClearanceTwo times age h = inl refl

-- a movement in C1 or C2 is in C2 if it is not in walk or C1
clearing-second : (stage : Stage) → is_clearing stage ≡ true → is_walk_or_first stage ≡ false → is_second stage ≡ true
unfolding is_clearing
clearing-second Idle h out = absurd (never_both h refl)
clearing-second Walk h out = absurd (never_both h refl)
clearing-second ClearanceOne h out = absurd (never_both refl out)
clearing-second ClearanceTwo h out = refl

-- the fact, of a state
abbrev pub Clearing : State → Type 0
Clearing s =
    (k : ℕ) →
    k < 8 →
    is_leaving s.position.interval ≡ false →
    is_clearing (movement s k).stage ≡ true →
    (s.position.interval ≡ Running) × (1 ≤ s.counts.maximum)

pub clearing-fresh : Clearing fresh
unfolding fresh movement is_clearing
clearing-fresh k l off h = absurd (never_both h (rw (get_or-replicate 8 k idle idle l)))

-- out of walk and C1 a movement stays so in part 2
out-kept :
    (may_end : Bool) (stage : Stage) (times : WalkTimes) (age : ℕ) →
    is_walk_or_first stage ≡ false →
    is_walk_or_first (advanced may_end stage times age).stage ≡ false
unfolding advanced
out-kept may_end Idle times age h = refl
out-kept may_end Walk times age h = absurd (never_both refl h)
out-kept may_end ClearanceOne times age h = absurd (never_both refl h)
out-kept may_end ClearanceTwo times age h =
    lasting-cases (λ (m : Movement). is_walk_or_first m.stage ≡ false) true times.second ClearanceTwo Idle age (λ h. refl) (λ h. refl)

module _ (site : Site) (sound : Sound site) (s : State) (inputs : ℕ) (v : ValidState site s) (clear : Clearing s) where
  abbrev next : State
  next = stepped site s inputs

  -- what is in C1 or C2 after the step is so after part 2
  was-moved : (k : ℕ) → k < 8 → is_clearing (movement next k).stage ≡ true → is_clearing (moved site s inputs k).stage ≡ true
  unfolding is_clearing
  was-moved k l h =
      ⊎_elim
      (λ (b : begun site s inputs k ≡ true). absurd (never_both h (rw (movement-of site s inputs k l, b))))
      (λ (b : begun site s inputs k ≡ false). rw (movement-of site s inputs k l, b) at h)
      (decided (begun site s inputs k))

  came : (k : ℕ) → k < 8 → is_clearing (movement next k).stage ≡ true → (is_clearing (movement s k).stage ≡ true) ⊎ (may_end site s inputs ≡ true)
  unfolding moved
  came k l h =
      clearing-came (may_end site s inputs) (movement s k).stage (walk_times site.times k) (movement s k).age (was-moved k l h)

  ends-running : may_end site s inputs ≡ true → is_running s.position.interval ≡ true
  unfolding walk_may_end
  ends-running h =
      and_left (is_running s.position.interval) (another site s inputs) (and_left (is_running s.position.interval && another site s inputs) _ h)

  ends-another : may_end site s inputs ≡ true → another site s inputs ≡ true
  unfolding walk_may_end
  ends-another h =
      and_right (is_running s.position.interval) (another site s inputs) (and_left (is_running s.position.interval && another site s inputs) _ h)

  -- it counts in running once it is above 0 or another phase is demanded
  count-rises :
      s.position.interval ≡ Running →
      ended site s inputs ≡ false →
      (another site s inputs || ltb 0 s.counts.maximum) ≡ true →
      next.counts.maximum ≡ min (s.counts.maximum + 1) (times_now site s).maximum
  unfolding counts_changed counted counts_after maximum_after
  count-rises e b some =
      ap (λ (c : Counts). c.maximum) (counts_of site s inputs) ∙ rw (b, some, e)

  pub rises-clearing :
      s.position.interval ≡ Running →
      ended site s inputs ≡ false →
      1 ≤ s.counts.maximum →
      next.counts.maximum ≡ min (s.counts.maximum + 1) (times_now site s).maximum
  rises-clearing e b some = count-rises e b (or_right (another site s inputs) (lt-ltb 0 s.counts.maximum some))

  some-max : 1 ≤ (times_now site s).maximum
  some-max = (phase-timed site sound s.position.phase v.phase).maximum.0

  -- not in an interval before running
  before-running : (i : Interval) → s.position.interval ≡ i → is_leaving i ≡ false → is_running i ≡ false → (k : ℕ) → k < 8 → is_clearing (movement next k).stage ≡ true → ⊥
  before-running i e off stops k l h =
      ⊎_elim
      (λ (c : is_clearing (movement s k).stage ≡ true).
      never_both (ap is_running (clear k l (ap is_leaving e ∙ off) c).0) (ap is_running e ∙ stops))
      (λ (m : may_end site s inputs ≡ true). never_both (ends-running m) (ap is_running e ∙ stops))
      (came k l h)

  still-leaving : (position : Position) → next.position ≡ position → is_leaving position.interval ≡ true → is_leaving next.position.interval ≡ false → ⊥
  still-leaving position e h off = never_both h (ap (λ (p : Position). is_leaving p.interval) (sym e) ∙ off)

  after-in :
      (i : Interval) (t : Bool) →
      s.position.interval ≡ i →
      ended site s inputs ≡ t →
      (k : ℕ) →
      k < 8 →
      is_leaving next.position.interval ≡ false →
      is_clearing (movement next k).stage ≡ true →
      (next.position.interval ≡ Running) × (1 ≤ next.counts.maximum)
  unfolding following entering staying ends moved
  after-in StartRed t e b k l off h = absurd (before-running StartRed e refl refl k l h)
  after-in LateStart t e b k l off h = absurd (before-running LateStart e refl refl k l h)
  after-in MinimumGreen t e b k l off h = absurd (before-running MinimumGreen e refl refl k l h)
  after-in Running true e b k l off h =
      absurd (by-early (λ (p : Position). next.position ≡ p → ⊥) site.times (next_demanded site s inputs) s.position
      (λ skipped entered. still-leaving (entering Yellow (next_demanded site s inputs) s.position) entered refl off)
      (λ some entered. still-leaving (entering EarlyCutOff (next_demanded site s inputs) s.position) entered refl off)
      (next-in site s inputs Running e true b))
  after-in Running false e b k l off h = (
    ap (λ (p : Position). p.interval) (next-in site s inputs Running e false b) ∙ e,
    ⊎_elim
        (λ (c : is_clearing (movement s k).stage ≡ true).
        omega (arith, some-max, rises-clearing e b (clear k l (ap is_leaving e) c).1))
        (λ (m : may_end site s inputs ≡ true).
        omega (arith, some-max, count-rises e b (or_left (ltb 0 s.counts.maximum) (ends-another m))))
        (came k l h),
  )
  after-in EarlyCutOff true e b k l off h =
      absurd (still-leaving (entering Yellow s.position.target s.position) (next-in site s inputs EarlyCutOff e true b) refl off)
  after-in EarlyCutOff false e b k l off h =
      absurd (still-leaving (staying s.position) (next-in site s inputs EarlyCutOff e false b) (ap is_leaving e) off)
  after-in Yellow true e b k l off h =
      absurd (still-leaving (entering AllRed s.position.target s.position) (next-in site s inputs Yellow e true b) refl off)
  after-in Yellow false e b k l off h =
      absurd (still-leaving (staying s.position) (next-in site s inputs Yellow e false b) (ap is_leaving e) off)
  after-in AllRed true e b k l off h =
      let none = not-true (some_movement is_second (moving site s inputs)) (and_right (leb (times_now site s).red s.position.age) _ (sym (ended-in site s inputs AllRed e) ∙ b)) in
      let out =
      out-kept (may_end site s inputs) (movement s k).stage (walk_times site.times k) (movement s k).age
      ((v.movements k l).leaving (ap is_leaving e)) in
      absurd (never_both (clearing-second (moved site s inputs k).stage (was-moved k l h) out) (none-moved site s inputs is_second none k l))
  after-in AllRed false e b k l off h =
      absurd (still-leaving (staying s.position) (next-in site s inputs AllRed e false b) (ap is_leaving e) off)

  pub clearing-after : Clearing next
  clearing-after k l off h = after-in s.position.interval (ended site s inputs) refl refl k l off h
