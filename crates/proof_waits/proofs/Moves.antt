-- What one step from a valid state does to the interval, the maximum count and the movements, in the terms in which the wait is counted.
use Prim.Native.Nat.{ℕ, ◌+◌, ◌-◌, ◌≤◌, ◌<◌, min, max}
use mathlib.Core.Bool.{Bool, true, false, not, ◌&&◌, ◌||◌}
use mathlib.Core.Logic.{◌⊎◌, inl, inr, ⊎_elim}
use mathlib.Core.Path.{◌≡◌, refl, sym, ap, ◌∙◌}
use lib.Dec.{leb, eqb}
use native.Mathlib.Omega.{arith}
use borrow.Author.Tests.{leb-false, eqb-false, not-false}
use Rattle.rules.specs.declared.site.PhaseTimes.{PhaseTimes}
use Rattle.rules.specs.declared.site.Site.{Site}
use Rattle.rules.specs.declared.site.WalkTimes.{WalkTimes}
use Rattle.rules.specs.declared.state.Counts.{Counts}
use Rattle.rules.specs.declared.state.Interval.{Interval}
use Rattle.rules.specs.declared.state.Interval.TheVariants.{Running, AllRed}
use Rattle.rules.specs.declared.state.Position.{Position}
use Rattle.rules.specs.declared.state.Stage.{Stage}
use Rattle.rules.specs.declared.state.State.{State}
use Rattle.std.specs.Prelude.{if◌then◌else◌}
use Rattle.rules.specs.Site.{walk_times, crosses}
use Rattle.rules.specs.IntervalTable.{is_idle, is_walk, is_walk_or_first, is_second, is_running, is_leaving, is_before_start}
use Rattle.rules.specs.State.{movement}
use Rattle.rules.specs.Demands.{next_demanded}
use Rattle.rules.specs.Movements.{walk_may_end}
use Rattle.rules.specs.Counts.{counts_after, maximum_after}
use Rattle.rules.specs.Interval.{some_movement, ends, following, staying, counts_changed}
use Rattle.rules.specs.Step.{stepped}
use Rattle.rules.specs.Laws.{Sound}
use Rattle.laws.proofs.Booleans.{and-false-left, and-false-right, and-false-cases, or-false-both, or-false-right}
use Rattle.proof_runs.proofs.ValidStates.{ValidState}
use Rattle.proof_runs.proofs.Steps.{times_now, another, counted, may_end, moving, ended, now, started, moved, asked_now, begun, counts_of, movement-of}
use Rattle.proof_runs.proofs.Ends.{ended-in, now-in, started-in, some-moved}
use Rattle.proof_waits.proofs.Stages.{green_left, outs, idles, overs, out-of-walk, until_out, until_idle, past-falls, idle-falls, out_some, idle-some, stage-reached}

rises : (times : PhaseTimes) (count : ℕ) → maximum_after Running times true count ≡ min (count + 1) times.maximum
unfolding maximum_after
rises times count = refl

-- where a walk that has lasted may not end, the maximum count is not reached
pub rests : (times : PhaseTimes) (counts : Counts) → walk_may_end Running times true counts ≡ false → counts.maximum ≡ times.maximum → ⊥
unfolding walk_may_end
rests times counts h = eqb-false _ _ (or-false-right (eqb counts.gap 0) (eqb counts.maximum times.maximum) h)

module _ (site : Site) (s : State) (inputs : ℕ) where
  -- ── Walks that begin ──

  -- no walk begins where no phase starts, unless the interval is now running and no other phase is demanded
  pub quiet :
      started site s inputs ≡ false →
      (is_running (now site s inputs).interval && not (another site s inputs)) ≡ false →
      (k : ℕ) →
      begun site s inputs k ≡ false
  unfolding begun
  quiet h r k =
      and-false-right (asked_now site s inputs k && crosses site.crossings k (now site s inputs).phase)
      (or-false-both h (and-false-left (is_idle (moved site s inputs k).stage) r))

  -- in a known interval: none where no phase starts and the interval is not running now
  pub quiet-in :
      (i : Interval) (e : s.position.interval ≡ i) (t : Bool) (h : ended site s inputs ≡ t) →
      (t && is_before_start i) ≡ false →
      is_running (if t then following i site.times (next_demanded site s inputs) s.position else staying s.position).interval ≡ false →
      (k : ℕ) →
      begun site s inputs k ≡ false
  quiet-in i e t h none stops =
      quiet (started-in site s inputs i e t h ∙ none)
      (and-false-left _ (ap (λ (p : Position). is_running p.interval) (now-in site s inputs i e t h) ∙ stops))

  pub moved_on : (k : ℕ) → k < 8 → begun site s inputs k ≡ false → movement (stepped site s inputs) k ≡ moved site s inputs k
  moved_on k l b = movement-of site s inputs k l ∙ rw b

  -- a movement that part 2 leaves in such a stage, where no walk begins, has a count in the next state
  some-counted :
      (count : Stage → WalkTimes → ℕ → ℕ) (test : Stage → Bool) →
      ((times : WalkTimes) (age : ℕ) (stage : Stage) → test stage ≡ true → 1 ≤ count stage times age) →
      ((k : ℕ) → begun site s inputs k ≡ false) →
      some_movement test (moving site s inputs) ≡ true →
      (k : ℕ)
      × (k < 8)
      × (1 ≤ count (movement (stepped site s inputs) k).stage (walk_times site.times k) (movement (stepped site s inputs) k).age)
  some-counted count test counts quiet h =
      let w = some-moved site s inputs test h in (
        w.0,
        w.1,
        rw (moved_on w.0 w.1 (quiet w.0))
            (counts (walk_times site.times w.0) (moved site s inputs w.0).age (moved site s inputs w.0).stage w.2),
      )

  -- ── Running goes on though another phase is demanded ──

  module _ (e : s.position.interval ≡ Running) (a : another site s inputs ≡ true) (h : ended site s inputs ≡ false) where
    counts-stay : (stepped site s inputs).counts ≡ counted site s inputs
    unfolding counts_changed
    counts-stay = counts_of site s inputs ∙ rw h

    pub maximum-rises : (stepped site s inputs).counts.maximum ≡ min (s.counts.maximum + 1) (times_now site s).maximum
    unfolding counted counts_after
    maximum-rises = ap (λ (c : Counts). c.maximum) counts-stay ∙ rw (a, e) (rises (times_now site s) s.counts.maximum)

    quiet-demanded : (k : ℕ) → begun site s inputs k ≡ false
    quiet-demanded =
        quiet (started-in site s inputs Running e false h) (and-false-right (is_running (now site s inputs).interval) (ap not a))

    -- what holds it up: a movement is in walk or C1, or the maximum count is not reached
    pub running-held :
        ((k : ℕ) × (k < 8) × (1 ≤ outs site (stepped site s inputs) k))
        ⊎ ((stepped site s inputs).counts.maximum ≡ (times_now site s).maximum → ⊥)
    unfolding ends outs
    running-held =
        let green = green_left site (stepped site s inputs) in
        ⊎_elim
        (λ (b : (true && not (some_movement is_walk_or_first (moving site s inputs))) ≡ false).
        inl (some-counted (until_out green) is_walk_or_first (λ times age. out_some times age green) quiet-demanded (not-false _ b)))
        (λ (b : (eqb (counted site s inputs).gap 0 || eqb (counted site s inputs).maximum (times_now site s).maximum) ≡ false).
        inr (λ q. eqb-false _ _ (or-false-right (eqb (counted site s inputs).gap 0) _ b) (ap (λ (c : Counts). c.maximum) (sym counts-stay) ∙ q)))
        (and-false-cases _ _ (rw (ended-in site s inputs Running e, a) at h))

  -- ── Movements come nearer to be idle ──

  module _ (sound : Sound site) (v : ValidState site s) where
    -- to be over, if none begins and so much is left of the green
    pub overs-fall :
        (green green' leaving : ℕ) →
        green' ≤ green - 1 →
        (may_end site s inputs ≡ false → 1 ≤ green) →
        (k : ℕ) →
        k < 8 →
        begun site s inputs k ≡ false →
        overs site (stepped site s inputs) green' leaving k ≤ overs site s green leaving k - 1
    unfolding overs moved
    overs-fall green green' leaving less held k l b =
        rw (moved_on k l b)
        (past-falls (may_end site s inputs) (walk_times site.times k) (movement s k).age green green'
        (max leaving (walk_times site.times k).second)
        true
        less
        held
        (omega arith)
        (movement s k).stage
        (stage-reached site sound s.position k (movement s k) (v.movements k l)))

    -- out of walk, where none begins
    pub idles-fall :
        (k : ℕ) →
        k < 8 →
        is_walk (movement s k).stage ≡ false →
        begun site s inputs k ≡ false →
        idles site (stepped site s inputs) k ≤ idles site s k - 1
    unfolding idles moved
    idles-fall k l still b =
        rw (moved_on k l b)
        (idle-falls (may_end site s inputs) (walk_times site.times k) (movement s k).age (movement s k).stage still
        (stage-reached site sound s.position k (movement s k) (v.movements k l)))

    -- all of them while the phase goes on being left
    pub leaving-falls :
        (i : Interval) (e : s.position.interval ≡ i) (t : Bool) (h : ended site s inputs ≡ t) →
        is_leaving i ≡ true →
        (t && is_before_start i) ≡ false →
        is_running (if t then following i site.times (next_demanded site s inputs) s.position else staying s.position).interval ≡ false →
        (k : ℕ) →
        k < 8 →
        idles site (stepped site s inputs) k ≤ idles site s k - 1
    leaving-falls i e t h leaving none stops k l =
        idles-fall k l (out-of-walk (movement s k).stage ((v.movements k l).leaving (ap is_leaving e ∙ leaving)))
        (quiet-in i e t h none stops k)

  -- all-red goes on: its time has not passed, or a movement is in C2
  pub red-held :
      s.position.interval ≡ AllRed →
      ended site s inputs ≡ false →
      (s.position.age < (times_now site s).red)
      ⊎ ((k : ℕ) × (k < 8) × (1 ≤ idles site (stepped site s inputs) k))
  unfolding ends idles staying
  red-held e h =
      ⊎_elim
      (λ (b : leb (times_now site s).red s.position.age ≡ false). inl (leb-false _ _ b))
      (λ (b : not (some_movement is_second (moving site s inputs)) ≡ false).
      inr (some-counted until_idle is_second idle-some (quiet-in AllRed e false h refl (ap is_running e)) (not-false _ b)))
      (and-false-cases _ _ (rw (ended-in site s inputs AllRed e) at h))
