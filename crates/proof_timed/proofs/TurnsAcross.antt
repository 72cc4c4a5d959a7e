-- What is left by turns across a change of times. A change comes at a phase's start only: there the timers have run out and every movement is
-- idle, so that the way ahead is all that is left, and it goes by turns that are not below those of any times that rule. What runs keep holds too.
use Prim.Native.Nat.{ℕ, ◌<◌}
use mathlib.Core.Bool.{Bool, true, false}
use mathlib.Core.Logic.{inl, inr}
use mathlib.Core.Path.{◌≡◌, refl, sym, ap, subst}
use native.Mathlib.Omega.{arith}
use Rattle.rules.specs.declared.site.Site.{Site}
use Rattle.rules.specs.declared.site.Times.{Times}
use Rattle.rules.specs.declared.state.Interval.{Interval}
use Rattle.rules.specs.declared.state.Interval.TheVariants.{StartRed, LateStart, MinimumGreen, Running, EarlyCutOff, Yellow, AllRed}
use Rattle.rules.specs.declared.state.Movement.{Movement}
use Rattle.rules.specs.declared.state.State.{State}
use Rattle.rules.specs.Site.{phase_times, walk_times}
use Rattle.rules.specs.IntervalTable.{is_idle, is_before_start}
use Rattle.rules.specs.State.{fresh, movement}
use Rattle.rules.specs.SiteTimes.{under}
use Rattle.rules.specs.Kept.{fresh_kept}
use Rattle.rules.specs.Timed.{fresh_timed}
use Rattle.rules.specs.TimedLaws.{ready_core}
use Rattle.rules.specs.Runs.{Step}
use Rattle.laws.proofs.Booleans.{never_both}
use Rattle.rules.proofs.Settings.{phase-timed, start-timed}
use Rattle.proof_runs.proofs.Chains.{ValidLink}
use Rattle.proof_change.proofs.Starts.{starts-before}
use Rattle.proof_waits.proofs.Stages.{idles, overs, idle-none}
use Rattle.proof_waits.proofs.Entered.{Entered, before-entered, entered-after}
use Rattle.proof_waits.proofs.Clearing.{is_clearing, Clearing, clearing-fresh, clearing-after}
use Rattle.proof_waits.proofs.Turns.{TurnIn, TurnLeft}
use Rattle.proof_waits.proofs.PhaseTurns.{PhaseLeft}
use Rattle.proof_waits.proofs.ButtonTurns.{ButtonTurn}
use Rattle.proof_timed.proofs.Induction.{viewed, plain_from, TimedLink, ready-link}
use Rattle.proof_timed.proofs.Across.{ready-idle}

-- ── What is left ──

module _ (site : Site) (s : State) (ruling : Times) (step : Step) (link : TimedLink site s ruling step) (changed : step.changed ≡ true) where
  abbrev now : Site
  now = under site step.ruling

  before : is_before_start s.position.interval ≡ true
  before = starts-before (under site ruling) s (link.over changed)

  plain : ValidLink now (ready_core s) (viewed (ready_core s) step)
  plain = ready-link site s ruling step link changed

  none-busy : (k : ℕ) → k < 8 → idles now (ready_core s) k ≡ 0
  unfolding idles
  none-busy k l =
      idle-none (walk_times step.ruling k) (movement (ready_core s) k).age (movement (ready_core s) k).stage
      (ap (λ (m : Movement). is_idle m.stage) (ready-idle k l s))

  module _ (here beyond : ℕ → ℕ) (n : ℕ) where
    turn_in :
        (i : Interval) →
        is_before_start i ≡ true →
        TurnIn (under site ruling) here beyond i s.position s.counts.maximum (overs (under site ruling) s) (idles (under site ruling) s) n →
        TurnIn now here beyond i (ready_core s).position 0 (overs now (ready_core s)) (idles now (ready_core s)) n
    turn_in StartRed b h = omega (arith, start-timed now plain.sound)
    turn_in LateStart b h = absurd (never_both b refl)
    turn_in MinimumGreen b h = absurd (never_both b refl)
    turn_in Running b h = absurd (never_both b refl)
    turn_in EarlyCutOff b h = absurd (never_both b refl)
    turn_in Yellow b h = absurd (never_both b refl)
    turn_in AllRed b h = (
      omega (arith, h.0, (phase-timed now plain.sound s.position.phase plain.here.phase).red),
      λ k l. omega (arith, h.0, none-busy k l),
    )

    turn-again : TurnLeft (under site ruling) here beyond s n → TurnLeft now here beyond (ready_core s) n
    turn-again = turn_in s.position.interval before

  pub phase-again :
      (turn : ℕ → ℕ) (tail q n : ℕ) → PhaseLeft turn tail q (under site ruling) n s → PhaseLeft turn tail q now n (ready_core s)
  phase-again turn tail q n (inl h) = inl (turn-again _ _ n h)
  phase-again turn tail q n (inr h) = absurd (never_both before (ap is_before_start h.0))

  pub button-turn-again :
      (turn : ℕ → ℕ) (q m n : ℕ) → m < 8 → ButtonTurn turn q m (under site ruling) n s → ButtonTurn turn q m now n (ready_core s)
  button-turn-again turn q m n room h = (
    turn-again _ _ n h.0,
    λ busy. absurd (never_both (ap (λ (k : Movement). is_idle k.stage) (ready-idle m room s)) busy.1),
  )

-- ── What runs keep ──

-- late start and early cut-off green only if their time is above 0; C1 and C2 of a phase that is not being left in running only
pub record Kept (site : Site) (s : State) : Type 0 where
  pub entered : Entered site s
  pub clearing : Clearing s

pub clearing-ready : (s : State) → Clearing (ready_core s)
unfolding is_clearing
clearing-ready s k l off h = absurd (never_both h (ap (λ (m : Movement). is_clearing m.stage) (ready-idle k l s)))

pub kept_fresh : (site : Site) → Kept (under site (fresh_timed site).ruling) (fresh_timed site).core
unfolding fresh_timed fresh_kept fresh
kept_fresh site = record { entered = tt; clearing = clearing-fresh }

module _ (site : Site) (s : State) (ruling : Times) (step : Step) (link : TimedLink site s ruling step) (kept : Kept (under site ruling) s) where
  -- in the state that a step is plain from
  pub kept-plain : Kept (under site step.ruling) (plain_from step.changed s)
  kept-plain = by step.changed refl
    where
      by : (c : Bool) → step.changed ≡ c → Kept (under site step.ruling) (plain_from c s)
      by true e =
          record {
            entered = before-entered s.position.interval (phase_times step.ruling s.position.phase) (before site s ruling step link e);
            clearing = clearing-ready s;
          }
      by false e = subst (λ (r : Times). Kept (under site r) s) (sym (link.kept e)) kept

  pub kept-after : Kept (under site step.ruling) step.after
  kept-after =
      let from = plain_from step.changed s in
      let plain = link.plain in
      rw plain.taken.after (record {
        entered = entered-after (under site step.ruling) from step.inputs;
        clearing = clearing-after (under site step.ruling) plain.sound from step.inputs plain.here kept-plain.clearing;
      })
