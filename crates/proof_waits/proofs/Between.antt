-- One step before a start or while a phase is being left, for any measure of the way ahead: a phase starts, or one step less is left of the
-- timers and of each movement.
use Prim.Native.Nat.{ℕ, suc, ◌+◌, ◌-◌, ◌≤◌, ◌<◌}
use mathlib.Core.Bool.{Bool, true, false, ◌&&◌}
use mathlib.Core.Logic.{⊎_elim}
use mathlib.Core.Path.{◌≡◌, refl, sym, ap, subst, ◌∙◌}
use native.Mathlib.Omega.{arith}
use lib.Dec.{leb}
use borrow.Author.Tests.{leb-false}
use Rattle.rules.specs.declared.site.PhaseTimes.{PhaseTimes}
use Rattle.rules.specs.declared.site.Site.{Site}
use Rattle.rules.specs.declared.state.Interval.{Interval}
use Rattle.rules.specs.declared.state.Interval.TheVariants.{StartRed, LateStart, MinimumGreen, Running, EarlyCutOff, Yellow, AllRed}
use Rattle.rules.specs.declared.state.Position.{Position}
use Rattle.rules.specs.declared.state.State.{State}
use Rattle.std.specs.Prelude.{if◌then◌else◌, Option, Some}
use Rattle.rules.specs.IntervalTable.{phase_held, is_running, is_before_start, is_leaving}
use Rattle.rules.specs.State.{highest_age}
use Rattle.rules.specs.Demands.{next_demanded}
use Rattle.rules.specs.Movements.{older}
use Rattle.rules.specs.Interval.{ends, following, entering, starting, staying}
use Rattle.rules.specs.Step.{stepped}
use Rattle.rules.specs.Laws.{Sound}
use Rattle.proof_runs.proofs.ValidStates.{ValidState}
use Rattle.proof_runs.proofs.Steps.{times_now, another, counted, moving, ended, started}
use Rattle.proof_runs.proofs.Ends.{ended-in, next-in, started-in}
use Rattle.rules.proofs.Settings.{Timed, phase-timed, start-timed}
use Rattle.proof_waits.proofs.Stages.{idles}
use Rattle.proof_waits.proofs.Left.{Each, BetweenIn}
use Rattle.proof_waits.proofs.Falls.{timer-falls, timer-waits, each-falls}
use Rattle.proof_waits.proofs.Moves.{leaving-falls, red-held}

module _ (site : Site) (sound : Sound site) (s : State) (inputs : ℕ) (v : ValidState site s) (n : ℕ) where
  abbrev next : State
  next = stepped site s inputs

  abbrev settings : PhaseTimes
  settings = times_now site s

  times : Timed settings
  times = phase-timed site sound s.position.phase v.phase

  -- while it goes on being left no walk begins, so they come nearer to be idle, and the timers are given
  leaves-on :
      (i : Interval) (e : s.position.interval ≡ i) (t : Bool) (b : ended site s inputs ≡ t) →
      is_leaving i ≡ true →
      (t && is_before_start i) ≡ false →
      is_running (if t then following i site.times (next_demanded site s inputs) s.position else staying s.position).interval ≡ false →
      (timer timer' more : ℕ) →
      timer' + more ≤ n →
      Each timer more (idles site s) (suc n) →
      Each timer' more (idles site next) n
  leaves-on i e t b leaving none stops timer timer' more h =
      each-falls timer timer' more n (idles site s) (idles site next) h (omega arith)
      (leaving-falls site s inputs sound v i e t b leaving none stops)

  -- ── Timers ──

  -- if the timer alone decides and the interval stays, it has not run out and falls by one
  pub timer-stays :
      (i : Interval) (setting more more' : ℕ) →
      s.position.interval ≡ i →
      ended site s inputs ≡ false →
      ends i site.times.start settings s.position.age (another site s inputs) (moving site s inputs) (counted site s inputs)
      ≡ leb setting s.position.age →
      setting ≤ highest_age →
      more' ≤ more →
      setting - s.position.age + 1 + more ≤ suc n →
      setting - older s.position.age + 1 + more' ≤ n
  timer-stays i setting more more' e b same most =
      timer-falls setting s.position.age more more' n most
      (leb-false setting s.position.age (sym same ∙ sym (ended-in site s inputs i e) ∙ b))

  -- the same while the phase is being left, with the timers that come after it
  leaving-stays :
      (i : Interval) (setting later more : ℕ) →
      s.position.interval ≡ i →
      ended site s inputs ≡ false →
      ends i site.times.start settings s.position.age (another site s inputs) (moving site s inputs) (counted site s inputs)
      ≡ leb setting s.position.age →
      is_leaving i ≡ true →
      is_running i ≡ false →
      setting ≤ highest_age →
      Each (setting - s.position.age + 1 + later) (more) (idles site s) (suc n) →
      Each (setting - older s.position.age + 1 + later) (more) (idles site next) n
  unfolding staying
  leaving-stays i setting later more e b same leaving stops most h =
      let falls = timer-stays i setting (later + more) (later + more) e b same most (omega arith) (omega (arith, h.0)) in
      leaves-on i e false b leaving refl (ap is_running e ∙ stops) _ _ more (omega (arith, falls)) h

  -- ── By interval ──

  module _
      (ahead : ℕ → ℕ)
      (Out : Type 0)
      (begins : (t : ℕ) (previous : Option ℕ) → started site s inputs ≡ true → next.position ≡ starting site.times t previous → ahead t ≤ n → Out)
      (goes : (position : Position) → next.position ≡ position → BetweenIn site ahead position.interval position (idles site next) n → Out)
    where
      abbrev target : ℕ
      target = ahead (phase_held s.position.target)

      stays : (i : Interval) → s.position.interval ≡ i → ended site s inputs ≡ false → BetweenIn site ahead i (staying s.position) (idles site next) n → Out
      unfolding staying
      stays i e b h =
          goes (staying s.position) (next-in site s inputs i e false b)
          (subst (λ (j : Interval). BetweenIn site ahead j (staying s.position) (idles site next) n) (sym e) h)

      pub between_step :
          (i : Interval) (b : Bool) →
          s.position.interval ≡ i →
          ended site s inputs ≡ b →
          BetweenIn site ahead i s.position (idles site s) (suc n) →
          Out
      unfolding following entering staying ends
      between_step StartRed true e b h =
          begins s.position.phase s.position.previous (started-in site s inputs StartRed e true b)
          (next-in site s inputs StartRed e true b)
          (omega arith)
      between_step StartRed false e b h =
          stays StartRed e b (timer-stays StartRed site.times.start _ _ e b refl (start-timed site sound).1 (omega arith) h)
      between_step LateStart b e t h = absurd h
      between_step MinimumGreen b e t h = absurd h
      between_step Running b e t h = absurd h
      between_step EarlyCutOff true e b h =
          goes (entering Yellow s.position.target s.position) (next-in site s inputs EarlyCutOff e true b)
          (leaves-on EarlyCutOff e true b refl refl refl _ _ target (omega (arith, h.0, times.yellow)) h)
      between_step EarlyCutOff false e b h =
          stays EarlyCutOff e b
          (leaving-stays EarlyCutOff settings.early (settings.yellow + settings.red) target e b refl refl refl times.early h)
      between_step Yellow true e b h =
          goes (entering AllRed s.position.target s.position) (next-in site s inputs Yellow e true b)
          (leaves-on Yellow e true b refl refl refl _ _ target (omega (arith, h.0, times.red)) h)
      between_step Yellow false e b h =
          stays Yellow e b (leaving-stays Yellow settings.yellow settings.red target e b refl refl refl times.yellow.1 h)
      between_step AllRed true e b h =
          begins (phase_held s.position.target) (Some s.position.phase) (started-in site s inputs AllRed e true b)
          (next-in site s inputs AllRed e true b)
          (omega (arith, h.0))
      between_step AllRed false e b h =
          stays AllRed e b
          (leaves-on AllRed e false b refl refl (ap is_running e) _ _ target
          (⊎_elim
          (λ (w : s.position.age < settings.red).
          timer-falls settings.red s.position.age target target n times.red.1 w (omega arith) h.0)
          (λ (w : (k : ℕ) × (k < 8) × (1 ≤ idles site next k)).
          timer-waits settings.red s.position.age target n times.red.1
          (omega (
            arith,
            w.2,
            leaving-falls site s inputs sound v AllRed e false b refl refl (ap is_running e) w.0 w.1,
            h.1 w.0 w.1,
          ))
          h.0)
          (red-held site s inputs e b))
          h)
