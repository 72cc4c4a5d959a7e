-- How long a pedestrian movement still takes: the steps until it is out of walk and C1, and those until it is idle. While running has another
-- phase demanded, a walk that has lasted goes on no longer than is left of the maximum green, so part 2 of a step lowers the first count by
-- one; the second has no end to count in walk and falls by one out of it. The settings of the movement's phase bound both: a walk that rests
-- for the whole maximum green takes one step more than that, which W pays for, being one step at least.
use Prim.Native.Nat.{ℕ, ◌+◌, ◌-◌, ◌≤◌, ◌<◌, min, max}
use mathlib.Core.Bool.{Bool, true, false}
use mathlib.Core.Logic.{⊎_elim}
use mathlib.Core.Path.{◌≡◌, refl}
use native.Mathlib.Nat.{le_trans}
use native.Mathlib.Omega.{arith}
use Rattle.rules.specs.declared.site.Site.{Site}
use Rattle.rules.specs.declared.site.WalkTimes.{WalkTimes}
use Rattle.rules.specs.declared.state.Movement.{Movement}
use Rattle.rules.specs.declared.state.Position.{Position}
use Rattle.rules.specs.declared.state.State.{State}
use Rattle.rules.specs.declared.state.Stage.{Stage}
use Rattle.rules.specs.declared.state.Stage.TheVariants.{Idle, Walk, ClearanceOne, ClearanceTwo}
use Rattle.std.specs.Prelude.{if◌then◌else◌}
use Rattle.laws.specs.Folds.{greatest_of}
use Rattle.rules.specs.Site.{walk_times, crosses}
use Rattle.rules.specs.IntervalTable.{is_idle, is_walk, is_walk_or_first, is_second, is_leaving}
use Rattle.rules.specs.State.{highest_age, movement}
use Rattle.rules.specs.Movements.{older, lasting, advanced}
use Rattle.rules.specs.WaitBound.{longest_walk as walk_by, longest_clearance as clearance_by}
use Rattle.rules.specs.Laws.{Sound}
use Rattle.laws.proofs.Booleans.{decided, never_both}
use Rattle.laws.proofs.Sums.{greatest-at}
use Rattle.rules.proofs.IntervalTests.{idle-only}
use Rattle.proof_runs.proofs.ValidStates.{Aged, ValidMovement}
use Rattle.proof_runs.proofs.Steps.{times_now}
use Rattle.proof_runs.proofs.Lasting.{lasting-cases}
use Rattle.rules.proofs.Settings.{Reached, walk-reached}

-- a movement in neither walk nor C1 is not in walk
pub out-of-walk : (stage : Stage) → is_walk_or_first stage ≡ false → is_walk stage ≡ false
out-of-walk Idle h = refl
out-of-walk Walk h = h
out-of-walk ClearanceOne h = refl
out-of-walk ClearanceTwo h = refl

-- ── The counts ──

-- Steps until the movement is past C1 and what comes after it, if so much is left of the maximum green: after C1 comes `more`, and in C2
-- what is left of it is counted or not.
unfoldable pub until_past : (green more : ℕ) → Bool → Stage → WalkTimes → ℕ → ℕ
until_past green more second Idle times age = 0
until_past green more second Walk times age = max (times.walk - age) green + 1 + (times.first + more)
until_past green more second ClearanceOne times age = times.first - age + 1 + more
until_past green more second ClearanceTwo times age = if second then times.second - age + 1 + 0 else 0

-- steps until the movement is out of walk and C1
abbrev pub until_out : ℕ → Stage → WalkTimes → ℕ → ℕ
until_out green = until_past green 0 false

-- steps until its phase may start another one: it is idle, and after C1 the timers of leaving have run too
abbrev pub until_over : (green leaving : ℕ) → Stage → WalkTimes → ℕ → ℕ
until_over green leaving stage times = until_past green (max leaving times.second) true stage times

-- steps until the movement is idle; in walk, from its last step on
unfoldable pub until_idle : Stage → WalkTimes → ℕ → ℕ
until_idle Idle times age = 0
until_idle Walk times age = 1 + (times.first + times.second)
until_idle ClearanceOne times age = times.first - age + 1 + times.second
until_idle ClearanceTwo times age = times.second - age + 1 + 0

-- ── A step lowers them ──

-- a count of a stage that lasts for the setting, and of what follows it
lasting-falls :
    (count : Stage → ℕ → ℕ) (setting more : ℕ) (stage next : Stage) (age : ℕ) →
    Aged setting →
    ((a : ℕ) → count stage a ≡ setting - a + 1 + more) →
    count next 1 ≤ more →
    count (lasting true setting stage next age).stage (lasting true setting stage next age).age ≤ setting - age + 1 + more - 1
unfolding older
lasting-falls count setting more stage next age r now later =
    lasting-cases (λ (m : Movement). count m.stage m.age ≤ setting - age + 1 + more - 1) true setting stage next age
    (λ h. omega arith)
    (λ h. omega (arith, h refl, now (min (age + 1) highest_age)))

age-falls : (setting age : ℕ) → setting ≤ highest_age → setting - older age ≤ setting - age - 1
unfolding older
age-falls setting age r = omega arith

-- the greater of two counts that both fall
greater-falls : (a a' b b' : ℕ) → a' ≤ a - 1 → b' ≤ b - 1 → 1 ≤ max a b → max a' b' < max a b
greater-falls a a' b b' p q some = omega arith

module _ (may_end : Bool) (times : WalkTimes) (age : ℕ) where
  pub past-falls :
      (green green' more : ℕ) (second : Bool) →
      green' ≤ green - 1 →
      (may_end ≡ false → 1 ≤ green) →
      (if second then times.second else 0) ≤ more →
      (stage : Stage) →
      (is_idle stage ≡ false → Reached times) →
      until_past green' more second (advanced may_end stage times age).stage times (advanced may_end stage times age).age
      ≤ until_past green more second stage times age - 1
  unfolding until_past advanced
  past-falls green green' more second less held fits Idle r = omega arith
  past-falls green green' more second less held fits Walk r =
      lasting-cases (λ (m : Movement). until_past green' more second m.stage times m.age ≤ until_past green more second Walk times age - 1)
      may_end
      times.walk
      Walk
      ClearanceOne
      age
      (λ over. omega (arith, (r refl).first))
      (λ still.
      let some : 1 ≤ max (times.walk - age) green =
      ⊎_elim
      (λ (may : may_end ≡ true). omega (arith, still may))
      (λ (rests : may_end ≡ false). omega (arith, held rests))
      (decided may_end) in
      omega (arith, greater-falls _ _ green green' (age-falls times.walk age (r refl).walk.1) less some))
  past-falls green green' more true less held fits ClearanceOne r =
      lasting-falls (λ stage a. until_past green' more true stage times a) times.first more ClearanceOne ClearanceTwo age (r refl).first
      (λ a. refl)
      (omega (arith, fits, (r refl).second))
  past-falls green green' more false less held fits ClearanceOne r =
      lasting-falls (λ stage a. until_past green' more false stage times a) times.first more ClearanceOne ClearanceTwo age (r refl).first
      (λ a. refl)
      (omega arith)
  past-falls green green' more true less held fits ClearanceTwo r =
      lasting-falls (λ stage a. until_past green' more true stage times a) times.second 0 ClearanceTwo Idle age (r refl).second
      (λ a. refl)
      (omega arith)
  past-falls green green' more false less held fits ClearanceTwo r =
      lasting-cases (λ (m : Movement). until_past green' more false m.stage times m.age ≤ 0) true times.second ClearanceTwo Idle age
      (λ over. omega arith)
      (λ still. omega arith)

  pub idle-falls :
      (stage : Stage) →
      is_walk stage ≡ false →
      (is_idle stage ≡ false → Reached times) →
      until_idle (advanced may_end stage times age).stage times (advanced may_end stage times age).age ≤ until_idle stage times age - 1
  unfolding until_idle advanced
  idle-falls Idle h r = omega arith
  idle-falls Walk h r = absurd (never_both refl h)
  idle-falls ClearanceOne h r =
      lasting-falls (λ stage a. until_idle stage times a) times.first times.second ClearanceOne ClearanceTwo age
      (r refl).first
      (λ a. refl)
      (omega (arith, (r refl).second))
  idle-falls ClearanceTwo h r =
      lasting-falls (λ stage a. until_idle stage times a) times.second 0 ClearanceTwo Idle age (r refl).second (λ a. refl) (omega arith)

  -- a movement that is not in walk does not enter it in part 2
  pub walk-kept-out : (stage : Stage) → is_walk stage ≡ false → is_walk (advanced may_end stage times age).stage ≡ false
  unfolding advanced
  walk-kept-out Idle h = refl
  walk-kept-out Walk h = absurd (never_both refl h)
  walk-kept-out ClearanceOne h =
      lasting-cases (λ (m : Movement). is_walk m.stage ≡ false) true times.first ClearanceOne ClearanceTwo age (λ h. refl) (λ h. refl)
  walk-kept-out ClearanceTwo h =
      lasting-cases (λ (m : Movement). is_walk m.stage ≡ false) true times.second ClearanceTwo Idle age (λ h. refl) (λ h. refl)

  -- an idle movement stays so in part 2
  pub idle-kept : (stage : Stage) → is_idle stage ≡ true → is_idle (advanced may_end stage times age).stage ≡ true
  unfolding advanced
  idle-kept stage h = rw (idle-only stage h)

module _ (times : WalkTimes) (age : ℕ) where
  -- ── What a count tells of the stage ──

  pub out_some : (green : ℕ) (stage : Stage) → is_walk_or_first stage ≡ true → 1 ≤ until_out green stage times age
  unfolding until_past
  out_some green Idle h = absurd (never_both h refl)
  out_some green Walk h = omega arith
  out_some green ClearanceOne h = omega arith
  out_some green ClearanceTwo h = absurd (never_both h refl)

  pub idle-some : (stage : Stage) → is_second stage ≡ true → 1 ≤ until_idle stage times age
  unfolding until_idle
  idle-some Idle h = absurd (never_both h refl)
  idle-some Walk h = absurd (never_both h refl)
  idle-some ClearanceOne h = absurd (never_both h refl)
  idle-some ClearanceTwo h = omega arith

  pub over_none : (green leaving : ℕ) (stage : Stage) → is_idle stage ≡ true → until_over green leaving stage times age ≡ 0
  unfolding until_past
  over_none green leaving stage h = rw (idle-only stage h)

  pub idle-none : (stage : Stage) → is_idle stage ≡ true → until_idle stage times age ≡ 0
  unfolding until_idle
  idle-none stage h = rw (idle-only stage h)

  -- ── What bounds them ──

  pub past-limit :
      (green more : ℕ) (second : Bool) (stage : Stage) →
      1 ≤ age →
      Reached times →
      (if second then times.second else 0) ≤ more →
      until_past green more second stage times age ≤ max times.walk (green + 1) + times.first + more
  unfolding until_past
  past-limit green more second Idle a r fits = omega arith
  past-limit green more second Walk a r fits = omega (arith, r.walk)
  past-limit green more second ClearanceOne a r fits = omega (arith, r.first)
  past-limit green more true ClearanceTwo a r fits = omega (arith, r.second)
  past-limit green more false ClearanceTwo a r fits = omega arith

  -- out of walk and C1 what is left until it is over is what is left until it is idle
  pub over-idle :
      (green leaving : ℕ) (stage : Stage) → is_walk_or_first stage ≡ false → until_idle stage times age ≡ until_over green leaving stage times age
  unfolding until_past until_idle
  over-idle green leaving Idle h = refl
  over-idle green leaving Walk h = absurd (never_both refl h)
  over-idle green leaving ClearanceOne h = absurd (never_both refl h)
  over-idle green leaving ClearanceTwo h = refl

  -- in walk and C1 the timers of leaving come after it
  pub over-more :
      (green green' leaving : ℕ) (stage : Stage) → 1 ≤ until_out green stage times age → 1 + leaving ≤ until_over green' leaving stage times age
  unfolding until_past
  over-more green green' leaving Idle h = absurd (omega arith)
  over-more green green' leaving Walk h = omega arith
  over-more green green' leaving ClearanceOne h = omega arith
  over-more green green' leaving ClearanceTwo h = absurd (omega arith)

  clear-limit :
      (stage : Stage) →
      1 ≤ age →
      (is_idle stage ≡ false → Reached times) →
      is_walk_or_first stage ≡ false →
      until_idle stage times age ≤ times.second
  unfolding until_idle
  clear-limit Idle a r h = omega arith
  clear-limit Walk a r h = absurd (never_both refl h)
  clear-limit ClearanceOne a r h = absurd (never_both refl h)
  clear-limit ClearanceTwo a r h = omega (arith, (r refl).second)

-- ── The movements of a site in a valid state ──

-- A and C of a phase of the site
abbrev pub longest_walk : Site → ℕ → ℕ
longest_walk site = walk_by site.crossings site.times.walks site.size.movements

abbrev pub longest_clearance : Site → ℕ → ℕ
longest_clearance site = clearance_by site.crossings site.times.walks site.size.movements

-- they are the greatest among the phase's movements
module _ (site : Site) (p k : ℕ) (l : k < site.size.movements) (c : crosses site.crossings k p ≡ true) where
  greatest-of :
      (f : WalkTimes → ℕ) →
      f (walk_times site.times k)
      ≤ greatest_of (λ k. if crosses site.crossings k p then f (walk_times site.times k) else 0) site.size.movements
  greatest-of f =
      rw c at (greatest-at (λ (k : ℕ). if crosses site.crossings k p then f (walk_times site.times k) else 0) site.size.movements k l)

  pub longest-walk : (walk_times site.times k).walk + (walk_times site.times k).first ≤ longest_walk site p
  unfolding walk_by walk_times
  longest-walk = greatest-of (λ (times : WalkTimes). times.walk + times.first)

  pub longest-clearance : (walk_times site.times k).second ≤ longest_clearance site p
  unfolding clearance_by walk_times
  longest-clearance = greatest-of (λ (times : WalkTimes). times.second)

module _ (site : Site) (sound : Sound site) (position : Position) (k : ℕ) (m : Movement) (v : ValidMovement site position k m) where
  pub stage-reached : is_idle m.stage ≡ false → Reached (walk_times site.times k)
  stage-reached h = walk-reached site sound k (v.of_phase h).0

  unless-idle : (count limit : ℕ) → (is_idle m.stage ≡ true → count ≡ 0) → (is_idle m.stage ≡ false → count ≤ limit) → count ≤ limit
  unless-idle count limit none most =
      ⊎_elim (λ (h : is_idle m.stage ≡ true). omega (arith, none h)) most (decided (is_idle m.stage))

  clearance-limit : is_idle m.stage ≡ false → (walk_times site.times k).second ≤ longest_clearance site position.phase
  clearance-limit h = longest-clearance site position.phase k (v.of_phase h).0 (v.of_phase h).1

  pub clear-most :
      is_leaving position.interval ≡ true →
      until_idle m.stage (walk_times site.times k) m.age ≤ longest_clearance site position.phase
  clear-most leaving =
      unless-idle _ _ (idle-none (walk_times site.times k) m.age m.stage)
      (λ h.
      le_trans
      (clear-limit (walk_times site.times k) m.age m.stage v.age.0 stage-reached (v.leaving leaving))
      (clearance-limit h))

-- ── The movements of a state ──

-- what is left of the maximum green
abbrev pub green_left : Site → State → ℕ
green_left site s = (times_now site s).maximum - s.counts.maximum

unfoldable pub outs : Site → State → ℕ → ℕ
outs site s k = until_out (green_left site s) (movement s k).stage (walk_times site.times k) (movement s k).age

unfoldable pub idles : Site → State → ℕ → ℕ
idles site s k = until_idle (movement s k).stage (walk_times site.times k) (movement s k).age

unfoldable pub overs : Site → State → (green leaving : ℕ) → ℕ → ℕ
overs site s green leaving k = until_over green leaving (movement s k).stage (walk_times site.times k) (movement s k).age
