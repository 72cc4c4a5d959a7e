-- What is left of the wait for a demand of phase q, if what is left of the turn of the phase now is counted as one: of its green, and of each
-- movement until it is over. Then one step from a valid state: phase q starts, or one step less is left.
use Prim.Native.Nat.{ℕ, suc, ◌+◌, ◌-◌, ◌≤◌, ◌<◌, min, max}
use mathlib.Core.Bool.{Bool, true, false, not, ◌&&◌}
use mathlib.Core.Logic.{◌⊎◌, inl, inr, ⊎_elim}
use mathlib.Core.Path.{◌≡◌, refl, sym, ap, subst, ◌∙◌}
use native.Mathlib.Omega.{arith}
use lib.Dec.{leb, eqb}
use borrow.Author.Tests.{leb-false, eqb-false}
use Rattle.rules.specs.declared.site.PhaseTimes.{PhaseTimes}
use Rattle.rules.specs.declared.site.Site.{Site}
use Rattle.rules.specs.declared.state.Interval.{Interval}
use Rattle.rules.specs.declared.state.Interval.TheVariants.{StartRed, LateStart, MinimumGreen, Running, EarlyCutOff, Yellow, AllRed}
use Rattle.rules.specs.declared.state.Position.{Position}
use Rattle.rules.specs.declared.state.State.{State}
use Rattle.std.specs.Prelude.{if◌then◌else◌, Option, None}
use Rattle.laws.specs.Folds.{greatest_of}
use Rattle.rules.specs.Site.{phase_times, walk_times, crosses}
use Rattle.rules.specs.IntervalTable.{phase_held, is_idle, is_green, is_running, is_before_start, is_leaving}
use Rattle.rules.specs.State.{highest_age, movement}
use Rattle.rules.specs.Demands.{next_demanded}
use Rattle.rules.specs.Movements.{older}
use Rattle.rules.specs.Interval.{ends, following, entering, starting, staying}
use Rattle.rules.specs.Step.{stepped}
use Rattle.rules.specs.Waits.{leaving_of, green_of, walk_ending, ending, turn_of}
use Rattle.rules.specs.Laws.{Sound}
use Rattle.laws.proofs.Booleans.{decided}
use Rattle.laws.proofs.Sums.{greatest-at}
use Rattle.laws.proofs.Indices.{same-or-apart}
use Rattle.rules.proofs.Settings.{Timed, phase-timed}
use Rattle.proof_runs.proofs.ValidStates.{ValidState}
use Rattle.proof_runs.proofs.Steps.{times_now, another, counted, moving, may_end, ended, now, started, begun}
use Rattle.proof_runs.proofs.Ends.{by-early, ended-in, next-in, started-in, running-ends}
use Rattle.proof_waits.proofs.Stages.{outs, idles, overs, green_left, over_none, past-limit, over-idle, over-more, stage-reached}
use Rattle.proof_waits.proofs.Left.{Each, BetweenIn}
use Rattle.proof_waits.proofs.Falls.{timer-falls, each-falls}
use Rattle.proof_waits.proofs.Moves.{quiet, quiet-in, rests, maximum-rises, running-held, overs-fall}
use Rattle.proof_waits.proofs.Between.{between_step}
use Rattle.proof_waits.proofs.Progress.{Starts}

-- ── What is left ──

-- In the green of a phase, `to` steps before running and with `hold` of its maximum green left: the timers, and each movement.
abbrev pub GreenLeft : (to hold leaving more : ℕ) → (over : ℕ → ℕ → ℕ → ℕ) → ℕ → Type 0
GreenLeft to hold leaving more over n = Each (to + max 1 hold + leaving) more (over (to + hold) leaving) n

module _ (site : Site) (ahead onward : ℕ → ℕ) where
  abbrev settings_of : Position → PhaseTimes
  settings_of position = phase_times site.times position.phase

  -- In a position with such a maximum count, and with the steps until each movement is over, and until it is idle.
  abbrev pub TurnIn : Interval → Position → (count : ℕ) → (over : ℕ → ℕ → ℕ → ℕ) → (idle : ℕ → ℕ) → ℕ → Type 0
  TurnIn StartRed position count over idle n = BetweenIn site ahead StartRed position idle n
  TurnIn LateStart position count over idle n =
      GreenLeft ((settings_of position).late - position.age + 1 + (settings_of position).minimum) (settings_of position).maximum
      (leaving_of (settings_of position))
      (onward position.phase)
      over
      n
  TurnIn MinimumGreen position count over idle n =
      GreenLeft ((settings_of position).minimum - position.age + 1) (settings_of position).maximum
      (leaving_of (settings_of position))
      (onward position.phase)
      over
      n
  TurnIn Running position count over idle n =
      GreenLeft 0 ((settings_of position).maximum - count) (leaving_of (settings_of position)) (onward position.phase) over n
  TurnIn EarlyCutOff position count over idle n = BetweenIn site ahead EarlyCutOff position idle n
  TurnIn Yellow position count over idle n = BetweenIn site ahead Yellow position idle n
  TurnIn AllRed position count over idle n = BetweenIn site ahead AllRed position idle n

  -- in a state
  abbrev pub TurnLeft : State → ℕ → Type 0
  TurnLeft s n = TurnIn s.position.interval s.position s.counts.maximum (overs site s) (idles site s) n

  between-turn :
      (i : Interval) (position : Position) (count : ℕ) (over : ℕ → ℕ → ℕ → ℕ) (idle : ℕ → ℕ) (n : ℕ) →
      BetweenIn site ahead i position idle n →
      TurnIn i position count over idle n
  between-turn StartRed position count over idle n h = h
  between-turn LateStart position count over idle n h = absurd h
  between-turn MinimumGreen position count over idle n h = absurd h
  between-turn Running position count over idle n h = absurd h
  between-turn EarlyCutOff position count over idle n h = h
  between-turn Yellow position count over idle n h = h
  between-turn AllRed position count over idle n h = h

  some_left : (i : Interval) (position : Position) (count : ℕ) (over : ℕ → ℕ → ℕ → ℕ) (idle : ℕ → ℕ) → TurnIn i position count over idle 0 → ⊥
  some_left StartRed position count over idle h = omega arith
  some_left LateStart position count over idle h = omega (arith, h.0)
  some_left MinimumGreen position count over idle h = omega (arith, h.0)
  some_left Running position count over idle h = omega (arith, h.0)
  some_left EarlyCutOff position count over idle h = omega (arith, h.0)
  some_left Yellow position count over idle h = omega (arith, h.0)
  some_left AllRed position count over idle h = omega (arith, h.0)

  -- something is left
  pub turn-never : (s : State) → TurnLeft s 0 → ⊥
  turn-never s = some_left s.position.interval s.position s.counts.maximum (overs site s) (idles site s)

-- ── The turn of a phase bounds it ──

pub turn-timers : (site : Site) (p : ℕ) → green_of (phase_times site.times p) + leaving_of (phase_times site.times p) ≤ turn_of site p
unfolding turn_of ending
turn-timers site p = omega arith

pub ending-walk :
    (site : Site) (p k : ℕ) (such : ℕ → Bool) (z b : ℕ) →
    k < site.size.movements →
    crosses site.crossings k p ≡ true →
    such k ≡ true →
    walk_ending (leaving_of (phase_times site.times p)) (walk_times site.times k) z b ≤ ending site p such z b
unfolding ending
ending-walk site p k such z b l c t =
    let leaving = leaving_of (phase_times site.times p) in
    let each : ℕ → ℕ = λ k. if crosses site.crossings k p && such k then walk_ending leaving (walk_times site.times k) z b else 0 in
    let here : walk_ending leaving (walk_times site.times k) z b ≤ greatest_of each site.size.movements =
    rw (c, t) at (greatest-at each site.size.movements k l) in
    omega (arith, here)

turn-walk :
    (site : Site) (p k : ℕ) →
    k < site.size.movements →
    crosses site.crossings k p ≡ true →
    walk_ending (leaving_of (phase_times site.times p)) (walk_times site.times k) (green_of (phase_times site.times p)) 0 ≤ turn_of site p
unfolding turn_of
turn-walk site p k l c = ending-walk site p k (λ k. true) (green_of (phase_times site.times p)) 0 l c refl

-- each movement of a valid state is over within the turn, and what the green is longer
pub overs-most :
    (site : Site) →
    Sound site →
    (s : State) →
    ValidState site s →
    (green k : ℕ) →
    k < 8 →
    overs site s green (leaving_of (times_now site s)) k ≤ turn_of site s.position.phase + (green - green_of (times_now site s))
unfolding overs walk_ending
overs-most site sound s v green k l =
    let m = movement s k in
    let times = walk_times site.times k in
    let leaving = leaving_of (times_now site s) in
    ⊎_elim
    (λ (h : is_idle m.stage ≡ true). omega (arith, over_none times m.age green leaving m.stage h))
    (λ (h : is_idle m.stage ≡ false).
    let of = (v.movements k l).of_phase h in
    omega (
      arith,
      past-limit times m.age green (max leaving times.second) true m.stage (v.movements k l).age.0
          (stage-reached site sound s.position k m (v.movements k l) h)
          (omega arith),
      turn-walk site s.position.phase k of.0 of.1,
    ))
    (decided (is_idle m.stage))

-- ── One step ──

-- What a demand of phase q gives in a step.
pub record Demanding (site : Site) (ahead onward : ℕ → ℕ) (q : ℕ) (s : State) (inputs : ℕ) : Type 0 where
  -- the way from another phase leads through its turn
  pub apart : (t : ℕ) → (t ≡ q → ⊥) → turn_of site t + onward t ≤ ahead t
  -- the next demanded phase lies no further than what comes after this one
  pub found : another site s inputs ≡ true → ahead (phase_held (next_demanded site s inputs)) ≤ onward s.position.phase
  -- running has another phase demanded, and no walk begins in it
  pub held : s.position.interval ≡ Running → another site s inputs ≡ true
  pub calm : is_green s.position.interval ≡ true → (is_running (now site s inputs).interval && not (another site s inputs)) ≡ false

module _
    (site : Site)
    (sound : Sound site)
    (ahead onward : ℕ → ℕ)
    (q : ℕ)
    (s : State)
    (inputs : ℕ)
    (v : ValidState site s)
    (v' : ValidState site (stepped site s inputs))
    (stand : Demanding site ahead onward q s inputs)
    (n : ℕ)
  where
    abbrev next : State
    next = stepped site s inputs

    abbrev Outcome : Type 0
    Outcome = Starts site ahead q s inputs n ⊎ TurnLeft site ahead onward next n

    -- what is left in the next state, said of a position
    abbrev TurnAt : Interval → Position → Type 0
    TurnAt i position = TurnIn site ahead onward i position next.counts.maximum (overs site next) (idles site next) n

    abbrev settings : PhaseTimes
    settings = times_now site s

    abbrev leaving : ℕ
    leaving = leaving_of settings

    abbrev more : ℕ
    more = onward s.position.phase

    times : Timed settings
    times = phase-timed site sound s.position.phase v.phase

    -- ── The ways on ──

    becomes : (position : Position) → next.position ≡ position → TurnAt position.interval position → TurnLeft site ahead onward next n
    becomes position e h = subst (λ (p : Position). TurnAt p.interval p) (sym e) h

    stays : (i : Interval) → s.position.interval ≡ i → ended site s inputs ≡ false → TurnAt i (staying s.position) → Outcome
    unfolding staying
    stays i e b h =
        inr (becomes (staying s.position) (next-in site s inputs i e false b)
        (subst (λ (j : Interval). TurnAt j (staying s.position)) (sym e) h))

    enters :
        (i : Interval) (target : Option ℕ) →
        next.position ≡ entering i target s.position →
        TurnAt i (entering i target s.position) →
        Outcome
    unfolding entering
    enters i target e h = inr (becomes (entering i target s.position) e h)

    -- another phase than q starts
    starts-turn :
        (t : ℕ) (previous : Option ℕ) →
        next.position ≡ starting site.times t previous →
        (t ≡ q → ⊥) →
        ahead t ≤ n →
        TurnAt (starting site.times t previous).interval (starting site.times t previous)
    unfolding starting
    starts-turn t previous e other h = step (eqb (phase_times site.times t).late 0) refl
      where
        phase : next.position.phase ≡ t
        phase = ap (λ (p : Position). p.phase) e

        sized : Timed (phase_times site.times t)
        sized = phase-timed site sound t (subst (λ (p : ℕ). p < site.size.phases) phase v'.phase)

        most : (green k : ℕ) → k < 8 → overs site next green (leaving_of (phase_times site.times t)) k ≤ turn_of site t + (green - green_of (phase_times site.times t))
        most green k l =
            subst
            (λ (p : ℕ).
            overs site next green (leaving_of (phase_times site.times p)) k ≤ turn_of site p + (green - green_of (phase_times site.times p)))
            phase
            (overs-most site sound next v' green k l)

        step :
            (b : Bool) →
            eqb (phase_times site.times t).late 0 ≡ b →
            TurnAt (if b then MinimumGreen else LateStart) (starting site.times t previous)
        step true e = (
          omega (arith, turn-timers site t, stand.apart t other, sized.minimum, sized.maximum),
          λ k l. omega (arith, stand.apart t other, most ((phase_times site.times t).minimum - 1 + 1 + (phase_times site.times t).maximum) k l, sized.minimum),
        )
        step false e = (
          omega (arith, turn-timers site t, stand.apart t other, sized.maximum, eqb-false (phase_times site.times t).late 0 e),
          λ k l. omega (arith, stand.apart t other, most ((phase_times site.times t).late - 1 + 1 + (phase_times site.times t).minimum + (phase_times site.times t).maximum) k l, eqb-false (phase_times site.times t).late 0 e),
        )

    begins :
        (t : ℕ) (previous : Option ℕ) →
        started site s inputs ≡ true →
        next.position ≡ starting site.times t previous →
        ahead t ≤ n →
        Outcome
    begins t previous b e h =
        ⊎_elim
        (λ (same : t ≡ q).
        inl (record {
          previous = previous;
          starts = b;
          position = e ∙ ap (λ (p : ℕ). starting site.times p previous) same;
          near = subst (λ (p : ℕ). ahead p ≤ n) same h;
        }))
        (λ (other : t ≡ q → ⊥). inr (becomes (starting site.times t previous) e (starts-turn t previous e other h)))
        (same-or-apart t q)

    -- ── The green of a phase ──

    green-goes :
        (to to' hold hold' : ℕ) →
        ((k : ℕ) → begun site s inputs k ≡ false) →
        to' + hold' ≤ to + hold - 1 →
        (may_end site s inputs ≡ false → 1 ≤ to + hold) →
        to' + max 1 hold' + leaving + more ≤ n →
        GreenLeft to hold leaving more (overs site s) (suc n) →
        GreenLeft to' hold' leaving more (overs site next) n
    green-goes to to' hold hold' none less rest timer h =
        each-falls _ _ more n (overs site s (to + hold) leaving) (overs site next (to' + hold') leaving) timer (omega arith)
        (λ k l. overs-fall site s inputs sound v (to + hold) (to' + hold') leaving less rest k l (none k))
        h

    none-begins : (i : Interval) → s.position.interval ≡ i → is_green i ≡ true → is_before_start i ≡ false → (k : ℕ) → begun site s inputs k ≡ false
    none-begins i e green before =
        quiet site s inputs (started-off (ended site s inputs) refl) (stand.calm (ap is_green e ∙ green))
      where
        started-off : (t : Bool) → ended site s inputs ≡ t → started site s inputs ≡ false
        started-off true h = started-in site s inputs i e true h ∙ before
        started-off false h = started-in site s inputs i e false h

    -- running
    module _ (e : s.position.interval ≡ Running) where
      rested : may_end site s inputs ≡ false → 1 ≤ green_left site s
      rested h = omega (arith, v.maximum, rests settings s.counts (rw (stand.held e, e) at h))

      none_in : (k : ℕ) → begun site s inputs k ≡ false
      none_in = none-begins Running e refl refl

      -- it ends
      leaves :
          (i : Interval) (target : Option ℕ) →
          is_leaving i ≡ true →
          next.position ≡ entering i target s.position →
          ahead (phase_held target) ≤ more →
          GreenLeft 0 (green_left site s) leaving more (overs site s) (suc n) →
          (timer : ℕ) →
          timer ≤ leaving →
          Each timer (ahead (phase_held target)) (idles site next) n
      unfolding entering idles overs
      leaves i target left entered near h timer most = (
        omega (arith, h.0),
        λ k l.
            let out = (v'.movements k l).leaving (ap (λ (p : Position). is_leaving p.interval) entered ∙ left) in
            omega (
              arith,
              over-idle (walk_times site.times k) (movement next k).age (green_left site s - 1) leaving (movement next k).stage out,
              overs-fall site s inputs sound v (0 + green_left site s) (green_left site s - 1) leaving (omega arith) (λ r. omega (arith, rested r)) k l (none_in k),
              h.0,
              h.1 k l,
            ),
      )

      -- it goes on
      stays_on :
          ended site s inputs ≡ false →
          GreenLeft 0 (green_left site s) leaving more (overs site s) (suc n) →
          GreenLeft 0 (settings.maximum - next.counts.maximum) leaving more (overs site next) n
      unfolding outs overs
      stays_on b h =
          let rises = maximum-rises site s inputs e (stand.held e) b in
          let hold' = settings.maximum - next.counts.maximum in
          let falls : (k : ℕ) → k < 8 → overs site next (0 + hold') leaving k ≤ overs site s (0 + green_left site s) leaving k - 1 =
          λ k l.
          overs-fall site s inputs sound v (0 + green_left site s) (0 + hold') leaving (omega (arith, rises)) (λ r. omega (arith, rested r)) k l (none_in k) in
          let here : 1 + leaving + more ≤ n =
          ⊎_elim
          (λ (w : (k : ℕ) × (k < 8) × (1 ≤ outs site next k)).
          let k = w.0 in
          omega (
            arith,
            over-more (walk_times site.times k) (movement next k).age (green_left site next) (0 + hold') leaving (movement next k).stage w.2,
            falls k w.1,
            h.1 k w.1,
          ))
          (λ (w : next.counts.maximum ≡ settings.maximum → ⊥). reached w rises v.maximum h.0)
          (running-held site s inputs e (stand.held e) b) in
          green-goes 0 0 (green_left site s) hold' none_in (omega (arith, rises)) (λ r. omega (arith, rested r))
          (omega (arith, rises, here, h.0))
          h
        where
          reached :
              (next.counts.maximum ≡ settings.maximum → ⊥) →
              next.counts.maximum ≡ min (s.counts.maximum + 1) settings.maximum →
              s.counts.maximum ≤ settings.maximum →
              0 + max 1 (green_left site s) + leaving + more ≤ suc n →
              1 + leaving + more ≤ n
          reached w e m t = omega arith

    -- ── By interval ──

    between :
        (i : Interval) (b : Bool) →
        s.position.interval ≡ i →
        ended site s inputs ≡ b →
        BetweenIn site ahead i s.position (idles site s) (suc n) →
        Outcome
    between =
        between_step site sound s inputs v n ahead Outcome begins
        (λ position e h.
        inr (becomes position e
        (between-turn site ahead onward position.interval position next.counts.maximum (overs site next) (idles site next) n h)))

    in-yellow : settings.early ≡ 0 → settings.yellow - 1 + 1 + settings.red ≤ leaving
    in-yellow skipped = omega (arith, times.yellow)

    in-early : (settings.early ≡ 0 → ⊥) → settings.early - 1 + 1 + (settings.yellow + settings.red) ≤ leaving
    in-early some = omega arith

    -- a timer before running has not run out
    to-falls :
        (i : Interval) (setting later : ℕ) →
        s.position.interval ≡ i →
        ended site s inputs ≡ false →
        ends i site.times.start settings s.position.age (another site s inputs) (moving site s inputs) (counted site s inputs)
        ≡ leb setting s.position.age →
        setting ≤ highest_age →
        setting - older s.position.age + 1 + later ≤ setting - s.position.age + 1 + later - 1
    to-falls i setting later e b same most =
        timer-falls setting s.position.age later later _ most
        (leb-false setting s.position.age (sym same ∙ sym (ended-in site s inputs i e) ∙ b))
        (omega arith)
        (omega arith)

    step :
        (i : Interval) (b : Bool) →
        s.position.interval ≡ i →
        ended site s inputs ≡ b →
        TurnIn site ahead onward i s.position s.counts.maximum (overs site s) (idles site s) (suc n) →
        Outcome
    unfolding following entering staying ends
    step StartRed b e h l = between StartRed b e h l
    step LateStart true e b h =
        enters MinimumGreen None (next-in site s inputs LateStart e true b)
        (green-goes _ _ settings.maximum settings.maximum (quiet-in site s inputs LateStart e true b refl refl)
        (omega (arith, times.minimum))
        (λ r. omega arith)
        (omega (arith, times.minimum, h.0))
        h)
    step LateStart false e b h =
        let falls = to-falls LateStart settings.late settings.minimum e b refl times.late in
        stays LateStart e b
        (green-goes _ _ settings.maximum settings.maximum (quiet-in site s inputs LateStart e false b refl (ap is_running e))
        (omega (arith, falls))
        (λ r. omega arith)
        (omega (arith, falls, h.0))
        h)
    step MinimumGreen true e b h =
        enters Running None (next-in site s inputs MinimumGreen e true b)
        (green-goes _ 0 settings.maximum _ (none-begins MinimumGreen e refl refl)
        (omega arith)
        (λ r. omega arith)
        (omega (arith, h.0))
        h)
    step MinimumGreen false e b h =
        let falls = to-falls MinimumGreen settings.minimum 0 e b refl times.minimum.1 in
        stays MinimumGreen e b
        (green-goes _ _ settings.maximum settings.maximum (none-begins MinimumGreen e refl refl)
        (omega (arith, falls))
        (λ r. omega arith)
        (omega (arith, falls, h.0))
        h)
    step Running true e b h =
        let target = next_demanded site s inputs in
        let near = stand.found (running-ends site s inputs e b) in
        by-early (λ (p : Position). next.position ≡ p → Outcome) site.times target s.position
        (λ skipped entered. enters Yellow target entered (leaves e Yellow target refl entered near h _ (in-yellow skipped)))
        (λ some entered. enters EarlyCutOff target entered (leaves e EarlyCutOff target refl entered near h _ (in-early some)))
        (next-in site s inputs Running e true b)
    step Running false e b h = stays Running e b (stays_on e b h)
    step EarlyCutOff b e h l = between EarlyCutOff b e h l
    step Yellow b e h l = between Yellow b e h l
    step AllRed b e h l = between AllRed b e h l

    pub turn-progress : TurnLeft site ahead onward s (suc n) → Outcome
    turn-progress h = step s.position.interval (ended site s inputs) refl refl h
