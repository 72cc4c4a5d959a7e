-- A button demand of movement m of phase q, by turns. While m is in C1 or C2 in running of q, walks of the other movements may still begin, until
-- m is idle at the latest; the maximum count rises all the while.
use Prim.Native.Nat.{ℕ, zero, suc, ◌+◌, ◌-◌, ◌≤◌, ◌<◌, min, max}
use mathlib.Core.Bool.{Bool, true, false, not, ◌&&◌}
use mathlib.Core.Logic.{⊎_elim}
use mathlib.Core.Path.{◌≡◌, refl, sym, ap, subst, ◌∙◌}
use native.Mathlib.Omega.{arith}
use lib.Dec.{eqb}
use Rattle.rules.specs.declared.site.Site.{Site}
use Rattle.rules.specs.declared.site.WalkTimes.{WalkTimes}
use Rattle.rules.specs.declared.state.Interval.{Interval}
use Rattle.rules.specs.declared.state.Interval.TheVariants.{StartRed, LateStart, MinimumGreen, Running, EarlyCutOff, Yellow, AllRed}
use Rattle.rules.specs.declared.state.Position.{Position}
use Rattle.rules.specs.declared.state.Stage.{Stage}
use Rattle.rules.specs.declared.state.Stage.TheVariants.{Idle, Walk, ClearanceOne, ClearanceTwo}
use Rattle.rules.specs.declared.state.State.{State}
use Rattle.std.specs.Prelude.{if◌then◌else◌, Option}
use Rattle.rules.specs.Site.{phase_times, walk_times, crosses}
use Rattle.rules.specs.IntervalTable.{is_idle, is_walk, is_green, is_running, is_leaving, phase_held}
use Rattle.rules.specs.State.{movement}
use Rattle.rules.specs.Demands.{next_demanded}
use Rattle.rules.specs.Interval.{ends, following, entering, starting, staying}
use Rattle.rules.specs.Step.{stepped}
use Rattle.rules.specs.Waits.{leaving_of, turn_of}
use Rattle.rules.specs.Laws.{Sound}
use Rattle.rules.specs.DemandThree.{in_walk}
use Rattle.laws.proofs.Booleans.{and_both, or_right, and-false-left, and-false-right, decided, never_both, not-false-true}
use Rattle.laws.proofs.Indices.{same-or-apart}
use Rattle.rules.proofs.Settings.{walk-reached}
use Rattle.proof_runs.proofs.ValidStates.{ValidState}
use Rattle.proof_runs.proofs.Steps.{times_now, another, may_end, ended, now, started, moved, asked_now, begun, position-of}
use Rattle.proof_runs.proofs.Demanded.{button-demands}
use Rattle.proof_runs.proofs.Ends.{by-early, by_end, ended-in, now-in, next-in, running-ends}
use Rattle.proof_waits.proofs.Stages.{until_idle, until_past, until_over, idles, overs, green_left, over_none, past-limit, idle-kept, stage-reached}
use Rattle.proof_waits.proofs.Moves.{moved_on, idles-fall}
use Rattle.proof_waits.proofs.Paths.{ring_in, ahead, onward, ahead_apart, demanded-another, next-near}
use Rattle.proof_waits.proofs.Progress.{Starts}
use Rattle.proof_waits.proofs.Turns.{TurnIn, TurnLeft, turn-never, Demanding, turn-progress}
use Rattle.proof_waits.proofs.Clearing.{is_clearing, Clearing, rises-clearing}
use Rattle.proof_waits.proofs.Pressed.{button-room, still_kept, not-started}

-- ── Intervals and stages ──

green-stays : (i : Interval) → is_green i ≡ true → is_leaving i ≡ false
green-stays StartRed h = refl
green-stays LateStart h = refl
green-stays MinimumGreen h = refl
green-stays Running h = refl
green-stays EarlyCutOff h = absurd (never_both h refl)
green-stays Yellow h = absurd (never_both h refl)
green-stays AllRed h = absurd (never_both h refl)

start-stops : (b : Bool) → is_running (if b then MinimumGreen else LateStart) ≡ false
start-stops true = refl
start-stops false = refl

-- running comes after minimum green only
leaving-stops : (site : Site) (i : Interval) (next : Option ℕ) (position : Position) → is_leaving i ≡ true → is_running (following i site.times next position).interval ≡ false
unfolding following entering starting
leaving-stops site StartRed next position h = absurd (never_both h refl)
leaving-stops site LateStart next position h = absurd (never_both h refl)
leaving-stops site MinimumGreen next position h = absurd (never_both h refl)
leaving-stops site Running next position h = absurd (never_both h refl)
leaving-stops site EarlyCutOff next position h = refl
leaving-stops site Yellow next position h = refl
leaving-stops site AllRed next position h = start-stops (eqb (phase_times site.times (phase_held position.target)).late 0)

leaving-off : (i : Interval) → is_leaving i ≡ true → is_running i ≡ false
leaving-off StartRed h = refl
leaving-off LateStart h = refl
leaving-off MinimumGreen h = refl
leaving-off Running h = absurd (never_both h refl)
leaving-off EarlyCutOff h = refl
leaving-off Yellow h = refl
leaving-off AllRed h = refl

-- in minimum green and running the phase stays
green-phase : (site : Site) (i : Interval) (next : Option ℕ) (position : Position) → is_green i ≡ true → (following i site.times next position).phase ≡ position.phase
unfolding following entering
green-phase site StartRed next position h = absurd (never_both h refl)
green-phase site LateStart next position h = refl
green-phase site MinimumGreen next position h = refl
green-phase site Running next position h =
    by-early (λ (p : Position). p.phase ≡ position.phase) site.times next position (λ skipped. refl) (λ some. refl)
green-phase site EarlyCutOff next position h = refl
green-phase site Yellow next position h = refl
green-phase site AllRed next position h = absurd (never_both h refl)

pub busy-clearing : (stage : Stage) → is_walk stage ≡ false → is_idle stage ≡ false → is_clearing stage ≡ true
unfolding is_clearing
busy-clearing Idle w i = absurd (never_both refl i)
busy-clearing Walk w i = absurd (never_both refl w)
busy-clearing ClearanceOne w i = refl
busy-clearing ClearanceTwo w i = refl

busy-some : (stage : Stage) (times : WalkTimes) (age : ℕ) → is_idle stage ≡ false → 1 ≤ until_idle stage times age
unfolding until_idle
busy-some Idle times age h = absurd (never_both refl h)
busy-some Walk times age h = omega arith
busy-some ClearanceOne times age h = omega arith
busy-some ClearanceTwo times age h = omega arith

over-own :
    (green leaving : ℕ) (stage : Stage) (times : WalkTimes) (age : ℕ) →
    is_walk stage ≡ false →
    until_over green leaving stage times age ≤ until_idle stage times age + leaving
unfolding until_idle until_past
over-own green leaving Idle times age h = omega arith
over-own green leaving Walk times age h = absurd (never_both refl h)
over-own green leaving ClearanceOne times age h = omega arith
over-own green leaving ClearanceTwo times age h = omega arith

hold-falls : (maximum count count' : ℕ) → count' ≡ min (count + 1) maximum → maximum - count' ≤ maximum - count - 1
hold-falls maximum count count' e = omega arith

term-falls :
    (back back' hold hold' walk first last more n : ℕ) →
    back' ≤ back - 1 →
    1 ≤ back' →
    hold' ≤ hold - 1 →
    1 ≤ walk →
    max (back - 1 + walk) (hold + 1) + first + last + more ≤ suc n →
    max (back' - 1 + walk) (hold' + 1) + first + last + more ≤ n
term-falls back back' hold hold' walk first last more n fewer some less one h = omega arith

-- ── What is left ──

-- in running of a phase whose movement m takes `back` steps to be idle, with `hold` of the maximum green left and `more` after the phase
abbrev pub OwnClearing : Site → (m more phase back hold n : ℕ) → Type 0
OwnClearing site m more phase back hold n =
    let leaving = leaving_of (phase_times site.times phase) in
    (max back hold + leaving + more ≤ n)
    × ((k : ℕ) →
    k < site.size.movements →
    (k ≡ m → ⊥) →
    crosses site.crossings k phase ≡ true →
    let walk = walk_times site.times k in
    max (back - 1 + walk.walk) (hold + 1) + walk.first + max leaving walk.second + more ≤ n)

-- the phase runs, and movement m is not idle
abbrev pub Busy : ℕ → State → Type 0
Busy m s = (is_running s.position.interval ≡ true) × (is_idle (movement s m).stage ≡ false)

-- of a demand of movement m of phase q
abbrev pub ButtonTurn : (turn : ℕ → ℕ) → (q m : ℕ) → Site → ℕ → State → Type 0
ButtonTurn turn q m site n s =
    TurnLeft site (ahead turn (ring_in site) q 0) (onward turn (ring_in site) q 0) s n
    × (Busy m s → OwnClearing site m (onward turn (ring_in site) q 0 s.position.phase) s.position.phase (idles site s m) (green_left site s) n)

pub button-turn-never : (turn : ℕ → ℕ) (q m : ℕ) (site : Site) (s : State) → ButtonTurn turn q m site zero s → ⊥
button-turn-never turn q m site s h = turn-never site (ahead turn (ring_in site) q 0) (onward turn (ring_in site) q 0) s h.0

module _
    (site : Site)
    (sound : Sound site)
    (q m : ℕ)
    (below : q < site.size.phases)
    (exists : m < site.size.movements)
    (crossing : crosses site.crossings m q ≡ true)
    (turn : ℕ → ℕ)
    (whole : (p : ℕ) → turn_of site p ≤ turn p)
  where
    room : m < 8
    room = button-room site sound q m exists crossing

    abbrev here : ℕ → ℕ
    here = ahead turn (ring_in site) q 0

    abbrev beyond : ℕ → ℕ
    beyond = onward turn (ring_in site) q 0

    own_back : (s : State) → is_idle (movement s m).stage ≡ false → 1 ≤ idles site s m
    unfolding idles
    own_back s busy = busy-some (movement s m).stage (walk_times site.times m) (movement s m).age busy

    -- it is more than what is left of the turn
    pub own-green :
        (s : State) (n : ℕ) →
        ValidState site s →
        s.position.interval ≡ Running →
        is_walk (movement s m).stage ≡ false →
        is_idle (movement s m).stage ≡ false →
        OwnClearing site m (beyond s.position.phase) s.position.phase (idles site s m) (green_left site s) n →
        TurnLeft site here beyond s n
    unfolding idles overs
    own-green s n v e walk busy h =
        subst (λ (i : Interval). TurnIn site here beyond i s.position s.counts.maximum (overs site s) (idles site s) n) (sym e) (
          omega (arith, h.0, some),
          each,
        )
      where
        some : 1 ≤ until_idle (movement s m).stage (walk_times site.times m) (movement s m).age
        some = busy-some (movement s m).stage (walk_times site.times m) (movement s m).age busy

        other : (k : ℕ) → k < 8 → (k ≡ m → ⊥) → overs site s (0 + green_left site s) (leaving_of (times_now site s)) k + beyond s.position.phase ≤ n
        other k l ne =
            let times = walk_times site.times k in
            let age = (movement s k).age in
            let stage = (movement s k).stage in
            ⊎_elim
            (λ (i : is_idle stage ≡ true). omega (arith, over_none times age (0 + green_left site s) (leaving_of (times_now site s)) stage i, h.0))
            (λ (i : is_idle stage ≡ false).
            let of = (v.movements k l).of_phase i in
            omega (
              arith,
              h.1 k of.0 ne of.1,
              past-limit times age (0 + green_left site s) (max (leaving_of (times_now site s)) times.second) true stage (v.movements k l).age.0
                  (stage-reached site sound s.position k (movement s k) (v.movements k l) i)
                  (omega arith),
            ))
            (decided (is_idle stage))

        each : (k : ℕ) → k < 8 → overs site s (0 + green_left site s) (leaving_of (times_now site s)) k + beyond s.position.phase ≤ n
        each k l =
            ⊎_elim
            (λ (same : k ≡ m).
            subst (λ (j : ℕ). overs site s (0 + green_left site s) (leaving_of (times_now site s)) j + beyond s.position.phase ≤ n) (sym same)
            (omega (
              arith,
              h.0,
              over-own (0 + green_left site s) (leaving_of (times_now site s)) (movement s m).stage (walk_times site.times m) (movement s m).age walk,
            )))
            (other k l)
            (same-or-apart k m)

    -- ── A step in which the walk does not begin ──

    module _
        (s : State)
        (inputs : ℕ)
        (standing : asked_now site s inputs m ≡ true)
        (quiet : begun site s inputs m ≡ false)
        (still : is_walk (movement s m).stage ≡ false)
        (clear : Clearing s)
        (v : ValidState site s)
        (v' : ValidState site (stepped site s inputs))
      where
        abbrev next : State
        next = stepped site s inputs

        -- phase q does not run with the movement idle and no other phase demanded
        alone : (now site s inputs).phase ≡ q → is_running (now site s inputs).interval ≡ true → is_idle (moved site s inputs m).stage ≡ true → another site s inputs ≡ false → ⊥
        unfolding begun
        alone same running idle a =
            never_both
            (and_both (and_both standing (ap (crosses site.crossings m) same ∙ crossing))
            (or_right (started site s inputs) (and_both (and_both running (ap not a)) idle)))
            quiet

        demanding :
            (s.position.interval ≡ Running → another site s inputs ≡ true) →
            (is_green s.position.interval ≡ true → (is_running (now site s inputs).interval && not (another site s inputs)) ≡ false) →
            Demanding site here beyond q s inputs
        demanding held calm =
            let d = button-demands site s inputs m q room exists crossing standing in
            record {
              apart = λ t other. omega (arith, whole t, ahead_apart turn (ring_in site) q 0 t other);
              found = next-near site q sound below s inputs d turn 0 v.phase;
              held = held;
              calm = calm;
            }

        -- with another phase demanded
        demanding-another : another site s inputs ≡ true → Demanding site here beyond q s inputs
        demanding-another a = demanding (λ e. a) (λ green. and-false-right (is_running (now site s inputs).interval) (ap not a))

        -- with the movement idle after part 2
        module _ (idle : is_idle (moved site s inputs m).stage ≡ true) where
          phase-kept : is_green s.position.interval ≡ true → (now site s inputs).phase ≡ s.position.phase
          unfolding staying
          phase-kept green =
              by_end site s inputs (λ (p : Position). p.phase ≡ s.position.phase)
              (λ over. green-phase site s.position.interval (next_demanded site s inputs) s.position green)
              (λ b. refl)

          calm : is_green s.position.interval ≡ true → (is_running (now site s inputs).interval && not (another site s inputs)) ≡ false
          calm green =
              ⊎_elim
              (λ (same : s.position.phase ≡ q).
              ⊎_elim
              (λ (r : is_running (now site s inputs).interval ≡ true).
              and-false-right (is_running (now site s inputs).interval)
              (ap not (not-false-true (another site s inputs) (alone (phase-kept green ∙ same) r idle))))
              (λ (r : is_running (now site s inputs).interval ≡ false). and-false-left (not (another site s inputs)) r)
              (decided (is_running (now site s inputs).interval)))
              (λ (other : s.position.phase ≡ q → ⊥).
              and-false-right (is_running (now site s inputs).interval)
              (ap not
              (demanded-another site q sound below s inputs (button-demands site s inputs m q room exists crossing standing) other)))
              (same-or-apart s.position.phase q)

          held : s.position.interval ≡ Running → another site s inputs ≡ true
          unfolding ends staying
          held e =
              not-false-true (another site s inputs)
              (λ a.
              let b : ended site s inputs ≡ false = ended-in site s inputs Running e ∙ rw a in
              let running = ap (λ (p : Position). is_running p.interval) (now-in site s inputs Running e false b) ∙ ap is_running e in
              never_both (and_both running (ap not a)) (calm (ap is_green e)))

          demanding-idle : Demanding site here beyond q s inputs
          demanding-idle = demanding held calm

        -- ── What is left falls ──

        on : (n : ℕ) → Demanding site here beyond q s inputs → TurnLeft site here beyond s (suc n) → TurnLeft site here beyond next n
        unfolding starting
        on n stand h =
            ⊎_elim
            (λ (starts : Starts site here q s inputs n).
            absurd (not-started site sound q m exists crossing s inputs standing quiet starts.starts
            (ap (λ (p : Position). p.phase) (sym (position-of site s inputs) ∙ starts.position))))
            (λ (left : TurnLeft site here beyond next n). left)
            (turn-progress site sound here beyond q s inputs v v' stand n h)

        moved-next : movement next m ≡ moved site s inputs m
        moved-next = moved_on site s inputs m room quiet

        -- while it is in C1 or C2 and running goes on
        clearing-goes :
            (n : ℕ) →
            s.position.interval ≡ Running →
            ended site s inputs ≡ false →
            1 ≤ s.counts.maximum →
            is_idle (movement next m).stage ≡ false →
            OwnClearing site m (beyond s.position.phase) s.position.phase (idles site s m) (green_left site s) (suc n) →
            OwnClearing site m (beyond next.position.phase) next.position.phase (idles site next m) (green_left site next) n
        unfolding staying
        clearing-goes n e b some busy h =
            subst (λ (p : ℕ). OwnClearing site m (beyond p) p (idles site next m) ((phase_times site.times p).maximum - next.counts.maximum) n) (sym phase) (
              omega (arith, h.0, falls, less, back),
              λ k l ne c.
                  term-falls (idles site s m) (idles site next m) (green_left site s) ((times_now site s).maximum - next.counts.maximum)
                  (walk_times site.times k).walk
                  (walk_times site.times k).first
                  (max (leaving_of (times_now site s)) (walk_times site.times k).second)
                  (beyond s.position.phase)
                  n
                  falls
                  back
                  less
                  (walk-reached site sound k l).walk.0
                  (h.1 k l ne c),
            )
          where
            phase : next.position.phase ≡ s.position.phase
            phase = ap (λ (p : Position). p.phase) (next-in site s inputs Running e false b)

            falls : idles site next m ≤ idles site s m - 1
            falls = idles-fall site s inputs sound v m room still quiet

            less : (times_now site s).maximum - next.counts.maximum ≤ green_left site s - 1
            less =
                hold-falls (times_now site s).maximum s.counts.maximum next.counts.maximum
                (rises-clearing site sound s inputs v clear e b some)

            back : 1 ≤ idles site next m
            back = own_back next busy

        idle-after : is_idle (movement s m).stage ≡ true → is_idle (moved site s inputs m).stage ≡ true
        unfolding moved
        idle-after = idle-kept (may_end site s inputs) (walk_times site.times m) (movement s m).age (movement s m).stage

        leaving-next : is_leaving s.position.interval ≡ true → is_running next.position.interval ≡ false
        unfolding staying
        leaving-next left =
            rw (position-of site s inputs)
            (by_end site s inputs (λ (p : Position). is_running p.interval ≡ false)
            (λ over. leaving-stops site s.position.interval (next_demanded site s inputs) s.position left)
            (λ b. leaving-off s.position.interval left))

        running-left : s.position.interval ≡ Running → ended site s inputs ≡ true → is_running next.position.interval ≡ false
        unfolding following entering
        running-left e b =
            ap (λ (p : Position). is_running p.interval) (next-in site s inputs Running e true b)
            ∙ by-early (λ (p : Position). is_running p.interval ≡ false) site.times (next_demanded site s inputs) s.position
            (λ skipped. refl)
            (λ some. refl)

        still-next : is_walk (movement next m).stage ≡ false
        unfolding in_walk
        still-next = still_kept site sound q m exists crossing s inputs standing quiet still

        in-running :
            (n : ℕ) →
            ButtonTurn turn q m site (suc n) s →
            is_idle (movement s m).stage ≡ false →
            s.position.interval ≡ Running →
            1 ≤ s.counts.maximum →
            (b : Bool) →
            ended site s inputs ≡ b →
            ButtonTurn turn q m site n next
        unfolding staying
        in-running n h busy e some true b = (
          on n (demanding-another (running-ends site s inputs e b)) h.0,
          λ later. absurd (never_both later.0 (running-left e b)),
        )
        in-running n h busy e some false b =
            ⊎_elim
            (λ (idle : is_idle (movement next m).stage ≡ true). (
              on n (demanding-idle (rw moved-next at idle)) h.0,
              λ later. absurd (never_both idle later.1),
            ))
            (λ (goes : is_idle (movement next m).stage ≡ false).
            let left = clearing-goes n e b some goes (h.1 (ap is_running e, busy)) in (
              own-green next n v' (ap (λ (p : Position). p.interval) (next-in site s inputs Running e false b) ∙ e) still-next goes left,
              λ later. left,
            ))
            (decided (is_idle (movement next m).stage))

        pub button-falls : (n : ℕ) → ButtonTurn turn q m site (suc n) s → ButtonTurn turn q m site n next
        button-falls n h =
            ⊎_elim
            (λ (idle : is_idle (movement s m).stage ≡ true).
            let after = idle-after idle in
            (on n (demanding-idle after) h.0, λ busy. absurd (never_both (rw (← moved-next) at after) busy.1)))
            (λ (busy : is_idle (movement s m).stage ≡ false).
            ⊎_elim
            (λ (left : is_leaving s.position.interval ≡ true). (
              on n
                  (demanding (λ e. absurd (never_both left (ap is_leaving e)))
                  (λ green. absurd (never_both left (green-stays s.position.interval green))))
                  h.0,
              λ later. absurd (never_both later.0 (leaving-next left)),
            ))
            (λ (off : is_leaving s.position.interval ≡ false).
            let runs = clear m room off (busy-clearing (movement s m).stage still busy) in
            in-running n h busy runs.0 runs.1 (ended site s inputs) refl)
            (decided (is_leaving s.position.interval)))
            (decided (is_idle (movement s m).stage))
