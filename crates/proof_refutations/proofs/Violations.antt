-- How a computed run refutes a claim about every run, demand 3, that no phase starts twice while a demand waits, or that every wait is met: facts of one
-- list of calls that no list has if the claim holds. Places in a list count from 0.
use Prim.Native.Nat.{ℕ, zero, suc, ◌+◌, ◌≤◌, ◌<◌}
use mathlib.Core.Bool.{Bool, true, false, ◌||◌}
use mathlib.Core.List.{List, [], ◌∷◌, ◌++◌, map, append-nil}
use mathlib.Core.Path.{◌≡◌, refl, sym, subst, ap, ◌∙◌}
use native.Mathlib.Omega.{arith}
use borrow.Author.Tests.{ltb-true, leb-true, eqb-false}
use lib.Dec.{leb, ltb, eqb}
use lib.ListN.{length, get_or, take, drop, replicate, length-append, length-replicate, length-map, get_or-replicate, get_or-append}
use lib.Seq.{split_at}
use Rattle.rules.specs.declared.site.Site.{Site}
use Rattle.rules.specs.Verdicts.{Outcome, Stepped, StepRefused, Verdict, Accepted, ◌or_else◌, refuse_if}
use Rattle.rules.specs.declared.answer.Refusal.{Refusal}
use Rattle.rules.specs.Site.{site_of, phase_times, walk_times, crosses, is_pedestrian, movement_of, conflict}
use Rattle.rules.specs.SiteTimes.{no_times}
use Rattle.rules.specs.State.{fresh}
use Rattle.rules.specs.Colours.{red, yellow, green, flashing}
use Rattle.rules.specs.WaitBound.{wait_bound}
use Rattle.rules.specs.Waits.{phase_wait, movement_wait}
use Rattle.rules.specs.Call.{bound_for}
use Rattle.rules.specs.TimedCall.{differs_elsewhere}
use Rattle.rules.specs.Runs.{Controller, Call, StepCall, step_call, Step, Taken, step_taken, retime_taken, taken_from, accepted_steps, site_after, OfEveryRun}
use Rattle.rules.specs.DemandThree.{shows, shown_by, NeverGreen, last_green, StartsGreen, NoConflictingGreens, VehicleCleared, PedestrianCleared, Cleared, FullClearances, minimum_green_begins, walk_begins, some_step, changed_waits, MetInTime, DemandsMet, own_verdict, AnswersOwn, NoDeadEnd, SafeRun, DemandThreeOf, registers_locked, registers_pressed, in_minimum_green, in_running}
use Rattle.rules.specs.StepDemandThree.{comes_within, MetWithin, AnswersBound, SafeStepRun, StepDemandThreeOf}
use Rattle.rules.specs.PhaseWaits.{demanded_in, every_step, phase_wait_through, movement_wait_through, none_changes, ComesBefore, WaitsMet, PlainWaitsMet, EveryWaitMetOf, EveryPlainWaitMetOf}
use Rattle.rules.specs.OnceEach.{phase_starts, other_starts, how_many, until_met, OnceEach, OthersOnce, FewOthers, OnceEachOf}
use Rattle.laws.proofs.Booleans.{never_both, or-false-left, or-false-right}

-- what is read past the end of a list
abbrev nowhere : Step
nowhere =
    record {
      before = fresh;
      inputs = 0;
      room = 0;
      outcome = StepRefused 0 0;
      after = fresh;
      shown = [];
      ruling = no_times;
      changed = false;
    }

never-green : (g : ℕ) (steps : List Step) → some_step (λ step. eqb (shows step g) green) steps ≡ false → NeverGreen g steps
unfolding some_step
never-green g [] h = tt
never-green g (step ∷ later) h =
    let here = eqb (shows step g) green in
    let rest = some_step (λ step. eqb (shows step g) green) later in
    (eqb-false (shows step g) green (or-false-left here rest h), never-green g later (or-false-right here rest h))

-- the first colour of so many steps, whatever follows
colour-at : (colour y : ℕ) (rest : List ℕ) (i : ℕ) → i < y → get_or (replicate y colour ++ rest) i red ≡ colour
colour-at colour y rest i l =
    get_or-append (replicate y colour) rest red i (omega (arith, length-replicate y colour)) ∙ get_or-replicate y i colour red l

replicate-red : (r i : ℕ) → get_or (replicate r red) i red ≡ red
replicate-red zero i = refl
replicate-red (suc r) zero = refl
replicate-red (suc r) (suc i) = replicate-red r i

red-after : (colour y r i : ℕ) → y ≤ i → get_or (replicate y colour ++ replicate r red) i red ≡ red
red-after colour zero r i l = replicate-red r i
red-after colour (suc y) r zero l = omega (arith, l)
red-after colour (suc y) r (suc i) l = red-after colour y r i (omega (arith, l))

declined-not-stepped : {number place wait : ℕ} → StepRefused number place ≡ Stepped wait → ⊥
declined-not-stepped h = let z : ◌≡◌ {A = ℕ} 0 1 = cc in omega arith

-- refusals that are the same have the same number and place
refused-same : {number place other at : ℕ} → StepRefused number place ≡ StepRefused other at → number + place ≡ other + at
refused-same {number} {place} {other} {at} h =
    let same : ◌≡◌ {A = Refusal} (record { number = number; place = place }) (record { number = other; place = at }) = cc in
    ap (λ (r : Refusal). r.number + r.place) same

stepped_same : {wait other : ℕ} → Stepped wait ≡ Stepped other → wait ≡ other
stepped_same {wait} {other} h = let z : wait ≡ other = cc in z

-- The calls as they are taken are given too: another term may be quicker to compute.
module _
    {S : Type 0}
    (controller : Controller S)
    (b : List ℕ)
    (known : controller.verdict b ≡ Accepted)
    (calls : List Call)
    {made : List Taken}
    (same : taken_from controller b (controller.fresh b) calls ≡ made)
  where
    safe : DemandThreeOf controller → SafeRun controller.verdict b made
    unfolding DemandThreeOf
    safe holds = subst (SafeRun controller.verdict b) same (holds b known calls)

    abbrev steps : List Step
    steps = accepted_steps made

    -- ── Part a ──

    -- of step n: it is there, the groups conflict, and what they show
    unfoldable pub together : ℕ → ℕ → ℕ → Bool × Bool × ℕ × ℕ
    together n g j = (ltb n (length steps), conflict (site_of b) g j, shows (get_or steps n nowhere) g, shows (get_or steps n nowhere) j)

    pub refuted-by-greens : (n g j : ℕ) → together n g j ≡ (true, true, green, green) → ¬ DemandThreeOf controller
    unfolding together DemandThreeOf NoConflictingGreens
    refuted-by-greens n g j facts holds =
        (safe holds).no_conflicting_greens (take n steps) (drop (suc n) steps) (get_or steps n nowhere)
        (split_at steps n nowhere (ltb-true n (length steps) (λ i. (facts i).0)))
        g
        j
        (λ i. (facts i).1)
        (λ i. (facts i).2)
        (λ i. (facts i).3)

    -- ── Part b ──

    -- the steps before step m, and those of them after step n
    abbrev front : ℕ → List Step
    front m = take m steps

    abbrev since : ℕ → ℕ → List Step
    since n m = drop (suc n) (front m)

    -- of steps n and m: they are there; the groups conflict; g starts a green at m; j is green at n, and not between them
    unfoldable pub starts : ℕ → ℕ → ℕ → ℕ → Bool × Bool × Bool × ℕ × Bool × ℕ × Bool
    starts n m g j = (
      ltb m (length steps),
      ltb n (length (front m)),
      conflict (site_of b) g j,
      shows (get_or steps m nowhere) g,
      last_green false g (front m),
      shows (get_or (front m) n nowhere) j,
      some_step (λ step. eqb (shows step j) green) (since n m),
    )

    -- then j has been cleared, if clearances are full by the times of such sites
    full :
        (by : Step → Site) →
        FullClearances by (site_of b) steps →
        (n m g j : ℕ) →
        starts n m g j ≡ (true, true, true, green, false, green, false) →
        Cleared (by (get_or (front m) n nowhere)) j (get_or (front m) n nowhere) (since n m)
    unfolding starts FullClearances StartsGreen
    full by clears n m g j facts =
        let whole = split_at steps m nowhere (ltb-true m (length steps) (λ i. (facts i).0)) in
        let parts = split_at (front m) n nowhere (ltb-true n (length (front m)) (λ i. (facts i).1)) in
        clears (take n (front m)) (since n m) (drop (suc m) steps) (get_or (front m) n nowhere) (get_or steps m nowhere)
        (subst (λ (xs : List Step). steps ≡ xs ++ get_or steps m nowhere ∷ drop (suc m) steps) parts whole)
        g
        j
        (λ i. (facts i).2)
        (λ i. (facts i).3, subst (λ (xs : List Step). last_green false g xs ≡ false) parts (λ i. (facts i).4))
        (λ i. (facts i).5)
        (never-green j (since n m) (λ i. (facts i).6))

    uncleared :
        (n m g j : ℕ) →
        starts n m g j ≡ (true, true, true, green, false, green, false) →
        ¬ Cleared (site_after (site_of b) (get_or (front m) n nowhere)) j (get_or (front m) n nowhere) (since n m) →
        ¬ DemandThreeOf controller
    unfolding DemandThreeOf
    uncleared n m g j facts broken holds = broken (full (site_after (site_of b)) (safe holds).full_clearances n m g j facts)

    -- of a pedestrian group: it is one, and it has had fewer steps since n than its clearances take
    unfoldable pub cut : ℕ → ℕ → ℕ → Bool × Bool
    cut n m j =
        let times = walk_times (get_or (front m) n nowhere).ruling (movement_of (site_of b).groups j) in
        (is_pedestrian (site_of b).groups j, ltb (length (since n m)) (times.first + times.second))

    pub refuted-by-clearance :
        (n m g j : ℕ) →
        starts n m g j ≡ (true, true, true, green, false, green, false) →
        cut n m j ≡ (true, true) →
        ¬ DemandThreeOf controller
    unfolding cut Cleared PedestrianCleared shown_by
    refuted-by-clearance n m g j facts more =
        uncleared n m g j facts
        (λ cleared.
        let times = walk_times (get_or (front m) n nowhere).ruling (movement_of (site_of b).groups j) in
        let kind : is_pedestrian (site_of b).groups j ≡ true = λ i. (more i).0 in
        let short = ltb-true (length (since n m)) (times.first + times.second) (λ i. (more i).1) in
        let shown = rw kind at cleared in
        omega (arith, simp (length-map, length-append, length-replicate) at (ap length shown.1)))

    -- of a vehicle group: it is one; its step i after step n is one of its yellow by the times that rule after step n; and what it shows then
    unfoldable pub skipped : ℕ → ℕ → ℕ → ℕ → Bool × Bool × ℕ
    skipped n m j i =
        let last = get_or (front m) n nowhere in
        let times = phase_times last.ruling last.after.position.phase in
        (is_pedestrian (site_of b).groups j, ltb i times.yellow, get_or (shown_by j (since n m)) i red)

    pub refuted-by-yellow :
        (n m g j i : ℕ) →
        starts n m g j ≡ (true, true, true, green, false, green, false) →
        skipped n m j i ≡ (false, true, red) →
        ¬ DemandThreeOf controller
    unfolding skipped Cleared VehicleCleared
    refuted-by-yellow n m g j i facts more =
        uncleared n m g j facts
        (λ cleared.
        let last = get_or (front m) n nowhere in
        let time = (phase_times last.ruling last.after.position.phase).yellow in
        let kind : is_pedestrian (site_of b).groups j ≡ false = λ i. (more i).0 in
        let shown = rw kind at cleared in
        let clash : red ≡ yellow =
        sym (λ i. (more i).2)
        ∙ ap (λ (xs : List ℕ). get_or xs i red) shown.2
        ∙ colour-at yellow time _ i (ltb-true i time (λ i. (more i).1)) in
        omega arith)

    -- of a vehicle group: it is one, and it has had fewer steps since n than its yellow and its all-red take, by the times of a site
    unfoldable pub early : (Step → Site) → ℕ → ℕ → ℕ → Bool × Bool
    early by n m j =
        let last = get_or (front m) n nowhere in
        let times = phase_times (by last).times last.after.position.phase in
        (is_pedestrian (site_of b).groups j, ltb (length (since n m)) (times.yellow + times.red))

    too-early :
        (by : Step → Site) (n m j : ℕ) →
        is_pedestrian (by (get_or (front m) n nowhere)).groups j ≡ is_pedestrian (site_of b).groups j →
        early by n m j ≡ (false, true) →
        ¬ Cleared (by (get_or (front m) n nowhere)) j (get_or (front m) n nowhere) (since n m)
    unfolding early Cleared VehicleCleared shown_by
    too-early by n m j alike more cleared =
        let last = get_or (front m) n nowhere in
        let times = phase_times (by last).times last.after.position.phase in
        let kind : is_pedestrian (by last).groups j ≡ false = alike ∙ (λ i. (more i).0) in
        let short = ltb-true (length (since n m)) (times.yellow + times.red) (λ i. (more i).1) in
        let shown = rw kind at cleared in
        omega (arith, shown.1, simp (length-map, length-append, length-replicate) at (ap length shown.2))

    pub refuted-by-red :
        (n m g j : ℕ) →
        starts n m g j ≡ (true, true, true, green, false, green, false) →
        early (site_after (site_of b)) n m j ≡ (false, true) →
        ¬ DemandThreeOf controller
    refuted-by-red n m g j facts more = uncleared n m g j facts (too-early (site_after (site_of b)) n m j refl more)

    -- of a pedestrian group: it is one; its step i after step n is one of its clearances; and what it shows then
    unfoldable pub cleared : ℕ → ℕ → ℕ → ℕ → Bool × Bool × ℕ
    cleared n m j i =
        let times = walk_times (get_or (front m) n nowhere).ruling (movement_of (site_of b).groups j) in
        (is_pedestrian (site_of b).groups j, ltb i (times.first + times.second), get_or (shown_by j (since n m)) i red)

    pub refuted-by-flashing :
        (n m g j i : ℕ) →
        starts n m g j ≡ (true, true, true, green, false, green, false) →
        cleared n m j i ≡ (true, true, red) →
        ¬ DemandThreeOf controller
    unfolding cleared Cleared PedestrianCleared
    refuted-by-flashing n m g j i facts more =
        uncleared n m g j facts
        (λ cleared.
        let times = walk_times (get_or (front m) n nowhere).ruling (movement_of (site_of b).groups j) in
        let kind : is_pedestrian (site_of b).groups j ≡ true = λ i. (more i).0 in
        let shown = rw kind at cleared in
        let clash : red ≡ flashing =
        sym (λ i. (more i).2)
        ∙ ap (λ (xs : List ℕ). get_or xs i red) shown.1
        ∙ colour-at flashing (times.first + times.second) _ i (ltb-true i (times.first + times.second) (λ i. (more i).1)) in
        omega arith)

    -- of a vehicle group: it is one; its step i after step n is one after its yellow; and it shows red then
    unfoldable pub reddened : ℕ → ℕ → ℕ → ℕ → Bool × Bool × Bool
    reddened n m j i =
        let last = get_or (front m) n nowhere in
        let times = phase_times last.ruling last.after.position.phase in
        (is_pedestrian (site_of b).groups j, leb times.yellow i, eqb (get_or (shown_by j (since n m)) i red) red)

    pub refuted-by-other-than-red :
        (n m g j i : ℕ) →
        starts n m g j ≡ (true, true, true, green, false, green, false) →
        reddened n m j i ≡ (false, true, false) →
        ¬ DemandThreeOf controller
    unfolding reddened Cleared VehicleCleared
    refuted-by-other-than-red n m g j i facts more =
        uncleared n m g j facts
        (λ cleared.
        let last = get_or (front m) n nowhere in
        let time = (phase_times last.ruling last.after.position.phase).yellow in
        let kind : is_pedestrian (site_of b).groups j ≡ false = λ i. (more i).0 in
        let shown = rw kind at cleared in
        eqb-false (get_or (shown_by j (since n m)) i red) red (λ i. (more i).2)
        (ap (λ (xs : List ℕ). get_or xs i red) shown.2 ∙ red-after yellow time shown.0 i (leb-true time i (λ i. (more i).1))))

    -- the same of a pedestrian group, after its clearances
    unfoldable pub stopped : ℕ → ℕ → ℕ → ℕ → Bool × Bool × Bool
    stopped n m j i =
        let times = walk_times (get_or (front m) n nowhere).ruling (movement_of (site_of b).groups j) in
        (is_pedestrian (site_of b).groups j, leb (times.first + times.second) i, eqb (get_or (shown_by j (since n m)) i red) red)

    pub refuted-by-other-than-stop :
        (n m g j i : ℕ) →
        starts n m g j ≡ (true, true, true, green, false, green, false) →
        stopped n m j i ≡ (true, true, false) →
        ¬ DemandThreeOf controller
    unfolding stopped Cleared PedestrianCleared
    refuted-by-other-than-stop n m g j i facts more =
        uncleared n m g j facts
        (λ cleared.
        let times = walk_times (get_or (front m) n nowhere).ruling (movement_of (site_of b).groups j) in
        let kind : is_pedestrian (site_of b).groups j ≡ true = λ i. (more i).0 in
        let shown = rw kind at cleared in
        eqb-false (get_or (shown_by j (since n m)) i red) red (λ i. (more i).2)
        (ap (λ (xs : List ℕ). get_or xs i red) shown.1
        ∙ red-after flashing (times.first + times.second) shown.0 i (leb-true (times.first + times.second) i (λ i. (more i).1))))

    -- ── Part c ──

    -- of step n and those after it: it is there and registers, the event comes in none of them, and the later ones are too many
    unfoldable pub unmet : ℕ → (Step → Bool) → (Step → Bool) → Bool × Bool × Bool × Bool
    unmet n registers event =
        let step = get_or steps n nowhere in
        let later = drop (suc n) steps in (
          ltb n (length steps),
          registers step,
          some_step event (step ∷ later),
          leb (wait_bound (site_after (site_of b) step) + changed_waits (site_of b) later) (length later),
        )

    late :
        (n : ℕ) (registers event : Step → Bool) →
        unmet n registers event ≡ (true, true, false, true) →
        let step = get_or steps n nowhere in
        let later = drop (suc n) steps in
        (steps ≡ take n steps ++ step ∷ (later ++ []) → registers step ≡ true → MetInTime (site_of b) event step later) →
        ⊥
    unfolding unmet MetInTime
    late n registers event facts says =
        let step = get_or steps n nowhere in
        let later = drop (suc n) steps in
        let split = split_at steps n nowhere (ltb-true n (length steps) (λ i. (facts i).0)) in
        let all = split ∙ ap (λ (rest : List Step). take n steps ++ step ∷ rest) (sym (append-nil later)) in
        omega (arith, says all (λ i. (facts i).1) (λ i. (facts i).2), leb-true _ (length later) (λ i. (facts i).3))

    pub refuted-by-lock :
        (n p : ℕ) →
        unmet n (λ step. registers_locked (site_of b) step p) (minimum_green_begins p) ≡ (true, true, false, true) →
        ¬ DemandThreeOf controller
    unfolding DemandThreeOf DemandsMet
    refuted-by-lock n p facts holds =
        late n (λ step. registers_locked (site_of b) step p) (minimum_green_begins p) facts
        (λ split. ((safe holds).demands_met (take n steps) (drop (suc n) steps) [] (get_or steps n nowhere) split).0 p)

    pub refuted-by-button :
        (n k : ℕ) →
        ltb k (site_of b).size.movements ≡ true →
        unmet n (λ step. registers_pressed step k) (walk_begins k) ≡ (true, true, false, true) →
        ¬ DemandThreeOf controller
    unfolding DemandThreeOf DemandsMet
    refuted-by-button n k below facts holds =
        late n (λ step. registers_pressed step k) (walk_begins k) facts
        (λ split.
        ((safe holds).demands_met (take n steps) (drop (suc n) steps) [] (get_or steps n nowhere) split).1 k
        (ltb-true k (site_of b).size.movements below))

    -- ── Part d ──

    -- what a call answers, and what it must answer; that a retiming call is accepted is written as a wait of 0
    abbrev told : Taken → Outcome × Outcome
    told (step_taken step) = (step.outcome, bound_for (own_verdict (site_of b) step) (wait_bound (site_after (site_of b) step)))
    told (retime_taken new verdict) =
        (bound_for verdict 0, bound_for (controller.verdict new or_else refuse_if (differs_elsewhere b new) 26 0) 0)

    told_same : (call : Taken) → AnswersOwn controller.verdict b call → (told call).0 ≡ (told call).1
    unfolding AnswersOwn
    told_same (step_taken step) own = own
    told_same (retime_taken new verdict) own = ap (λ (v : Verdict). bound_for v 0) own

    -- of call n: it is there, and what is said of it
    unfoldable pub answers : ℕ → Bool × Outcome × Outcome
    answers n =
        let said = told (get_or made n (step_taken nowhere)) in
        (ltb n (length made), said.0, said.1)

    answered : (n : ℕ) {outcome must : Outcome} → answers n ≡ (true, outcome, must) → DemandThreeOf controller → outcome ≡ must
    unfolding answers DemandThreeOf NoDeadEnd
    answered n facts holds =
        let call = get_or made n (step_taken nowhere) in
        sym (λ i. (facts i).1)
        ∙ told_same call
        ((safe holds).no_dead_end (take n made) (drop (suc n) made) call
        (split_at made n (step_taken nowhere) (ltb-true n (length made) (λ i. (facts i).0))))
        ∙ (λ i. (facts i).2)

    pub refuted-by-refusal : (n number place wait : ℕ) → answers n ≡ (true, StepRefused number place, Stepped wait) → ¬ DemandThreeOf controller
    refuted-by-refusal n number place wait facts holds = declined-not-stepped (answered n facts holds)

    pub refuted-by-bound : (n wait must : ℕ) → answers n ≡ (true, Stepped wait, Stepped must) → eqb wait must ≡ false → ¬ DemandThreeOf controller
    refuted-by-bound n wait must facts other holds = eqb-false wait must other (stepped_same (answered n facts holds))

    pub refuted-by-number :
        (n number place must at : ℕ) →
        answers n ≡ (true, StepRefused number place, StepRefused must at) →
        eqb (number + place) (must + at) ≡ false →
        ¬ DemandThreeOf controller
    refuted-by-number n number place must at facts other holds =
        eqb-false (number + place) (must + at) other (refused-same (answered n facts holds))

    -- ── Once each ──

    -- step n is there
    abbrev placed : ℕ → Type 0
    placed n = steps ≡ take n steps ++ get_or steps n nowhere ∷ drop (suc n) steps

    place : (n : ℕ) → ltb n (length steps) ≡ true → placed n
    place n there = split_at steps n nowhere (ltb-true n (length steps) there)

    -- of step n: it is there, and it registers a locked demand of phase p; until that is met phase r starts twice or more often; r is p; and until then
    -- other phases start as often as there are phases, or more often
    unfoldable pub twice : ℕ → ℕ → ℕ → Bool × Bool × Bool × Bool × Bool
    twice n p r =
        let step = get_or steps n nowhere in
        let waiting = until_met (minimum_green_begins p) (step ∷ drop (suc n) steps) in (
          ltb n (length steps),
          registers_locked (site_of b) step p,
          leb 2 (how_many (phase_starts r) waiting),
          eqb r p,
          leb (site_of b).size.phases (how_many (other_starts p) waiting),
        )

    module _ (n p r : ℕ) (facts : twice n p r ≡ (true, true, true, false, true)) where
      abbrev waiting : List Step
      waiting = until_met (minimum_green_begins p) (get_or steps n nowhere ∷ drop (suc n) steps)

      often : 2 ≤ how_many (phase_starts r) waiting
      unfolding twice
      often = leb-true 2 (how_many (phase_starts r) waiting) (λ i. (facts i).2)

      pub refuted-by-start : ¬ OnceEachOf controller
      unfolding twice OnceEachOf OnceEach
      refuted-by-start holds =
          let claimed = subst (λ (l : List Taken). OnceEach (site_of b) (accepted_steps l)) same (holds b known calls) in
          omega (arith, often, (claimed (take n steps) (drop (suc n) steps) (get_or steps n nowhere) (place n (λ i. (facts i).0))).0 p (λ i. (facts i).1) r)

      pub refuted-by-other : ¬ OfEveryRun controller (λ b calls. OthersOnce (site_of b) (accepted_steps calls))
      unfolding twice OthersOnce
      refuted-by-other holds =
          let claimed = subst (λ (l : List Taken). OthersOnce (site_of b) (accepted_steps l)) same (holds b known calls) in
          omega (
            arith,
            often,
            (claimed (take n steps) (drop (suc n) steps) (get_or steps n nowhere) (place n (λ i. (facts i).0))).0 p (λ i. (facts i).1) r
                (eqb-false r p (λ i. (facts i).3)),
          )

      pub refuted-by-many : ¬ OfEveryRun controller (λ b calls. FewOthers (site_of b) (accepted_steps calls))
      unfolding twice FewOthers
      refuted-by-many holds =
          let claimed = subst (λ (l : List Taken). FewOthers (site_of b) (accepted_steps l)) same (holds b known calls) in
          let many = leb-true (site_of b).size.phases (how_many (other_starts p) waiting) (λ i. (facts i).4) in
          omega (arith, many, (claimed (take n steps) (drop (suc n) steps) (get_or steps n nowhere) (place n (λ i. (facts i).0))).0 p (λ i. (facts i).1))

    -- of step n: it is there; k is a movement, of phase p, and the step registers its demand; until that is met phase r starts twice or more often
    unfoldable pub twice_pressed : ℕ → ℕ → ℕ → ℕ → Bool × Bool × Bool × Bool × Bool
    twice_pressed n k p r =
        let step = get_or steps n nowhere in (
          ltb n (length steps),
          ltb k (site_of b).size.movements,
          crosses (site_of b).crossings k p,
          registers_pressed step k,
          leb 2 (how_many (phase_starts r) (until_met (walk_begins k) (step ∷ drop (suc n) steps))),
        )

    pub refuted-by-pressed-start : (n k p r : ℕ) → twice_pressed n k p r ≡ (true, true, true, true, true) → ¬ OnceEachOf controller
    unfolding twice_pressed OnceEachOf OnceEach
    refuted-by-pressed-start n k p r facts holds =
        let claimed = subst (λ (l : List Taken). OnceEach (site_of b) (accepted_steps l)) same (holds b known calls) in
        let step = get_or steps n nowhere in
        let many = leb-true 2 (how_many (phase_starts r) (until_met (walk_begins k) (step ∷ drop (suc n) steps))) (λ i. (facts i).4) in
        omega (
          arith,
          many,
          (claimed (take n steps) (drop (suc n) steps) step (place n (λ i. (facts i).0))).1 k p
              (ltb-true k (site_of b).size.movements (λ i. (facts i).1))
              (λ i. (facts i).2)
              (λ i. (facts i).3)
              r,
        )

    -- ── Waits ──

    -- step n is there, and the later ones are those up to the last
    abbrev up_to : ℕ → Type 0
    up_to n = steps ≡ take n steps ++ get_or steps n nowhere ∷ (drop (suc n) steps ++ [])

    up-to : (n : ℕ) → ltb n (length steps) ≡ true → up_to n
    up-to n there =
        place n there ∙ ap (λ (rest : List Step). take n steps ++ get_or steps n nowhere ∷ rest) (sym (append-nil (drop (suc n) steps)))

    plain-waits : EveryPlainWaitMetOf controller → PlainWaitsMet (site_of b) steps
    unfolding EveryPlainWaitMetOf
    plain-waits holds = subst (λ (l : List Taken). PlainWaitsMet (site_of b) (accepted_steps l)) same (holds b known calls)

    -- of step n and those after it: it is there, movement m is one of phase q, and the step registers its demand; no walk of m begins in them, none of the
    -- later ones is a change, and they are as many as the wait
    unfoldable pub unwalked : ℕ → ℕ → ℕ → Bool × Bool × Bool × Bool × Bool × Bool × Bool
    unwalked n q m =
        let step = get_or steps n nowhere in
        let later = drop (suc n) steps in (
          ltb n (length steps),
          ltb m (site_of b).size.movements,
          crosses (site_of b).crossings m q,
          registers_pressed step m,
          some_step (walk_begins m) (step ∷ later),
          none_changes later,
          leb (movement_wait (site_after (site_of b) step) q m) (length (step ∷ later)),
        )

    pub refuted-by-walk : (n q m : ℕ) → unwalked n q m ≡ (true, true, true, true, false, true, true) → ¬ EveryPlainWaitMetOf controller
    unfolding unwalked PlainWaitsMet ComesBefore
    refuted-by-walk n q m facts holds =
        let step = get_or steps n nowhere in
        let later = drop (suc n) steps in
        let wait = movement_wait (site_after (site_of b) step) q m in
        let fewer =
        (plain-waits holds).buttons (take n steps) later [] step (up-to n (λ i. (facts i).0)) q m
        (ltb-true m (site_of b).size.movements (λ i. (facts i).1))
        (λ i. (facts i).2)
        (λ i. (facts i).3)
        (λ i. (facts i).5)
        (λ i. (facts i).4) in
        omega (arith, fewer, leb-true wait (length (step ∷ later)) (λ i. (facts i).6))

    -- the same of a locked demand of phase q, which minimum green meets
    unfoldable pub unserved : ℕ → ℕ → Bool × Bool × Bool × Bool × Bool
    unserved n q =
        let step = get_or steps n nowhere in
        let later = drop (suc n) steps in (
          ltb n (length steps),
          registers_locked (site_of b) step q,
          some_step (minimum_green_begins q) (step ∷ later),
          none_changes later,
          leb (phase_wait (site_after (site_of b) step) q) (length (step ∷ later)),
        )

    pub refuted-by-late-lock : (n q : ℕ) → unserved n q ≡ (true, true, false, true, true) → ¬ EveryPlainWaitMetOf controller
    unfolding unserved PlainWaitsMet ComesBefore
    refuted-by-late-lock n q facts holds =
        let step = get_or steps n nowhere in
        let later = drop (suc n) steps in
        let wait = phase_wait (site_after (site_of b) step) q in
        let fewer =
        (plain-waits holds).locks (take n steps) later [] step (up-to n (λ i. (facts i).0)) q (λ i. (facts i).1) (λ i. (facts i).3) (λ i. (facts i).2) in
        omega (arith, fewer, leb-true wait (length (step ∷ later)) (λ i. (facts i).4))

    -- the same of a demand of phase q that lasts, and that begins while the phase is not in minimum green or running
    unfoldable pub uncalled : ℕ → ℕ → Bool × Bool × Bool × Bool × Bool × Bool × Bool
    uncalled n q =
        let step = get_or steps n nowhere in
        let later = drop (suc n) steps in (
          ltb n (length steps),
          ltb q (site_of b).size.phases,
          in_minimum_green step.before q || in_running step.before q,
          every_step (demanded_in (site_of b) q) (step ∷ later),
          some_step (minimum_green_begins q) (step ∷ later),
          none_changes later,
          leb (phase_wait (site_after (site_of b) step) q) (length (step ∷ later)),
        )

    pub refuted-by-call : (n q : ℕ) → uncalled n q ≡ (true, true, false, true, false, true, true) → ¬ EveryPlainWaitMetOf controller
    unfolding uncalled PlainWaitsMet ComesBefore
    refuted-by-call n q facts holds =
        let step = get_or steps n nowhere in
        let later = drop (suc n) steps in
        let wait = phase_wait (site_after (site_of b) step) q in
        let fewer =
        (plain-waits holds).lasting (take n steps) later [] step (up-to n (λ i. (facts i).0)) q (ltb-true q (site_of b).size.phases (λ i. (facts i).1))
        (λ i. (facts i).2)
        (λ i. (facts i).3)
        (λ i. (facts i).5)
        (λ i. (facts i).4) in
        omega (arith, fewer, leb-true wait (length (step ∷ later)) (λ i. (facts i).6))

    -- of a locked demand of phase q through changes of times
    unfoldable pub unserved_through : ℕ → ℕ → Bool × Bool × Bool × Bool
    unserved_through n q =
        let step = get_or steps n nowhere in
        let later = drop (suc n) steps in (
          ltb n (length steps),
          registers_locked (site_of b) step q,
          some_step (minimum_green_begins q) (step ∷ later),
          leb (phase_wait_through (site_of b) step later q) (length (step ∷ later)),
        )

    pub refuted-through-changes : (n q : ℕ) → unserved_through n q ≡ (true, true, false, true) → ¬ EveryWaitMetOf controller
    unfolding unserved_through EveryWaitMetOf WaitsMet ComesBefore
    refuted-through-changes n q facts holds =
        let met = subst (λ (l : List Taken). WaitsMet (site_of b) (accepted_steps l)) same (holds b known calls) in
        let step = get_or steps n nowhere in
        let later = drop (suc n) steps in
        let wait = phase_wait_through (site_of b) step later q in
        let fewer = met.locks (take n steps) later [] step (up-to n (λ i. (facts i).0)) q (λ i. (facts i).1) (λ i. (facts i).2) in
        omega (arith, fewer, leb-true wait (length (step ∷ later)) (λ i. (facts i).3))

    -- of a button demand of movement m of phase q through changes of times
    unfoldable pub unwalked_through : ℕ → ℕ → ℕ → Bool × Bool × Bool × Bool × Bool × Bool
    unwalked_through n q m =
        let step = get_or steps n nowhere in
        let later = drop (suc n) steps in (
          ltb n (length steps),
          ltb m (site_of b).size.movements,
          crosses (site_of b).crossings m q,
          registers_pressed step m,
          some_step (walk_begins m) (step ∷ later),
          leb (movement_wait_through (site_of b) step later q m) (length (step ∷ later)),
        )

    pub refuted-by-walk-through :
        (n q m : ℕ) → unwalked_through n q m ≡ (true, true, true, true, false, true) → ¬ EveryWaitMetOf controller
    unfolding unwalked_through EveryWaitMetOf WaitsMet ComesBefore
    refuted-by-walk-through n q m facts holds =
        let met = subst (λ (l : List Taken). WaitsMet (site_of b) (accepted_steps l)) same (holds b known calls) in
        let step = get_or steps n nowhere in
        let later = drop (suc n) steps in
        let wait = movement_wait_through (site_of b) step later q m in
        let fewer =
        met.buttons (take n steps) later [] step (up-to n (λ i. (facts i).0)) q m (ltb-true m (site_of b).size.movements (λ i. (facts i).1))
        (λ i. (facts i).2)
        (λ i. (facts i).3)
        (λ i. (facts i).4) in
        omega (arith, fewer, leb-true wait (length (step ∷ later)) (λ i. (facts i).5))

    -- ── Step calls alone ──

    module _ (plain : List StepCall) (are : map step_call plain ≡ calls) where
      safe-steps : StepDemandThreeOf controller → SafeStepRun (site_of b) made
      unfolding StepDemandThreeOf
      safe-steps holds =
          subst (SafeStepRun (site_of b)) (ap (taken_from controller b (controller.fresh b)) are ∙ same) (holds b known plain)

      pub steps-refuted-by-red :
          (n m g j : ℕ) →
          starts n m g j ≡ (true, true, true, green, false, green, false) →
          early (λ last. site_of b) n m j ≡ (false, true) →
          ¬ StepDemandThreeOf controller
      steps-refuted-by-red n m g j facts more holds =
          too-early (λ last. site_of b) n m j refl more (full (λ last. site_of b) (safe-steps holds).full_clearances n m g j facts)

      -- of step n: it is there, the list goes on as long as the wait bound, the step registers a lock, and minimum green begins within the wait bound
      unfoldable pub begun : ℕ → ℕ → Bool × Bool × Bool × Bool
      begun n p =
          let wait = wait_bound (site_of b) in
          let step = get_or steps n nowhere in
          let later = drop (suc n) steps in
          (ltb n (length steps), leb wait (length later), registers_locked (site_of b) step p, comes_within wait (minimum_green_begins p) step later)

      pub steps-refuted-by-lock : (n p : ℕ) → begun n p ≡ (true, true, true, false) → ¬ StepDemandThreeOf controller
      unfolding begun MetWithin
      steps-refuted-by-lock n p facts holds =
          let wait = wait_bound (site_of b) in
          let later = drop (suc n) steps in
          never_both
          (((safe-steps holds).demands_met (take n steps) later (get_or steps n nowhere) (place n (λ i. (facts i).0))
          (leb-true wait (length later) (λ i. (facts i).1))).0
          p
          (λ i. (facts i).2))
          (λ i. (facts i).3)

      pub steps-refuted-by-bound :
          (step : Step) (later : List Taken) (wait must : ℕ) →
          made ≡ step_taken step ∷ later →
          step.outcome ≡ Stepped wait →
          bound_for (own_verdict (site_of b) step) (wait_bound (site_of b)) ≡ Stepped must →
          eqb wait must ≡ false →
          ¬ StepDemandThreeOf controller
      unfolding AnswersBound
      steps-refuted-by-bound step later wait must first says own other holds =
          eqb-false wait must other (stepped_same (sym says ∙ (safe-steps holds).no_dead_end [] later step first ∙ own))

-- ── Part c with another wait, over step calls alone ──

module _ (b : List ℕ) {calls made : List Taken} (same : calls ≡ made) where
  abbrev plain : List Step
  plain = accepted_steps made

  -- of step n: it is there, the list goes on as long as the wait, the step registers the button, and the walk begins within the wait
  unfoldable pub walked : ℕ → ℕ → ℕ → Bool × Bool × Bool × Bool
  walked wait n k =
      let step = get_or plain n nowhere in
      let later = drop (suc n) plain in
      (ltb n (length plain), leb wait (length later), registers_pressed step k, comes_within wait (walk_begins k) step later)

  pub unmet-by-button :
      (wait n k : ℕ) →
      ltb k (site_of b).size.movements ≡ true →
      walked wait n k ≡ (true, true, true, false) →
      ¬ MetWithin (site_of b) wait (accepted_steps calls)
  unfolding walked MetWithin
  unmet-by-button wait n k below facts holds =
      let all = subst (λ (l : List Taken). MetWithin (site_of b) wait (accepted_steps l)) same holds in
      let step = get_or plain n nowhere in
      let later = drop (suc n) plain in
      never_both
      ((all (take n plain) later step (split_at plain n nowhere (ltb-true n (length plain) (λ i. (facts i).0)))
      (leb-true wait (length later) (λ i. (facts i).1))).1
      k
      (ltb-true k (site_of b).size.movements below)
      (λ i. (facts i).2))
      (λ i. (facts i).3)
