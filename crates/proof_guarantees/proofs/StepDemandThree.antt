-- Lists of step calls alone: the personality's own times rule in every state, and no step is a change. So demand 3 gives the demand for them.
use Rattle.std.specs.Prelude.{Ok, Err}
use Prim.Native.Nat.{ℕ, zero, suc, ◌≤◌}
use mathlib.Core.Bool.{Bool, true, false}
use mathlib.Core.List.{List, [], ◌∷◌, ◌++◌, map, append_assoc}
use mathlib.Core.Path.{◌≡◌, refl, sym, subst, ap, ◌∙◌}
use native.Mathlib.Omega.{arith}
use lib.ListN.{length, take, drop, take-append-drop}
use lib.Seq.{length-take-le}
use Rattle.rules.specs.Verdicts.{Outcome, Stepped, StepRefused, Verdict, Accepted, Refused}
use Rattle.rules.specs.declared.site.Site.{Site}
use Rattle.rules.specs.declared.site.Times.{Times}
use Rattle.rules.specs.Personality.{verdict_of}
use Rattle.rules.specs.Site.{site_of}
use Rattle.rules.specs.SiteTimes.{under}
use Rattle.rules.specs.Timed.{TimedState, none_waiting, fresh_timed, timed_stepped, takes_over, ruling_next}
use Rattle.rules.specs.WaitBound.{wait_bound}
use Rattle.rules.specs.Call.{bound_for, handed_back}
use Rattle.rules.specs.Runs.{by_rules, StepCall, step_call, Step, Taken, step_taken, retime_taken, next_of, taken_from, if_accepted, accepted_steps, site_after}
use Rattle.rules.specs.DemandThree.{Cleared, FullClearances, minimum_green_begins, walk_begins, some_step, changed_waits, MetInTime, DemandsMet, own_verdict, AnswersOwn, NoDeadEnd, DemandThreeOf, DemandThree}
use Rattle.rules.specs.StepDemandThree.{comes_within, MetWithin, AnswersBound, StepDemandThreeOf, StepDemandThree, StepDemandFollows}
use Rattle.laws.proofs.Booleans.{not-false-true}
use Rattle.proof_runs.proofs.Each.{Each, each_at}
use Rattle.proof_guarantees.proofs.DemandThree.{demand-three}

module _ (b : List ℕ) where
  abbrev site : Site
  site = site_of b

  -- ── The steps of such a run ──

  -- the personality's own times rule, and none wait
  pub record OwnTimes (s : TimedState) : Type 0 where
    pub rule : s.ruling ≡ site.times
    pub none : s.waiting.present ≡ false

  -- they rule after the step, which is not a change
  pub record OwnStep (step : Step) : Type 0 where
    pub rule : step.ruling ≡ site.times
    pub plain : step.changed ≡ false

  OwnTaken : Taken → Type 0
  OwnTaken (step_taken step) = OwnStep step
  OwnTaken (retime_taken new verdict) = Unit {0}

  stepped-own : (s : TimedState) (inputs : ℕ) → OwnTimes s → OwnTimes (timed_stepped site s inputs)
  unfolding timed_stepped ruling_next takes_over
  stepped-own s inputs own = record { rule = rw own.none own.rule; none = rw own.none }

  next-own : (v : Verdict) (s : TimedState) (inputs : ℕ) → OwnTimes s → OwnTimes (handed_back v (timed_stepped site s inputs) s)
  unfolding handed_back
  next-own (Ok _) s inputs own = stepped-own s inputs own
  next-own (Err r) s inputs own = own

  taken_own : (calls : List StepCall) (s : TimedState) → OwnTimes s → Each (λ call later. OwnTaken call) (taken_from by_rules b s (map step_call calls))
  unfolding taken_from by_rules OwnTaken
  taken_own [] s own = tt
  taken_own (c ∷ calls) s own =
      let next = next-own _ s c.inputs own in
      (record { rule = next.rule; plain = rw own.none }, taken_own calls (next_of by_rules b s c) next)

  accepted-own : (calls : List Taken) → Each (λ call later. OwnTaken call) calls → Each (λ step later. OwnStep step) (accepted_steps calls)
  unfolding accepted_steps if_accepted OwnTaken
  accepted-own [] own = tt
  accepted-own (retime_taken new verdict ∷ later) own = accepted-own later own.1
  accepted-own (step_taken step ∷ later) own = by step.outcome (accepted-own later own.1)
    where
      by :
          (outcome : Outcome) →
          Each (λ step later. OwnStep step) (accepted_steps later) →
          Each (λ step later. OwnStep step) (if_accepted outcome step (accepted_steps later))
      by (Ok wait) rest = (own.0, rest)
      by (Err r) rest = rest

  rest-own : (earlier later : List Step) → Each (λ step later. OwnStep step) (earlier ++ later) → Each (λ step later. OwnStep step) later
  rest-own [] later own = own
  rest-own (step ∷ earlier) later own = rest-own earlier later own.1

  no-changes : (n : ℕ) (steps : List Step) → Each (λ step later. OwnStep step) steps → changed_waits site (take n steps) ≡ 0
  unfolding changed_waits
  no-changes zero steps own = refl
  no-changes (suc n) [] own = refl
  no-changes (suc n) (step ∷ later) own = rw own.0.plain (omega (arith, no-changes n later own.1))

  -- ── The parts ──

  -- an event that has come in none of `wait` steps would be late
  in-time :
      (step : Step) (later : List Step) →
      Each (λ step later. OwnStep step) (step ∷ later) →
      wait_bound site ≤ length later →
      (event : Step → Bool) →
      MetInTime site event step (take (wait_bound site) later) →
      comes_within (wait_bound site) event step later ≡ true
  unfolding MetInTime comes_within
  in-time step later own long event met =
      not-false-true (some_step event (step ∷ take (wait_bound site) later))
      (λ none.
      omega (
        arith,
        met none,
        ap (λ (times : Times). wait_bound (under site times)) own.0.rule,
        length-take-le (wait_bound site) later long,
        no-changes (wait_bound site) later own.1,
      ))

  module _ (steps : List Step) (own : Each (λ step later. OwnStep step) steps) where
    clearances-own : FullClearances (site_after site) site steps → FullClearances (λ last. site) site steps
    unfolding FullClearances
    clearances-own holds earlier since later last start split g j apart starts green_j never =
        let at =
        each_at (λ step later. OwnStep step) steps earlier (since ++ start ∷ later) last
        (split ∙ append_assoc earlier (last ∷ since) (start ∷ later))
        own in
        subst (λ (times : Times). Cleared (under site times) j last since) at.rule
        (holds earlier since later last start split g j apart starts green_j never)

    demands-own : DemandsMet site steps → MetWithin site (wait_bound site) steps
    unfolding DemandsMet MetWithin
    demands-own holds earlier later step split long =
        let n = wait_bound site in
        let rest = rest-own earlier (step ∷ later) (subst (λ (l : List Step). Each (λ step later. OwnStep step) l) split own) in
        let met =
        holds earlier (take n later) (drop n later) step
        (split ∙ ap (λ (l : List Step). earlier ++ step ∷ l) (sym (take-append-drop n later))) in (
          λ p r. in-time step later rest long (minimum_green_begins p) (met.0 p r),
          λ k l r. in-time step later rest long (walk_begins k) (met.1 k l r),
        )

  answers-own : (calls : List Taken) → Each (λ call later. OwnTaken call) calls → NoDeadEnd verdict_of b calls → AnswersBound site calls
  unfolding NoDeadEnd AnswersOwn AnswersBound OwnTaken
  answers-own calls own holds earlier later step split =
      let at = each_at (λ call later. OwnTaken call) calls earlier later (step_taken step) split own in
      holds earlier later (step_taken step) split
      ∙ ap (λ (times : Times). bound_for (own_verdict site step) (wait_bound (under site times))) at.rule

-- ── The demand ──

pub step-demand-follows : StepDemandFollows
unfolding StepDemandFollows DemandThree DemandThreeOf StepDemandThree StepDemandThreeOf by_rules fresh_timed none_waiting
step-demand-follows holds b known calls =
    let run = holds b known (map step_call calls) in
    let taken = taken_from by_rules b (fresh_timed (site_of b)) (map step_call calls) in
    let own = taken_own b calls (fresh_timed (site_of b)) (record { rule = refl; none = refl }) in
    let steps = accepted-own b taken own in
    record {
      no_conflicting_greens = run.no_conflicting_greens;
      full_clearances = clearances-own b (accepted_steps taken) steps run.full_clearances;
      demands_met = demands-own b (accepted_steps taken) steps run.demands_met;
      no_dead_end = answers-own b taken own run.no_dead_end;
    }

pub step-demand-three : StepDemandThree
unfolding StepDemandFollows
step-demand-three = step-demand-follows demand-three
