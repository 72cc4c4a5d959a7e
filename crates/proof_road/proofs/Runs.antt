-- The road's state is that of its list of step calls, and demand 3 holds of every list of calls.
use Rattle.std.specs.Prelude.{Ok, Err}
use Prim.Native.Nat.{ℕ, zero, suc}
use mathlib.Core.List.{List, [], ◌∷◌, map, map-append}
use mathlib.Core.Path.{◌≡◌, refl, sym, ◌∙◌, ap}
use lib.ListN.{length}
use Rattle.rules.specs.Verdicts.{Verdict}
use Rattle.rules.specs.Verdicts.{Accepted, Refused}
use Rattle.rules.specs.declared.state.KeptState.{KeptState}
use Rattle.laws.specs.Folds.{list_of}
use Rattle.rules.specs.Site.{site_of}
use Rattle.rules.specs.Timed.{TimedState, kept_of, with_own_times, none_waiting, fresh_timed, takes_over, ruling_next, timed_stepped}
use Rattle.rules.specs.Call.{handed_back}
use Rattle.rules.specs.TimedCall.{timed_verdict}
use Rattle.rules.specs.Runs.{by_rules, step_call, left_by}
use Rattle.rules.specs.StepDemandThree.{StepDemandThreeOf, StepDemandThree}
use Rattle.proof_runs.proofs.Parts.{left-on}
use Rattle.proof_guarantees.proofs.StepDemandThree.{step-demand-three}
use Rattle.road_streams.specs.Road.{blank_colours, fresh_road, road_stepped, road_after}
use Rattle.proof_road.specs.Roads.{inputs_at, state_at, call_at, road_calls, RoadIsRun, RoadIsSafe}

-- after a call the personality's own times rule too, and none wait
own-next :
    (b : List ℕ) (s : KeptState) (inputs : ℕ) (v : Verdict) →
    let next = handed_back v (timed_stepped (site_of b) (with_own_times (site_of b) s) inputs) (with_own_times (site_of b) s) in
    with_own_times (site_of b) (kept_of next) ≡ next
unfolding handed_back timed_stepped ruling_next takes_over none_waiting
own-next b s inputs (Ok _) = refl
own-next b s inputs (Err r) = refl

state-run : (b streams : List ℕ) (n : ℕ) → state_at b streams n ≡ left_by by_rules b (by_rules.fresh b) (map step_call (list_of (call_at b streams) n))
unfolding road_after fresh_road road_stepped left_by list_of call_at inputs_at by_rules fresh_timed
state-run b streams zero = refl
state-run b streams (suc n) =
    let c = call_at b streams n in
    let earlier = list_of (call_at b streams) n in
    let fresh = by_rules.fresh b in
    own-next b (road_after b streams n).state c.inputs (timed_verdict b (state_at b streams n) c.inputs (length blank_colours))
    ∙ ap (λ (s : TimedState). by_rules.next b s c.inputs (length blank_colours)) (state-run b streams n)
    ∙ sym (left-on by_rules b fresh (map step_call earlier) (step_call c ∷ []))
    ∙ ap (left_by by_rules b fresh) (sym (map-append step_call earlier (c ∷ [])))

pub road-is-run : RoadIsRun
unfolding RoadIsRun road_calls
road-is-run b streams n = state-run b streams n

pub road-is-safe : RoadIsSafe
unfolding RoadIsSafe StepDemandThree StepDemandThreeOf by_rules
road-is-safe b streams read n = step-demand-three b read (road_calls b streams n)
