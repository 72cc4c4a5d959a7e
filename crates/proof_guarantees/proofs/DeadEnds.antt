-- No call of a list of step and retiming calls is refused for the state that the calls before it left: the fresh state is valid, and every call
-- leads from a valid state to a valid state.
use Rattle.std.specs.Prelude.{Ok, Err}
use Prim.Native.Nat.{ℕ}
use mathlib.Core.Bool.{true}
use mathlib.Core.List.{List, [], ◌∷◌}
use mathlib.Core.Path.{◌≡◌, refl, ap}
use lib.Dec.{ltb}
use lib.ListN.{length}
use Rattle.rules.specs.Verdicts.{Verdict, Accepted, Refused, refuse_if, ◌or_else◌}
use Rattle.rules.specs.Personality.{verdict_of}
use Rattle.rules.specs.Site.{site_of, times_in}
use Rattle.rules.specs.SiteTimes.{under}
use Rattle.rules.specs.Timed.{TimedState, timed_valid, timed_stepped}
use Rattle.rules.specs.WaitBound.{wait_bound}
use Rattle.rules.specs.Call.{stray_input, step_verdict, bound_for, handed_back, checks_by}
use Rattle.rules.specs.TimedCall.{timed_verdict, differs_elsewhere, retime_checks_by, retimed, retime_verdict}
use Rattle.rules.specs.TimedLaws.{StepKeepsValid, RetimeKeepsValid}
use Rattle.rules.specs.Runs.{by_rules, Call, step_call, retime_call, taken_from}
use Rattle.rules.specs.DemandThree.{AnswersOwn, NoDeadEnd}
use Rattle.proof_runs.proofs.Each.{Each, each_at}
use Rattle.proof_runs.proofs.Chains.{checks-told}
use Rattle.proof_guarantees.proofs.Accepted.{step-keeps-valid, retime-keeps-valid}

module _ (b : List ℕ) (known : verdict_of b ≡ Accepted) where
  -- ── Step calls ──

  -- what a step call is refused with for its own inputs and buffer
  abbrev own : ℕ → ℕ → Verdict
  own inputs room = refuse_if (stray_input (site_of b) inputs) 15 0 or_else refuse_if (ltb room (site_of b).size.groups) 14 0

  module _ (s : TimedState) (valid : timed_valid (site_of b) s ≡ true) where
    own-verdict : (inputs room : ℕ) → timed_verdict b s inputs room ≡ own inputs room
    unfolding checks_by step_verdict refuse_if ◌or_else◌
    own-verdict inputs room = rw (known, valid)

    -- it reports the wait of the times that rule in the state that it hands back
    own-outcome :
        (inputs room : ℕ) (v : Verdict) →
        v ≡ own inputs room →
        let new = timed_stepped (site_of b) s inputs in
        bound_for v (wait_bound (under (site_of b) new.ruling)) ≡ bound_for (own inputs room) (wait_bound (under (site_of b) (handed_back v new s).ruling))
    unfolding bound_for handed_back
    own-outcome inputs room (Ok _) e = ap (λ (v : Verdict). bound_for v (wait_bound (under (site_of b) (timed_stepped (site_of b) s inputs).ruling))) e
    own-outcome inputs room (Err r) e = ap (λ (v : Verdict). bound_for v (wait_bound (under (site_of b) s.ruling))) e

    step-valid :
        (inputs room : ℕ) (v : Verdict) →
        timed_verdict b s inputs room ≡ v →
        timed_valid (site_of b) (handed_back v (timed_stepped (site_of b) s inputs) s) ≡ true
    unfolding handed_back checks_by StepKeepsValid
    step-valid inputs room (Ok _) e =
        step-keeps-valid b known s valid inputs (checks-told b inputs room (timed_valid (site_of b) s) e).1
    step-valid inputs room (Err r) e = valid

    -- ── Retiming calls ──

    retime-own : (new : List ℕ) → retime_verdict b s new ≡ (verdict_of new or_else refuse_if (differs_elsewhere b new) 26 0)
    unfolding retime_checks_by refuse_if ◌or_else◌
    retime-own new = rw (known, valid)

    retime-valid :
        (new : List ℕ) (v : Verdict) → retime_verdict b s new ≡ v → timed_valid (site_of b) (handed_back v (retimed s (times_in new)) s) ≡ true
    unfolding handed_back RetimeKeepsValid
    retime-valid new (Ok _) e = retime-keeps-valid b known s valid new e
    retime-valid new (Err r) e = valid

  -- ── Lists of calls ──

  own-from : (calls : List Call) (s : TimedState) → timed_valid (site_of b) s ≡ true → Each (λ call later. AnswersOwn verdict_of b call) (taken_from by_rules b s calls)
  unfolding taken_from by_rules AnswersOwn
  own-from [] s valid = tt
  own-from (step_call c ∷ calls) s valid =
      let room = length c.buffer in
      let v = timed_verdict b s c.inputs room in (
        own-outcome s valid c.inputs room v (own-verdict s valid c.inputs room),
        own-from calls (handed_back v (timed_stepped (site_of b) s c.inputs) s) (step-valid s valid c.inputs room v refl),
      )
  own-from (retime_call new ∷ calls) s valid =
      let v = retime_verdict b s new in
      (retime-own s valid new, own-from calls (handed_back v (retimed s (times_in new)) s) (retime-valid s valid new v refl))

  pub no-dead-end : (calls : List Call) (s : TimedState) → timed_valid (site_of b) s ≡ true → NoDeadEnd verdict_of b (taken_from by_rules b s calls)
  unfolding NoDeadEnd
  no-dead-end calls s valid earlier later call split =
      each_at (λ call later. AnswersOwn verdict_of b call) (taken_from by_rules b s calls) earlier later call split (own-from calls s valid)
