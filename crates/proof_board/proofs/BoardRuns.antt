-- A run of the library's calls is a run of the rules. An answer reads back as the outcome that it was packed from; the bytes of a state read back as
-- the state; and each call leaves the bytes of the state that the rules hand back, so call by call nothing differs.
use Rattle.std.specs.Prelude.{Ok, Err}
use Prim.Native.Nat.{ℕ}
use mathlib.Core.Bool.{Bool, true, false, not}
use mathlib.Core.List.{List, map}
use mathlib.Core.Path.{◌≡◌, refl, sym, subst, ap, ◌∙◌}
use native.Mathlib.Omega.{arith}
use borrow.Author.Tests.{eqb-true, eq-eqb}
use lib.Dec.{eqb}
use lib.ListN.{length}
use Rattle.rules.specs.Verdicts.{Verdict}
use Rattle.rules.specs.Verdicts.{Accepted, Refused}
use Rattle.rules.specs.Verdicts.{◌or_else◌, refuse_if}
use Rattle.rules.specs.Personality.{verdict_of}
use Rattle.rules.specs.Site.{times_in, site_of}
use Rattle.rules.specs.Timed.{TimedState, fresh_timed, timed_valid, timed_stepped}
use Rattle.rules.specs.Call.{handed_back, checks_by}
use Rattle.rules.specs.TimedCall.{timed_verdict, retime_checks_by, retime_verdict, retimed}
use Rattle.rules.specs.TimedLaws.{FreshIsValid, StepKeepsValid, RetimeKeepsValid}
use Rattle.rules.specs.Runs.{by_rules, step_call, accepted_steps, taken_from}
use Rattle.rules.specs.DemandThree.{SafeRun, DemandThreeOf, DemandThree}
use Rattle.rules.specs.StepDemandThree.{SafeStepRun, StepDemandThreeOf, StepDemandThree}
use Rattle.rules.specs.OnceEach.{OnceEach, OnceEachOf, RunsStartOnceEach}
use Rattle.rules.specs.PhaseWaits.{WaitsMet, PlainWaitsMet, EveryWaitMetOf, EveryWaitMet, EveryPlainWaitMetOf, EveryPlainWaitMet}
use Rattle.rules.specs.Lamps.{LampsServed, LampsServedOf, RunsServeLamps}
use Rattle.state_timed.specs.TimedLayout.{timed_bytes, timed_encoded, timed_decoded, ProperTimed}
use Rattle.state_timed.proofs.TimedRoundTrips.{encoded-is-timed, decoded-encoded}
use Rattle.board_answers.specs.Answers.{packed, packed_verdict}
use Rattle.board_fresh.specs.FreshCall.{fresh_verdict, fresh_answer, fresh_after}
use Rattle.state_valid.specs.StateOf.{is_state_of}
use Rattle.board_step.specs.StepCall.{step_checks, stepped_in, step_answer, state_after, colours_after}
use Rattle.board_retime.specs.RetimeCall.{retime_checks, retime_answer, retime_after}
use Rattle.proof_runs.proofs.Chains.{checks-told}
use Rattle.proof_runs.proofs.Alike.{Alike, taken-alike}
use Rattle.proof_guarantees.proofs.Accepted.{fresh-is-valid, step-keeps-valid, retime-keeps-valid}
use Rattle.proof_guarantees.proofs.DemandThree.{demand-three}
use Rattle.proof_guarantees.proofs.StepDemandThree.{step-demand-three}
use Rattle.proof_guarantees.proofs.OnceEach.{runs-start-once-each}
use Rattle.proof_guarantees.proofs.PhaseWaits.{every-wait-met, every-plain-wait-met}
use Rattle.proof_lamps.proofs.Lamps.{runs-serve-lamps}
use Rattle.proof_board.specs.BoardRuns.{outcome_in, verdict_in, board, FreshAccepts, BoardRunsAlike, BoardRunsHold, BoardDemandThree, BoardStepDemandThree, BoardOnceEach, BoardWaitsMet, BoardPlainWaitsMet, BoardLampsServed}
use Rattle.proof_board.specs.ProperStates.{FreshTimedIsProper, TimedStepIsProper, RetimeIsProper}
use Rattle.proof_board.proofs.Answers.{read_back, outcome-back, retime-back}
use Rattle.proof_board.proofs.Proper.{fresh-timed-is-proper, timed-step-is-proper, retime-is-proper}

-- ── One call ──

module _ (b : List ℕ) (s : TimedState) (proper : ProperTimed s) where
  same_outcome : (inputs room : ℕ) → outcome_in (step_answer b (timed_encoded s) inputs room) ≡ by_rules.outcome b s inputs room
  unfolding step_answer step_checks stepped_in is_state_of by_rules checks_by
  same_outcome inputs room = rw (encoded-is-timed s, decoded-encoded s proper) (outcome-back b s inputs room _)

  handed-back : (v : Verdict) (new : TimedState) → handed_back v (timed_encoded new) (timed_encoded s) ≡ timed_encoded (handed_back v new s)
  unfolding handed_back
  handed-back (Ok _) new = refl
  handed-back (Err r) new = refl

  same_next : (inputs room : ℕ) → state_after b (timed_encoded s) inputs room ≡ timed_encoded (by_rules.next b s inputs room)
  unfolding state_after step_checks stepped_in is_state_of by_rules checks_by
  same_next inputs room = rw (encoded-is-timed s, decoded-encoded s proper) (handed-back (timed_verdict b s inputs room) _)

  same-buffer : (inputs : ℕ) (buffer : List ℕ) → colours_after b (timed_encoded s) inputs buffer ≡ by_rules.buffer b s inputs buffer
  unfolding colours_after step_checks stepped_in is_state_of by_rules checks_by
  same-buffer inputs buffer = rw (encoded-is-timed s, decoded-encoded s proper)

  same-verdict : (new : List ℕ) → verdict_in (retime_answer b (timed_encoded s) new) ≡ retime_verdict b s new
  unfolding retime_answer retime_checks is_state_of retime_checks_by
  same-verdict new = rw (encoded-is-timed s, decoded-encoded s proper) (retime-back b s new)

  same-retimed : (new : List ℕ) → retime_after b (timed_encoded s) new ≡ timed_encoded (by_rules.retimed b s new)
  unfolding retime_after retime_checks is_state_of by_rules retime_checks_by
  same-retimed new = rw (encoded-is-timed s, decoded-encoded s proper) (handed-back (retime_verdict b s new) (retimed s (times_in new)))

-- ── A list of calls ──

-- the state is valid and fits its bytes
abbrev Sure : List ℕ → TimedState → Type 0
Sure b s = (timed_valid (site_of b) s ≡ true) × ProperTimed s

module _ (b : List ℕ) (known : verdict_of b ≡ Accepted) where
  fresh-sure : Sure b (fresh_timed (site_of b))
  unfolding FreshIsValid FreshTimedIsProper
  fresh-sure = (fresh-is-valid b known, fresh-timed-is-proper b known)

  module _ (s : TimedState) (sure : Sure b s) where
    step-sure :
        (inputs room : ℕ) (v : Verdict) →
        timed_verdict b s inputs room ≡ v →
        Sure b (handed_back v (timed_stepped (site_of b) s inputs) s)
    unfolding checks_by handed_back StepKeepsValid TimedStepIsProper
    step-sure inputs room (Ok _) e =
        let wired = (checks-told b inputs room (timed_valid (site_of b) s) e).1 in
        (step-keeps-valid b known s sure.0 inputs wired, timed-step-is-proper b known s sure.0 sure.1 inputs wired)
    step-sure inputs room (Err r) e = sure

    retime-sure : (new : List ℕ) (v : Verdict) → retime_verdict b s new ≡ v → Sure b (handed_back v (retimed s (times_in new)) s)
    unfolding handed_back RetimeKeepsValid RetimeIsProper
    retime-sure new (Ok _) e = (retime-keeps-valid b known s sure.0 new e, retime-is-proper b known s sure.0 sure.1 new e)
    retime-sure new (Err r) e = sure

  -- the bytes are those of such a state
  abbrev Holding : List ℕ → TimedState → Type 0
  Holding bytes s = (bytes ≡ timed_encoded s) × Sure b s

  module _ (buffer bytes : List ℕ) (s : TimedState) (held : Holding bytes s) where
    decoded : timed_decoded bytes ≡ s
    decoded = ap timed_decoded held.0 ∙ decoded-encoded s held.1.1

    alike : Alike (board buffer) by_rules b Holding bytes s
    unfolding board by_rules
    alike =
        record {
          seen = ap (λ (s : TimedState). s.core) decoded;
          ruling = ap (λ (s : TimedState). s.ruling) decoded;
          times_wait = ap (λ (s : TimedState). s.waiting.present) decoded;
          outcome = λ inputs room. rw held.0 (same_outcome b s held.1.1 inputs room);
          buffer = λ inputs colours. rw held.0 (same-buffer b s held.1.1 inputs colours);
          next = λ inputs room. (
            rw held.0 (same_next b s held.1.1 inputs room),
            step-sure s held.1 inputs room (timed_verdict b s inputs room) refl,
          );
          retime_verdict = λ new. rw held.0 (same-verdict b s held.1.1 new);
          retimed = λ new. (
            rw held.0 (same-retimed b s held.1.1 new),
            retime-sure s held.1 new (retime_verdict b s new) refl,
          );
        }

-- ── From the fresh state ──

answer-zero : (fits : Bool) → packed_verdict (refuse_if (not fits) 13 0) ≡ 0 → fits ≡ true
unfolding packed_verdict packed refuse_if
answer-zero true e = refl
answer-zero false e = absurd (omega (arith, e))

pub fresh-accepts : FreshAccepts
unfolding FreshAccepts fresh_answer fresh_verdict packed_verdict packed refuse_if ◌or_else◌
fresh-accepts b buffer known = (
  λ e. eqb-true (length buffer) timed_bytes (answer-zero (eqb (length buffer) timed_bytes) (rw known at e)),
  λ e. rw (known, eq-eqb (length buffer) timed_bytes e),
)

-- such a buffer then holds the bytes of the fresh state
pub fresh-bytes :
    (b buffer : List ℕ) →
    verdict_of b ≡ Accepted →
    length buffer ≡ timed_bytes →
    fresh_after b buffer ≡ timed_encoded (fresh_timed (site_of b))
unfolding fresh_after fresh_verdict handed_back refuse_if ◌or_else◌
fresh-bytes b buffer known long = rw (known, eq-eqb (length buffer) timed_bytes long)

pub board-runs-alike : BoardRunsAlike
unfolding BoardRunsAlike board by_rules
board-runs-alike buffer long b known calls =
    taken-alike (board buffer) by_rules b (Holding b known) (alike b known buffer) calls (fresh_after b buffer) (fresh_timed (site_of b))
    (fresh-bytes b buffer known long, fresh-sure b known)

module _ (buffer b : List ℕ) (read : (board buffer).verdict b ≡ Accepted) where
  accepted-read : verdict_of b ≡ Accepted
  unfolding board
  accepted-read = sym (read_back b) ∙ read

pub board-runs-hold : BoardRunsHold
unfolding BoardRunsHold BoardRunsAlike by_rules
board-runs-hold Claim holds buffer long b read calls =
    let known = accepted-read buffer b read in
    subst (Claim b) (sym (board-runs-alike buffer long b known calls)) (holds b known calls)

-- ── The demand ──

pub board-demand-three : BoardDemandThree
unfolding BoardDemandThree BoardRunsHold DemandThree DemandThreeOf board by_rules
board-demand-three buffer long b read calls =
    subst (λ (reading : List ℕ → Verdict). SafeRun reading b (taken_from (board buffer) b (fresh_after b buffer) calls)) (λ i new. sym (read_back new) i)
    (board-runs-hold (SafeRun verdict_of) demand-three buffer long b read calls)

pub board-once-each : BoardOnceEach
unfolding BoardOnceEach BoardRunsHold RunsStartOnceEach OnceEachOf
board-once-each = board-runs-hold (λ b calls. OnceEach (site_of b) (accepted_steps calls)) runs-start-once-each

pub board-waits-met : BoardWaitsMet
unfolding BoardWaitsMet BoardRunsHold EveryWaitMet EveryWaitMetOf
board-waits-met = board-runs-hold (λ b calls. WaitsMet (site_of b) (accepted_steps calls)) every-wait-met

pub board-plain-waits-met : BoardPlainWaitsMet
unfolding BoardPlainWaitsMet BoardRunsHold EveryPlainWaitMet EveryPlainWaitMetOf
board-plain-waits-met = board-runs-hold (λ b calls. PlainWaitsMet (site_of b) (accepted_steps calls)) every-plain-wait-met

pub board-lamps-served : BoardLampsServed
unfolding BoardLampsServed BoardRunsHold RunsServeLamps LampsServedOf
board-lamps-served = board-runs-hold (λ b calls. LampsServed (site_of b) (accepted_steps calls)) runs-serve-lamps

pub board-step-demand-three : BoardStepDemandThree
unfolding BoardStepDemandThree BoardRunsAlike StepDemandThree StepDemandThreeOf by_rules
board-step-demand-three buffer long b read calls =
    let known = accepted-read buffer b read in
    subst (SafeStepRun (site_of b)) (sym (board-runs-alike buffer long b known (map step_call calls))) (step-demand-three b known calls)
