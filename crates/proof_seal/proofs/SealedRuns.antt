-- Each call of the library leaves the bytes of a valid state, so every state of a run can be sealed; and a run of two parts goes on from the state
-- that the first part leaves, which is what is resumed.
use Rattle.std.specs.Prelude.{Ok, Err}
use Prim.Native.Nat.{ℕ}
use mathlib.Core.Bool.{true}
use mathlib.Core.List.{List, [], ◌∷◌}
use mathlib.Core.Path.{◌≡◌, refl, subst⁻¹}
use lib.ListN.{length}
use Rattle.rules.specs.Verdicts.{Verdict}
use Rattle.rules.specs.Verdicts.{Accepted, Refused}
use Rattle.rules.specs.Personality.{verdict_of}
use Rattle.rules.specs.Site.{times_in, site_of}
use Rattle.rules.specs.Timed.{TimedState, fresh_timed, timed_valid, timed_stepped}
use Rattle.rules.specs.Call.{handed_back, checks_by}
use Rattle.rules.specs.TimedCall.{timed_verdict, retime_checks_by, retime_verdict, retimed}
use Rattle.rules.specs.TimedLaws.{FreshIsValid, StepKeepsValid, RetimeKeepsValid}
use Rattle.rules.specs.Runs.{Call, step_call, retime_call, left_by}
use Rattle.proof_runs.proofs.Chains.{checks-told}
use Rattle.proof_runs.proofs.Parts.{taken-on, left-on}
use Rattle.proof_guarantees.proofs.Accepted.{fresh-is-valid, step-keeps-valid, retime-keeps-valid}
use Rattle.state_timed.specs.TimedLayout.{timed_encoded, ProperTimed}
use Rattle.state_timed.proofs.TimedRoundTrips.{encoded-is-timed, decoded-encoded}
use Rattle.board_step.specs.StepCall.{step_checks, stepped_in, state_after}
use Rattle.board_retime.specs.RetimeCall.{retime_checks, retime_after}
use Rattle.state_valid.specs.StateOf.{is_state_of}
use Rattle.proof_board.specs.BoardRuns.{board}
use Rattle.proof_board.specs.ProperStates.{FreshTimedIsProper, TimedStepIsProper, RetimeIsProper}
use Rattle.proof_board.proofs.Proper.{fresh-timed-is-proper, timed-step-is-proper, retime-is-proper}
use Rattle.proof_board.proofs.BoardRuns.{fresh-bytes}
use Rattle.proof_seal.specs.SealLaws.{Savable, ResumeGivesBack}
use Rattle.proof_seal.specs.SealedRuns.{RunsCanBeSealed, SealedRunsGoOn}
use Rattle.proof_seal.proofs.SealLaws.{resume-gives-back}

-- ── Each call leaves a valid state that fits its bytes ──

record Sure (b : List ℕ) (s : TimedState) : Type 0 where
  valid : timed_valid (site_of b) s ≡ true
  proper : ProperTimed s

-- the bytes are those of such a state
record Left (b bytes : List ℕ) : Type 0 where
  state : TimedState
  encoded : bytes ≡ timed_encoded state
  sure : Sure b state

module _ (b : List ℕ) (accepted : verdict_of b ≡ Accepted) where
  left-savable : (bytes : List ℕ) → Left b bytes → Savable b bytes
  unfolding is_state_of
  left-savable bytes left =
      record {
        accepted = accepted;
        valid =
            rw (left.encoded, encoded-is-timed left.state, decoded-encoded left.state left.sure.proper) left.sure.valid;
      }

  fresh-left : Left b (timed_encoded (fresh_timed (site_of b)))
  unfolding FreshIsValid FreshTimedIsProper
  fresh-left = record {
    state = fresh_timed (site_of b);
    encoded = refl;
    sure = record { valid = fresh-is-valid b accepted; proper = fresh-timed-is-proper b accepted };
  }

  module _ (s : TimedState) (sure : Sure b s) where
    unmoved : Left b (timed_encoded s)
    unmoved = record { state = s; encoded = refl; sure = sure }

    stepped : (inputs room : ℕ) → timed_verdict b s inputs room ≡ Accepted → Sure b (timed_stepped (site_of b) s inputs)
    unfolding checks_by StepKeepsValid TimedStepIsProper
    stepped inputs room e =
        let wired = (checks-told b inputs room (timed_valid (site_of b) s) e).1 in
        record {
          valid = step-keeps-valid b accepted s sure.valid inputs wired;
          proper = timed-step-is-proper b accepted s sure.valid sure.proper inputs wired;
        }

    step_left : (inputs room : ℕ) → Left b (state_after b (timed_encoded s) inputs room)
    unfolding state_after step_checks stepped_in is_state_of checks_by handed_back
    step_left inputs room =
        rw (encoded-is-timed s, decoded-encoded s sure.proper) (by (timed_verdict b s inputs room) refl)
      where
        by : (v : Verdict) → timed_verdict b s inputs room ≡ v → Left b (handed_back v (timed_encoded (timed_stepped (site_of b) s inputs)) (timed_encoded s))
        by (Ok _) e = record { state = timed_stepped (site_of b) s inputs; encoded = refl; sure = stepped inputs room e }
        by (Err r) e = unmoved

    retimed-sure : (new : List ℕ) → retime_verdict b s new ≡ Accepted → Sure b (retimed s (times_in new))
    unfolding RetimeKeepsValid RetimeIsProper
    retimed-sure new e =
        record {
          valid = retime-keeps-valid b accepted s sure.valid new e;
          proper = retime-is-proper b accepted s sure.valid sure.proper new e;
        }

    retime-left : (new : List ℕ) → Left b (retime_after b (timed_encoded s) new)
    unfolding retime_after retime_checks is_state_of retime_checks_by handed_back
    retime-left new =
        rw (encoded-is-timed s, decoded-encoded s sure.proper) (by (retime_verdict b s new) refl)
      where
        by : (v : Verdict) → retime_verdict b s new ≡ v → Left b (handed_back v (timed_encoded (retimed s (times_in new))) (timed_encoded s))
        by (Ok _) e = record { state = retimed s (times_in new); encoded = refl; sure = retimed-sure new e }
        by (Err r) e = unmoved

  run-left : (buffer : List ℕ) (calls : List Call) (bytes : List ℕ) → Left b bytes → Left b (left_by (board buffer) b bytes calls)
  unfolding left_by board
  run-left buffer [] bytes left = left
  run-left buffer (step_call c ∷ calls) bytes left =
      run-left buffer calls _
      (subst⁻¹ (λ (x : List ℕ). Left b (state_after b x c.inputs (length c.buffer))) left.encoded
      (step_left left.state left.sure c.inputs (length c.buffer)))
  run-left buffer (retime_call new ∷ calls) bytes left =
      run-left buffer calls _
      (subst⁻¹ (λ (x : List ℕ). Left b (retime_after b x new)) left.encoded (retime-left left.state left.sure new))

pub runs-can-be-sealed : RunsCanBeSealed
unfolding RunsCanBeSealed board
runs-can-be-sealed buffer long b accepted calls =
    left-savable b accepted _
    (run-left b accepted buffer calls _ (subst⁻¹ (λ (x : List ℕ). Left b x) (fresh-bytes b buffer accepted long) (fresh-left b accepted)))

-- ── A run of two parts ──

pub sealed-runs-go-on : SealedRunsGoOn
unfolding SealedRunsGoOn RunsCanBeSealed ResumeGivesBack
sealed-runs-go-on buffer long b accepted calls later room old e f =
    let library = board buffer in
    let fresh = library.fresh b in
    let back = (resume-gives-back b (left_by library b fresh calls) (runs-can-be-sealed buffer long b accepted calls) room old e f).2 in
    (rw back (taken-on library b fresh calls later), rw back (left-on library b fresh calls later))
