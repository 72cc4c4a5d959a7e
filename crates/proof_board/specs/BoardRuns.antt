-- Demand 3 of the library that a buyer links: the same demand, said of the numbers that its calls answer and of the bytes that they leave in the
-- caller's buffers. The calls are step and retiming calls, in any order.
use Rattle.std.specs.Prelude.{ℕ, ◌/◌, ◌%◌, List, ◌≡◌, eqb, length, if◌then◌else◌}
use Rattle.rules.specs.Verdicts.{Outcome}
use Rattle.rules.specs.Verdicts.{Stepped, StepRefused}
use Rattle.rules.specs.Verdicts.{Verdict}
use Rattle.rules.specs.Verdicts.{Accepted, Refused}
use Rattle.rules.specs.Personality.{verdict_of}
use Rattle.rules.specs.Runs.{Controller, by_rules, Call, Taken, taken_from, OfEveryRun}
use Rattle.rules.specs.DemandThree.{DemandThreeOf}
use Rattle.rules.specs.StepDemandThree.{StepDemandThreeOf}
use Rattle.rules.specs.OnceEach.{OnceEachOf}
use Rattle.rules.specs.PhaseWaits.{EveryWaitMetOf, EveryPlainWaitMetOf}
use Rattle.rules.specs.Lamps.{LampsServedOf}
use Rattle.state_timed.specs.TimedLayout.{timed_bytes, timed_decoded}
use Rattle.board_answers.specs.Answers.{packed_verdict}
use Rattle.board_fresh.specs.FreshCall.{fresh_answer, fresh_after}
use Rattle.board_step.specs.StepCall.{step_answer, state_after, colours_after}
use Rattle.board_retime.specs.RetimeCall.{retime_answer, retime_after}

-- An answer as a caller reads it: the lowest byte is the number of the refusal, 0 if the call is accepted, and the rest is the place or the
-- wait bound.
unfoldable pub outcome_in : ℕ → Outcome
outcome_in answer = if eqb (answer % 256) 0 then Stepped (answer / 256) else StepRefused (answer % 256) (answer / 256)

-- the same of an answer to reading or retiming
unfoldable pub verdict_in : ℕ → Verdict
verdict_in answer = if eqb (answer % 256) 0 then Accepted else Refused (answer % 256) (answer / 256)

-- The library as a controller, its state the caller's bytes: what `willowera_read`, `willowera_step` and `willowera_retime` answer, and what
-- `willowera_fresh`, `willowera_step` and `willowera_retime` leave in a buffer, by their contracts. What is seen of a state is what its bytes
-- hold.
unfoldable pub board : List ℕ → Controller (List ℕ)
board buffer =
    record {
      verdict = λ b. verdict_in (packed_verdict (verdict_of b));
      fresh = λ b. fresh_after b buffer;
      outcome = λ b state inputs room. outcome_in (step_answer b state inputs room);
      next = state_after;
      buffer = colours_after;
      retime_verdict = λ b state new. verdict_in (retime_answer b state new);
      retimed = retime_after;
      seen = λ state. (timed_decoded state).core;
      ruling = λ state. (timed_decoded state).ruling;
      times_wait = λ state. (timed_decoded state).waiting.present;
    }

-- a claim about the library with every buffer of the length of a state, whatever bytes it has
abbrev pub OfEveryBuffer : (Controller (List ℕ) → Type 0) → Type 0
OfEveryBuffer Claim = (buffer : List ℕ) → length buffer ≡ timed_bytes → Claim (board buffer)

-- these are the buffers that `willowera_fresh` accepts with an accepted personality
unfoldable pub FreshAccepts : Type 0
FreshAccepts =
    (b buffer : List ℕ) →
    verdict_of b ≡ Accepted →
    (fresh_answer b buffer ≡ 0 → length buffer ≡ timed_bytes) × (length buffer ≡ timed_bytes → fresh_answer b buffer ≡ 0)

-- ── The runs of the library are the runs of the rules ──

-- every list of calls is taken alike
unfoldable pub BoardRunsAlike : Type 0
BoardRunsAlike =
    OfEveryBuffer
    (λ library.
    (b : List ℕ) →
    verdict_of b ≡ Accepted →
    (calls : List Call) →
    taken_from library b (library.fresh b) calls ≡ taken_from by_rules b (by_rules.fresh b) calls)

-- so what holds of every run of the rules holds of every run of the library
unfoldable pub BoardRunsHold : Type 1
BoardRunsHold =
    (Claim : List ℕ → List Taken → Type 0) →
    OfEveryRun by_rules Claim →
    OfEveryBuffer (λ library. OfEveryRun library Claim)

-- ── The demand ──

unfoldable pub BoardDemandThree : Type 0
BoardDemandThree = OfEveryBuffer (λ library. DemandThreeOf library)

-- for lists of step calls alone
unfoldable pub BoardStepDemandThree : Type 0
BoardStepDemandThree = OfEveryBuffer (λ library. StepDemandThreeOf library)

-- while a demand waits, no phase starts twice
unfoldable pub BoardOnceEach : Type 0
BoardOnceEach = OfEveryBuffer (λ library. OnceEachOf library)

-- every wait of a phase and of a movement is met, through changes of times and through none
unfoldable pub BoardWaitsMet : Type 0
BoardWaitsMet = OfEveryBuffer (λ library. EveryWaitMetOf library)

unfoldable pub BoardPlainWaitsMet : Type 0
BoardPlainWaitsMet = OfEveryBuffer (λ library. EveryPlainWaitMetOf library)

-- lamps are served: what is green in the state is green in the caller's buffer, it lasts, and demands are met by it
unfoldable pub BoardLampsServed : Type 0
BoardLampsServed = OfEveryBuffer (λ library. LampsServedOf library)
