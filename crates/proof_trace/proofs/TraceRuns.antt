-- What the program prints is the trace of the rules. The text of a record is that of the library's step call, and only the last step ends the trace
-- before its input. The library takes every list of calls as the rules do, so their records print alike.
use Prim.Native.Nat.{ℕ, zero, suc, ◌+◌, ◌/◌, ◌%◌, ◌≤◌, ◌<◌}
use mathlib.Core.Bool.{Bool, true, false, ◌&&◌}
use mathlib.Core.List.{List, [], ◌++◌}
use mathlib.Core.Logic.{⊎_elim}
use mathlib.Core.Path.{◌≡◌, refl, sym, ap, ◌∙◌}
use native.Mathlib.Omega.{arith}
use lib.Dec.{eqb, ltb}
use lib.ListN.{length, take, drop}
use borrow.Author.Tests.{lt-ltb, le-ltb}
use Rattle.std.specs.Prelude.{if◌then◌else◌, Ok, Err}
use Rattle.laws.specs.Bytes.{eight_at}
use Rattle.laws.proofs.Booleans.{decided, never_both}
use Rattle.rules.specs.Verdicts.{Stepped, StepRefused}
use Rattle.rules.specs.Verdicts.{Verdict}
use Rattle.rules.specs.Verdicts.{Accepted, Refused}
use Rattle.rules.specs.Personality.{group_count, verdict_of}
use Rattle.rules.specs.Runs.{by_rules, step_of}
use Rattle.rules.specs.Trace.{Part, goes_on, refusal, ◌and_then◌, cut, verdict_part, personality_part, record_part, call_in, outcome_part, step_part, records_from, most_steps, trace_of}
use Rattle.state_timed.specs.TimedLayout.{timed_bytes}
use Rattle.board_step.specs.StepCall.{step_answer}
use Rattle.run_parts.specs.Parts.{state_for, answer_part, line_after, up_to_last, call_part, part_of, state_of}
use Rattle.proof_board.specs.BoardRuns.{outcome_in, board, BoardRunsAlike}
use Rattle.proof_board.proofs.BoardRuns.{board-runs-alike}
use Rattle.proof_trace.specs.TraceRuns.{records_printed, printed, TraceIsPrinted}
use Rattle.proof_trace.proofs.Told.{whole, ending, records-alike}

-- ── What comes later ──

by-more : (text : List ℕ) {a b : List ℕ} (more : Bool) → (more ≡ true → a ≡ b) → text ++ (if more then a else []) ≡ text ++ (if more then b else [])
by-more text true same = ap (λ (later : List ℕ). text ++ later) (same refl)
by-more text false same = refl

-- it counts only if the trace goes on
only-later : (part : Part) {a b : List ℕ} → (part.more ≡ true → a ≡ b) → part and_then a ≡ part and_then b
unfolding ◌and_then◌
only-later part same = by-more part.text part.more same

module _ (n : ℕ) (part : Part) where
  -- a step before the last
  not_last : n < most_steps → (later : List ℕ) → up_to_last n part and_then later ≡ part and_then later
  unfolding up_to_last ◌and_then◌
  not_last h later = rw (lt-ltb n most_steps h) (goes part.more)
    where
      goes : (more : Bool) → part.text ++ (if more && true then later else []) ≡ part.text ++ (if more then later else [])
      goes true = refl
      goes false = refl

  -- the last one
  at_last : most_steps ≤ n → (later : List ℕ) → up_to_last n part and_then later ≡ part and_then []
  unfolding up_to_last ◌and_then◌
  at_last h later = rw (le-ltb n most_steps h) (goes part.more)
    where
      goes : (more : Bool) → part.text ++ (if more && false then later else []) ≡ part.text ++ (if more then [] else [])
      goes true = refl
      goes false = refl

-- ── The records ──

module _ (b buffer : List ℕ) where
  -- an answer prints what its outcome prints
  by_number :
      (accepted : Bool) (number rest : ℕ) (line : List ℕ) →
      (if accepted then goes_on line else refusal number rest) ≡ outcome_part (if accepted then Stepped rest else StepRefused number rest) line
  unfolding outcome_part
  by_number true number rest line = refl
  by_number false number rest line = refl

  same-call :
      (old bytes : List ℕ) (n : ℕ) →
      answer_part (step_answer b old (eight_at bytes 0) 32) (line_after b old n (eight_at bytes 0))
      ≡ step_part (group_count b) n (step_of (board buffer) b old (call_in bytes))
  unfolding answer_part line_after step_part board outcome_in
  same-call old bytes n =
      let answer = step_answer b old (eight_at bytes 0) 32 in
      by_number (eqb (answer % 256) 0) (answer % 256) (answer / 256) (line_after b old n (eight_at bytes 0))

  -- one record, if what comes later prints alike
  record-printed :
      (n : ℕ) (old bytes a c : List ℕ) →
      (ltb (length bytes) 8 ≡ false → (part : Part) → up_to_last n part and_then a ≡ part and_then c) →
      part_of b old n bytes and_then a ≡ record_part bytes (step_part (group_count b) n (step_of (board buffer) b old (call_in bytes))) and_then c
  unfolding part_of call_part
  record-printed n old bytes a c later =
      ⊎_elim
      (λ (short : ltb (length bytes) 8 ≡ true). ending bytes _ a short ∙ sym (ending bytes _ c short))
      (λ (full : ltb (length bytes) 8 ≡ false).
      rw (whole bytes _ full, whole bytes _ full) (later full _ ∙ ap (λ (part : Part). part and_then c) (same-call old bytes n)))
      (decided (ltb (length bytes) 8))

  -- the records of the library, up to the last step
  records-printed :
      (most turns n : ℕ) (old input : List ℕ) →
      n + most ≡ most_steps →
      most < turns →
      records_printed b turns n old input ≡ records_from (board buffer) b (suc most) n old input
  unfolding records_printed records_from state_of board
  records-printed most zero n old input at reach = absurd (omega arith)
  records-printed zero (suc turns) n old input at reach =
      record-printed n old (take 8 input) _ _ (λ full part. at_last n part (omega arith) _)
  records-printed (suc most) (suc turns) n old input at reach =
      record-printed n old (take 8 input) _ _
      (λ full part.
      rw full
      (not_last n part (omega arith) _
      ∙ only-later part (λ e. records-printed most turns (suc n) _ (drop 8 input) (omega arith) (omega arith))))

-- ── The personality ──

goes-accepted : (v : Verdict) → (verdict_part v).more ≡ true → v ≡ Accepted
unfolding verdict_part
goes-accepted (Ok _) e = refl
goes-accepted (Err r) e = absurd (never_both e refl)

personality-accepted : (n : ℕ) (b : List ℕ) → (personality_part n b).more ≡ true → (ltb (length b) n ≡ false) × (verdict_of b ≡ Accepted)
unfolding personality_part cut
personality-accepted n b e =
    ⊎_elim
    (λ (short : ltb (length b) n ≡ true). absurd (never_both (rw short at e) refl))
    (λ (full : ltb (length b) n ≡ false). (full, goes-accepted (verdict_of b) (rw full at e)))
    (decided (ltb (length b) n))

module _ (b buffer : List ℕ) (turns : ℕ) (long : length buffer ≡ timed_bytes) (reach : most_steps ≤ turns) where
  accepted-printed :
      (n : ℕ) (input : List ℕ) →
      (ltb (length b) n ≡ false) × (verdict_of b ≡ Accepted) →
      records_printed b turns 1 (state_for n b buffer) input ≡ records_from by_rules b most_steps 1 (by_rules.fresh b) input
  unfolding state_for board by_rules BoardRunsAlike
  accepted-printed n input (full, known) =
      rw full
      (records-printed b buffer 35999 turns 1 ((board buffer).fresh b) input refl (omega arith)
      ∙ records-alike (board buffer) by_rules b ((board buffer).fresh b) (by_rules.fresh b) (board-runs-alike buffer long b known) most_steps 1 input)

pub trace-is-printed : TraceIsPrinted
unfolding TraceIsPrinted printed trace_of
trace-is-printed input buffer turns long reach =
    only-later _ (λ e. only-later _ (λ e. accepted-printed _ buffer turns long reach _ _ (personality-accepted _ _ e)))
