-- From an accepted placing to the taking out, the step and retiming calls on a record are a run of such calls alone.
use Rattle.std.specs.Prelude.{Ok, Err}
use Prim.Native.Nat.{ℕ, ◌≤◌}
use mathlib.Core.Bool.{not, ◌&&◌}
use mathlib.Core.List.{List, [], ◌∷◌}
use mathlib.Core.Logic.{inl}
use mathlib.Core.Path.{◌≡◌, refl, sym, subst, ap, ◌∙◌}
use native.Mathlib.Omega.{arith}
use lib.ListN.{length, set, replicate, length-set, length-replicate}
use lib.Seq.{get_or-set_same}
use Rattle.rules.specs.Verdicts.{Verdict}
use Rattle.rules.specs.Verdicts.{Accepted, Refused}
use Rattle.rules.specs.Verdicts.{refuse_if}
use Rattle.rules.specs.Personality.{verdict_of}
use Rattle.rules.specs.Site.{site_of}
use Rattle.rules.specs.Runs.{by_rules, Call, Taken, step_taken, retime_taken, taken_from, accepted_steps}
use Rattle.rules.specs.DemandThree.{SafeRun, DemandThree, DemandThreeOf}
use Rattle.rules.specs.OnceEach.{OnceEach, OnceEachOf, RunsStartOnceEach}
use Rattle.rules.specs.PhaseWaits.{WaitsMet, PlainWaitsMet, EveryWaitMetOf, EveryWaitMet, EveryPlainWaitMetOf, EveryPlainWaitMet}
use Rattle.rules.specs.Lamps.{LampsServed, LampsServedOf, RunsServeLamps}
use Rattle.state_timed.specs.TimedLayout.{timed_bytes, timed_decoded}
use Rattle.board_answers.specs.Answers.{packed, packed_verdict}
use Rattle.board_step.specs.StepCall.{colours_after}
use Rattle.proof_acceptance.proofs.Refusals.{Refusals, if-refusals, or-refusals, personality-refusals}
use Rattle.proof_acceptance.proofs.Places.{number_fits}
use Rattle.proof_guarantees.proofs.DemandThree.{demand-three}
use Rattle.proof_guarantees.proofs.OnceEach.{runs-start-once-each}
use Rattle.proof_guarantees.proofs.PhaseWaits.{every-wait-met, every-plain-wait-met}
use Rattle.proof_lamps.proofs.Lamps.{runs-serve-lamps}
use Rattle.proof_board.specs.BoardRuns.{outcome_in, verdict_in, board, BoardRunsAlike}
use Rattle.proof_board.proofs.BoardRuns.{fresh-bytes, board-runs-alike}
use Rattle.cabinet_records.specs.declared.Record.{Record}
use Rattle.cabinet_records.specs.Cabinet.{free_record, holding, record_of, outputs_of, outputs_in, fresh_bytes, placing_verdict, Returned, returned_for, placing, doing}
use Rattle.cabinet_records.proofs.Checks.{row-length, record-below, placing-read, placing-there, placing-within}
use Rattle.cabinet_records.proofs.Outputs.{colours-length, shown-written}
use Rattle.proof_cabinet.specs.Operations.{operating}
use Rattle.proof_cabinet.specs.CabinetRuns.{CabinetCall, OwnCall, steps, retimes, nothing, call_on, alone_for, alone_at, seen_for, seen_at, StaysIn, CabinetRuns, CabinetRunsHold, CabinetDemandThree, CabinetOnceEach, CabinetWaitsMet, CabinetLampsServed}
use Rattle.proof_cabinet.proofs.Placed.{Did, did, Placed, next_for, own-outputs, own-state, own-stepped, own-retimed, placed-next}

-- ── An accepted placing ──

-- a refusal has a number above 0
abbrev Above : ℕ → ℕ → Type 0
Above number place = 1 ≤ number

placing-number : (row : List Record) (out b : List ℕ) (k first : ℕ) → Refusals Above (placing_verdict row out b k first)
unfolding placing_verdict
placing-number row out b k first =
    or-refusals Above (verdict_of b) _ (personality-refusals b Above (λ n p known l. (number_fits b n p (inl (known, l))).0))
    (λ e. or-refusals Above (refuse_if _ 24 0) _ (if-refusals Above _ 24 0 (omega arith))
    (λ f. or-refusals Above (refuse_if _ 25 0) _ (if-refusals Above _ 25 0 (omega arith)) (λ g. if-refusals Above _ 14 0 (omega arith))))

accepted-for :
    (v : Verdict) (done : Returned) (row : List Record) (out : List ℕ) →
    Refusals Above v →
    (returned_for v done row out).answer ≡ 0 →
    v ≡ Accepted
unfolding returned_for packed_verdict packed
accepted-for (Ok _) done row out some e = refl
accepted-for (Err r) done row out some e = absurd (omega (arith, e, some r.number r.place refl))

pub placing-accepted :
    (row : List Record) (out b : List ℕ) (k first : ℕ) →
    (placing row out b k first).answer ≡ 0 →
    placing_verdict row out b k first ≡ Accepted
unfolding placing
placing-accepted row out b k first e = accepted-for (placing_verdict row out b k first) _ row out (placing-number row out b k first) e

module _ (row : List Record) (out b : List ℕ) (k first : ℕ) (e : placing_verdict row out b k first ≡ Accepted) where
  pub placed_row : (placing row out b k first).row ≡ set row k (holding b first (fresh_bytes b))
  unfolding placing returned_for
  placed_row = rw e

  pub placed-fresh : Placed b k first (placing row out b k first).row (fresh_bytes b)
  unfolding record_of
  placed-fresh =
      let new = holding b first (fresh_bytes b) in
      let there = placing-there row out b k first e in
      let four = row-length row k there in
      let below = record-below row k there in
      record {
        accepted = placing-read row out b k first e;
        within = placing-within row out b k first e;
        below = below;
        four = ap length placed_row ∙ length-set row k new ∙ four;
        at = ap (λ (r : List Record). record_of r k) placed_row ∙ get_or-set_same row k new free_record (omega (arith, four, below));
      }

-- ── The list of calls ──

module _ (b : List ℕ) (k first : ℕ) (buffer : List ℕ) where
  -- one call, and what is seen of the calls after it
  module _
      (row : List Record)
      (s : List ℕ)
      (placed : Placed b k first row s)
      (out : List ℕ)
      (done : Returned)
      (later : List Taken)
      (rest : List Call)
    where
      same-call :
          (call : OwnCall) →
          Did k row out call done →
          Placed b k first done.row (next_for b k first s out call) →
          later ≡ taken_from (board buffer) b (next_for b k first s out call) rest →
          seen_for call (record_of row k) (record_of done.row k) done.answer out done.outputs later
          ≡ taken_from (board buffer) b s (alone_for call (outputs_in out first (outputs_of b)) rest)
      unfolding seen_for alone_for taken_from board
      same-call (steps inputs) made next same =
          let n = outputs_of b in
          let part = outputs_in out first n in
          let alone = made ∙ own-stepped b k first row s placed out inputs in
          let own = own-outputs b k first row s placed in
          let before = ap timed_decoded (own-state b k first row s placed) in
          let after = ap timed_decoded (own-state b k first done.row (next_for b k first s out (steps inputs)) next) in
          let shown =
          own done.outputs
          ∙ ap (λ (d : Returned). outputs_in d.outputs first n) alone
          ∙ shown-written out first n placed.within (colours_after b s inputs part) (colours-length b s inputs part) in
          λ i.
          step_taken
          (record {
            before = (before i).core;
            inputs = inputs;
            room = length (own out i);
            outcome = outcome_in (alone i).answer;
            after = (after i).core;
            shown = shown i;
            ruling = (after i).ruling;
            changed = (before i).waiting.present && not (after i).waiting.present;
          })
          ∷ same i
      same-call (retimes new) made next same =
          let alone = made ∙ own-retimed b k first row s placed out new in
          λ i. retime_taken new (verdict_in (alone i).answer) ∷ same i
      same-call nothing made next same = same

  same-calls :
      (calls : List CabinetCall) (s : List ℕ) (row : List Record) →
      Placed b k first row s →
      StaysIn k row calls →
      seen_at k row calls ≡ taken_from (board buffer) b s (alone_at k first (outputs_of b) calls)
  unfolding seen_at alone_at taken_from
  same-calls [] s row placed stays = refl
  same-calls (c ∷ calls) s row placed stays =
      let out = c.outputs in
      let done = operating row out c.operation in
      let call = call_on k c.operation in
      let next = placed-next b k first row s placed c.operation out stays.0 in
      same-call row s placed out done (seen_at k done.row calls) (alone_at k first (outputs_of b) calls) call
      (did k row out c.operation)
      next
      (same-calls calls (next_for b k first s out call) done.row next stays.1)

-- ── The theorems ──

pub cabinet-runs : CabinetRuns
unfolding CabinetRuns operating doing board
cabinet-runs row out b k first e calls stays buffer long =
    let placed = placed-fresh row out b k first (placing-accepted row out b k first e) in
    let alone = alone_at k first (outputs_of b) calls in
    same-calls b k first buffer calls (fresh_bytes b) (placing row out b k first).row placed stays
    ∙ ap (λ (state : List ℕ). taken_from (board buffer) b state alone) (sym (fresh-bytes b buffer placed.accepted long))

pub cabinet-runs-hold : CabinetRunsHold
unfolding CabinetRunsHold CabinetRuns BoardRunsAlike operating doing by_rules
cabinet-runs-hold Claim holds row out b k first e calls stays =
    let zeros : List ℕ = replicate timed_bytes 0 in
    let long = length-replicate {A = ℕ} timed_bytes 0 in
    let accepted = (placed-fresh row out b k first (placing-accepted row out b k first e)).accepted in
    let alone = alone_at k first (outputs_of b) calls in
    let same = cabinet-runs row out b k first e calls stays zeros long ∙ board-runs-alike zeros long b accepted alone in
    subst (Claim b) (sym same) (holds b accepted alone)

pub cabinet-demand-three : CabinetDemandThree
unfolding CabinetDemandThree CabinetRunsHold DemandThree DemandThreeOf by_rules
cabinet-demand-three = cabinet-runs-hold (SafeRun verdict_of) demand-three

pub cabinet-once-each : CabinetOnceEach
unfolding CabinetOnceEach CabinetRunsHold RunsStartOnceEach OnceEachOf
cabinet-once-each = cabinet-runs-hold (λ b made. OnceEach (site_of b) (accepted_steps made)) runs-start-once-each

pub cabinet-waits-met : CabinetWaitsMet
unfolding CabinetWaitsMet CabinetRunsHold EveryWaitMet EveryWaitMetOf EveryPlainWaitMet EveryPlainWaitMetOf
cabinet-waits-met =
    cabinet-runs-hold (λ b made. WaitsMet (site_of b) (accepted_steps made) × PlainWaitsMet (site_of b) (accepted_steps made))
    (λ b known calls. (every-wait-met b known calls, every-plain-wait-met b known calls))

pub cabinet-lamps-served : CabinetLampsServed
unfolding CabinetLampsServed CabinetRunsHold RunsServeLamps LampsServedOf
cabinet-lamps-served = cabinet-runs-hold (λ b made. LampsServed (site_of b) (accepted_steps made)) runs-serve-lamps
