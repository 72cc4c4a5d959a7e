-- The theorem of the cabinet, stated of the calls that a caller links. The first call gets any row whatever, each later one the row that the call
-- before returned. New times may be handed over between the calls. The output buffers may have any length and content.
use Rattle.std.specs.Prelude.{ℕ, Bool, true, false, not, ◌&&◌, List, [], ◌∷◌, ◌≡◌, eqb, length, replicate, if◌then◌else◌}
use Rattle.rules.specs.Personality.{verdict_of}
use Rattle.rules.specs.Site.{site_of}
use Rattle.rules.specs.Colours.{red}
use Rattle.rules.specs.Runs.{by_rules, Call, step_call, retime_call, Step, Taken, step_taken, retime_taken, taken_from, accepted_steps, OfEveryRun}
use Rattle.rules.specs.DemandThree.{SafeRun}
use Rattle.rules.specs.OnceEach.{OnceEach}
use Rattle.rules.specs.PhaseWaits.{WaitsMet, PlainWaitsMet}
use Rattle.rules.specs.Lamps.{LampsServed}
use Rattle.state_timed.specs.TimedLayout.{timed_decoded}
use Rattle.board_step.specs.StepCall.{state_after}
use Rattle.board_retime.specs.RetimeCall.{retime_after}
use Rattle.proof_board.specs.BoardRuns.{outcome_in, verdict_in, OfEveryBuffer}
use Rattle.cabinet_records.specs.declared.Record.{Record}
use Rattle.cabinet_records.specs.Cabinet.{is_free, personality_of, record_of, outputs_of, has_outputs, meet, outputs_in, own_outputs, fresh_bytes, Returned, place_site, step_site, take_out}
use Rattle.proof_cabinet.specs.Operations.{Operation, cabinet_act, retime_site, operating}

-- ── Calls ──

-- one operation, with the output buffer; new times do not use it
pub record CabinetCall : Type 0 where
  pub operation : Operation
  pub outputs : List ℕ

-- the call on record k that an operation makes: a step with these input bits, new times with these bytes, or nothing
pub data OwnCall : Type 0 where
  steps : ℕ → OwnCall
  retimes : List ℕ → OwnCall
  nothing : OwnCall

unfoldable pub call_on : ℕ → Operation → OwnCall
call_on k (cabinet_act (place_site b j first)) = nothing
call_on k (cabinet_act (step_site j inputs)) = if eqb j k then steps inputs else nothing
call_on k (cabinet_act (take_out j)) = nothing
call_on k (retime_site j new) = if eqb j k then retimes new else nothing

-- the operation takes record k out, if it is accepted
unfoldable pub takes_out : ℕ → Operation → Bool
takes_out k (cabinet_act (place_site b j first)) = false
takes_out k (cabinet_act (step_site j inputs)) = false
takes_out k (cabinet_act (take_out j)) = eqb j k
takes_out k (retime_site j new) = false

-- the step and retiming calls on record k, made alone: the colour buffer of a step is the record's outputs
unfoldable pub alone_for : OwnCall → List ℕ → List Call → List Call
alone_for (steps inputs) buffer later = step_call (record { inputs = inputs; buffer = buffer }) ∷ later
alone_for (retimes new) buffer later = retime_call new ∷ later
alone_for nothing buffer later = later

unfoldable pub alone_at : ℕ → ℕ → ℕ → List CabinetCall → List Call
alone_at k first count [] = []
alone_at k first count (c ∷ calls) =
    alone_for (call_on k c.operation) (outputs_in c.outputs first count) (alone_at k first count calls)

-- the bytes of the state that such calls leave
unfoldable pub state_alone : List ℕ → List ℕ → List Call → List ℕ
state_alone b s [] = s
state_alone b s (step_call c ∷ calls) = state_alone b (state_after b s c.inputs (length c.buffer)) calls
state_alone b s (retime_call new ∷ calls) = state_alone b (retime_after b s new) calls

-- A call as its caller sees it at a record: in the answer, in the record's state before and after it, and in the record's outputs.
unfoldable pub seen_for : OwnCall → Record → Record → ℕ → List ℕ → List ℕ → List Taken → List Taken
seen_for (steps inputs) before after answer out shown later =
    let old = timed_decoded before.state in
    let new = timed_decoded after.state in
    step_taken
    (record {
      before = old.core;
      inputs = inputs;
      room = length (own_outputs before out);
      outcome = outcome_in answer;
      after = new.core;
      shown = own_outputs before shown;
      ruling = new.ruling;
      changed = old.waiting.present && not new.waiting.present;
    })
    ∷ later
seen_for (retimes new) before after answer out shown later = retime_taken new (verdict_in answer) ∷ later
seen_for nothing before after answer out shown later = later

-- what the last of the steps shows; what is given if there is none
unfoldable pub last_shown : List ℕ → List Step → List ℕ
last_shown none [] = none
last_shown none (step ∷ later) = last_shown step.shown later

-- ── Outputs that are not shared ──

-- the record has none of the outputs
unfoldable pub Clear : ℕ → ℕ → Record → Type 0
Clear first count r = has_outputs r ≡ true → meet first count r.first (outputs_of (personality_of r)) ≡ false

-- no record other than k has one of them
unfoldable pub Apart : ℕ → ℕ → ℕ → List Record → Type 0
Apart k first count row = (j : ℕ) → (j ≡ k → ⊥) → Clear first count (record_of row j)

-- ── Lists of calls ──

-- A list of calls, each with the row that the call before returned: the step and retiming calls on record k, as their caller sees them.
unfoldable pub seen_at : ℕ → List Record → List CabinetCall → List Taken
seen_at k row [] = []
seen_at k row (c ∷ calls) =
    let done = operating row c.outputs c.operation in
    seen_for (call_on k c.operation) (record_of row k) (record_of done.row k) done.answer c.outputs done.outputs
    (seen_at k done.row calls)

-- no call of the list takes record k out; a refused one does not
abbrev pub StaysIn : ℕ → List Record → List CabinetCall → Type 0
StaysIn k row [] = Unit {0}
StaysIn k row (c ∷ calls) =
    let done = operating row c.outputs c.operation in
    (takes_out k c.operation ≡ true → done.answer ≡ 0 → ⊥) × StaysIn k done.row calls

-- the row after a list of calls
unfoldable pub row_after : List Record → List CabinetCall → List Record
row_after row [] = row
row_after row (c ∷ calls) = row_after (operating row c.outputs c.operation).row calls

-- the list of calls in which each also gets the outputs that the call before returned, and the outputs after the last of them
unfoldable pub linked : List Record → List ℕ → List Operation → List CabinetCall
linked row out [] = []
linked row out (operation ∷ operations) =
    let done = operating row out operation in
    record { operation = operation; outputs = out } ∷ linked done.row done.outputs operations

unfoldable pub outputs_after : List Record → List ℕ → List Operation → List ℕ
outputs_after row out [] = out
outputs_after row out (operation ∷ operations) =
    let done = operating row out operation in
    outputs_after done.row done.outputs operations

-- ── The statements: from an accepted placing in any row, as long as the site is not taken out ──

-- a claim about what the placing returned, and the calls after it
abbrev pub OfEveryPlacing : (List ℕ → ℕ → ℕ → Returned → Type 0) → Type 0
OfEveryPlacing Claim =
    (row : List Record) (out b : List ℕ) (k first : ℕ) →
    let placed = operating row out (cabinet_act (place_site b k first)) in
    placed.answer ≡ 0 →
    Claim b k first placed

-- The step and retiming calls on the record have the answers, states and colours of such calls on its personality alone, from the fresh state in
-- any state buffer.
unfoldable pub CabinetRuns : Type 0
CabinetRuns =
    OfEveryPlacing
    (λ b k first placed.
    (calls : List CabinetCall) →
    StaysIn k placed.row calls →
    OfEveryBuffer
    (λ library. seen_at k placed.row calls ≡ taken_from library b (library.fresh b) (alone_at k first (outputs_of b) calls)))

-- So what holds of every run of the rules holds of every site in the cabinet,
unfoldable pub CabinetRunsHold : Type 1
CabinetRunsHold =
    (Claim : List ℕ → List Taken → Type 0) →
    OfEveryRun by_rules Claim →
    OfEveryPlacing
    (λ b k first placed.
    (calls : List CabinetCall) →
    StaysIn k placed.row calls →
    Claim b (seen_at k placed.row calls))

-- and demand 3 does.
unfoldable pub CabinetDemandThree : Type 0
CabinetDemandThree =
    OfEveryPlacing
    (λ b k first placed.
    (calls : List CabinetCall) →
    StaysIn k placed.row calls →
    SafeRun verdict_of b (seen_at k placed.row calls))

-- While a demand waits, no phase starts twice.
unfoldable pub CabinetOnceEach : Type 0
CabinetOnceEach =
    OfEveryPlacing
    (λ b k first placed.
    (calls : List CabinetCall) →
    StaysIn k placed.row calls →
    OnceEach (site_of b) (accepted_steps (seen_at k placed.row calls)))

-- Every wait of a phase and of a movement is met, through changes of times and through none.
unfoldable pub CabinetWaitsMet : Type 0
CabinetWaitsMet =
    OfEveryPlacing
    (λ b k first placed.
    (calls : List CabinetCall) →
    StaysIn k placed.row calls →
    let steps = accepted_steps (seen_at k placed.row calls) in
    WaitsMet (site_of b) steps × PlainWaitsMet (site_of b) steps)

-- Lamps are served: what is green in the site's state is green in its outputs, it lasts, and demands are met by it.
unfoldable pub CabinetLampsServed : Type 0
CabinetLampsServed =
    OfEveryPlacing
    (λ b k first placed.
    (calls : List CabinetCall) →
    StaysIn k placed.row calls →
    LampsServed (site_of b) (accepted_steps (seen_at k placed.row calls)))

-- The record holds what was placed, with the bytes of the state that the calls alone would have left.
unfoldable pub PlacedHolds : Type 0
PlacedHolds =
    OfEveryPlacing
    (λ b k first placed.
    (calls : List CabinetCall) →
    StaysIn k placed.row calls →
    let r = record_of (row_after placed.row calls) k in
    (is_free r ≡ false)
    × (r.first ≡ first)
    × (personality_of r ≡ b)
    × (r.state ≡ state_alone b (fresh_bytes b) (alone_at k first (outputs_of b) calls)))

-- It shares no output with another record whose personality would be accepted.
unfoldable pub PlacedApart : Type 0
PlacedApart =
    OfEveryPlacing
    (λ b k first placed.
    (calls : List CabinetCall) →
    StaysIn k placed.row calls →
    Apart k first (outputs_of b) (row_after placed.row calls))

-- If each call gets the outputs that the call before returned, the site's outputs are those of its last accepted step, or red if there was none.
unfoldable pub PlacedShows : Type 0
PlacedShows =
    OfEveryPlacing
    (λ b k first placed.
    (operations : List Operation) →
    let calls = linked placed.row placed.outputs operations in
    StaysIn k placed.row calls →
    outputs_in (outputs_after placed.row placed.outputs operations) first (outputs_of b)
    ≡ last_shown (replicate (outputs_of b) red) (accepted_steps (seen_at k placed.row calls)))
