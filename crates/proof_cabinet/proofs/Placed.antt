-- A record that an accepted placing stored stays, except for its state, until it is taken out. A step of it and new times for it do what the call
-- does alone.
use Prim.Native.Nat.{ℕ, ◌+◌, ◌*◌, ◌-◌, ◌/◌, ◌%◌, ◌≤◌, ◌<◌}
use mathlib.Core.Bool.{Bool, true, false, true≢false}
use mathlib.Core.List.{List}
use mathlib.Core.Path.{◌≡◌, refl, sym, subst, ap, ◌∙◌}
use native.Mathlib.Omega.{arith}
use borrow.Author.Tests.{eqb-true, eqb-false, lt-ltb, le-ltb}
use lib.Dec.{eqb}
use lib.ListN.{length, set, replicate, length-set}
use lib.Seq.{get_or-set_same, take_at}
use Rattle.rules.specs.Verdicts.{Verdict}
use Rattle.rules.specs.Verdicts.{Accepted, Refused}
use Rattle.laws.specs.Bytes.{byte_at, two_at}
use Rattle.std.specs.Prelude.{if◌then◌else◌, Ok, Err}
use Rattle.rules.specs.Verdicts.{◌or_else◌, refuse_if}
use Rattle.rules.specs.Personality.{verdict_of}
use Rattle.rules.specs.Laws.{greatest_length}
use Rattle.board_step.specs.StepCall.{step_answer, state_after, colours_after}
use Rattle.board_retime.specs.RetimeCall.{retime_answer, retime_after}
use Rattle.cabinet_records.specs.declared.Record.{Record}
use Rattle.cabinet_records.specs.Cabinet.{record_count, output_count, is_free, length_of, personality_of, free_record, holding, with_state, record_of, has_record, outputs_of, past_last, outputs_in, written_at, own_outputs, placing_verdict, held_verdict, taking_verdict, Returned, returned_for, placing, stepped, stepping, taking_out, Act, place_site, step_site, take_out, doing}
use Rattle.cabinet_records.specs.CabinetLaws.{record_named, OthersStay}
use Rattle.cabinet_records.proofs.Checks.{placing-free}
use Rattle.cabinet_records.proofs.CabinetLaws.{others-stay}
use Rattle.proof_cabinet.specs.Operations.{retiming, Operation, cabinet_act, retime_site, operating, RetimingOthersStay}
use Rattle.proof_cabinet.specs.CabinetRuns.{OwnCall, steps, retimes, nothing, call_on, takes_out}
use Rattle.proof_cabinet.proofs.Retimings.{retiming-others-stay}

-- ── What an operation does that is a step of record k, or new times for it ──

module _ (k : ℕ) (row : List Record) (out : List ℕ) where
  abbrev pub Did : OwnCall → Returned → Type 0
  Did (steps inputs) done = done ≡ stepping row out k inputs
  Did (retimes new) done = done ≡ retiming row out k new
  Did nothing done = Unit {0}

  step-did : (j inputs : ℕ) (t : Bool) → eqb j k ≡ t → Did (if t then steps inputs else nothing) (stepping row out j inputs)
  step-did j inputs true e = ap (λ (i : ℕ). stepping row out i inputs) (eqb-true j k e)
  step-did j inputs false e = tt

  retime-did : (j : ℕ) (new : List ℕ) (t : Bool) → eqb j k ≡ t → Did (if t then retimes new else nothing) (retiming row out j new)
  retime-did j new true e = ap (λ (i : ℕ). retiming row out i new) (eqb-true j k e)
  retime-did j new false e = tt

  pub did : (operation : Operation) → Did (call_on k operation) (operating row out operation)
  unfolding call_on operating doing
  did (cabinet_act (place_site c j g)) = tt
  did (cabinet_act (step_site j inputs)) = step-did j inputs (eqb j k) refl
  did (cabinet_act (take_out j)) = tt
  did (retime_site j new) = retime-did j new (eqb j k) refl

-- ── A placed record ──

pub holding-personality : (b : List ℕ) (first : ℕ) (s : List ℕ) → personality_of (holding b first s) ≡ b
unfolding personality_of length_of holding two_at byte_at
holding-personality b first s =
    let told : length b % 256 + 256 * (length b / 256) ≡ length b = omega arith in
    rw told (take_at b (replicate (greatest_length - length b) 0) (length b) refl)

module _ (b : List ℕ) (k first : ℕ) where
  -- record k holds the personality b at this first output, with the state s
  pub record Placed (row : List Record) (s : List ℕ) : Type 0 where
    pub accepted : verdict_of b ≡ Accepted
    pub within : first + outputs_of b ≤ output_count
    pub below : k < record_count
    pub four : length row ≡ record_count
    pub at : record_of row k ≡ holding b first s

  -- what the step call does with this personality and these outputs
  abbrev pub alone : List Record → List ℕ → List ℕ → ℕ → Returned
  alone row s out inputs =
      let part = outputs_in out first (outputs_of b) in
      record {
        answer = step_answer b s inputs (length part);
        row = set row k (holding b first (state_after b s inputs (length part)));
        outputs = written_at out first (colours_after b s inputs part);
      }

  -- what the retiming call does
  abbrev pub retimed_alone : List Record → List ℕ → List ℕ → List ℕ → Returned
  retimed_alone row s out new =
      record { answer = retime_answer b s new; row = set row k (holding b first (retime_after b s new)); outputs = out }

  -- the state after an operation
  abbrev pub next_for : List ℕ → List ℕ → OwnCall → List ℕ
  next_for s out (steps inputs) = state_after b s inputs (length (outputs_in out first (outputs_of b)))
  next_for s out (retimes new) = retime_after b s new
  next_for s out nothing = s

  module _ (row : List Record) (s : List ℕ) (placed : Placed row s) where
    there : has_record row k ≡ true
    unfolding has_record
    there = rw placed.four (lt-ltb k record_count placed.below)

    pub own-personality : personality_of (record_of row k) ≡ b
    own-personality = ap personality_of placed.at ∙ holding-personality b first s

    pub own_first : (record_of row k).first ≡ first
    unfolding holding
    own_first = ap (λ (r : Record). r.first) placed.at

    pub own-state : (record_of row k).state ≡ s
    unfolding holding
    own-state = ap (λ (r : Record). r.state) placed.at

    pub not_free : is_free (record_of row k) ≡ false
    unfolding is_free holding
    not_free = ap is_free placed.at

    pub held-accepted : held_verdict row k ≡ Accepted
    unfolding held_verdict refuse_if past_last ◌or_else◌
    held-accepted = rw (there, not_free, own-personality, own_first, placed.accepted, le-ltb output_count (first + outputs_of b) placed.within)

    -- ── A step of the site in the record, and new times for it ──

    pub own-outputs : (out : List ℕ) → own_outputs (record_of row k) out ≡ outputs_in out first (outputs_of b)
    unfolding own_outputs
    own-outputs out = rw (own-personality, own_first)

    new-record : (s₁ : List ℕ) → with_state (record_of row k) s₁ ≡ holding b first s₁
    unfolding with_state holding
    new-record s₁ = ap (λ (r : Record). with_state r s₁) placed.at

    pub own-stepped : (out : List ℕ) (inputs : ℕ) → stepping row out k inputs ≡ alone row s out inputs
    unfolding stepping returned_for stepped
    own-stepped out inputs = rw (held-accepted, own-outputs out, new-record, own-personality, own_first, own-state)

    pub own-retimed : (out new : List ℕ) → retiming row out k new ≡ retimed_alone row s out new
    unfolding retiming
    own-retimed out new = rw (new-record, own-personality, own-state)

    -- the record stands in the row after the call with its new state
    again : (s₁ : List ℕ) → Placed (set row k (holding b first s₁)) s₁
    unfolding record_of
    again s₁ =
        record {
          accepted = placed.accepted;
          within = placed.within;
          below = placed.below;
          four = length-set row k (holding b first s₁) ∙ placed.four;
          at = get_or-set_same row k (holding b first s₁) free_record (omega (arith, placed.four, placed.below));
        }

    after : (done : Returned) (s₁ : List ℕ) → done.row ≡ set row k (holding b first s₁) → Placed done.row s₁
    after done s₁ e = subst (λ (r : List Record). Placed r s₁) (sym e) (again s₁)

    -- ── Any other operation ──

    elsewhere : (next : List Record) → record_of next k ≡ record_of row k → length next ≡ length row → Placed next s
    elsewhere next same long =
        record {
          accepted = placed.accepted;
          within = placed.within;
          below = placed.below;
          four = long ∙ placed.four;
          at = same ∙ placed.at;
        }

    act-elsewhere : (act : Act) (out : List ℕ) → (k ≡ record_named act → ⊥) → Placed (doing row out act).row s
    unfolding OthersStay
    act-elsewhere act out other = let stay = others-stay row out act in elsewhere (doing row out act).row (stay.0 k other) stay.1

    same_row : (next : List Record) → next ≡ row → Placed next s
    same_row next e = subst (λ (r : List Record). Placed r s) (sym e) placed

    -- placing is refused, since the record is not free
    place-refused :
        (c out : List ℕ) (g : ℕ) (v : Verdict) →
        placing_verdict row out c k g ≡ v →
        (done : Returned) →
        (returned_for v done row out).row ≡ row
    unfolding returned_for
    place-refused c out g (Ok _) e done = absurd (true≢false (sym (placing-free row out c k g e) ∙ not_free))
    place-refused c out g (Err r) e done = refl

    -- taking out is refused, since it is not accepted
    take-refused :
        (out : List ℕ) (v : Verdict) (done : Returned) →
        done.answer ≡ 0 →
        ((returned_for v done row out).answer ≡ 0 → ⊥) →
        (returned_for v done row out).row ≡ row
    unfolding returned_for
    take-refused out (Ok _) done e stays = absurd (stays e)
    take-refused out (Err r) done e stays = refl

    place-for : (c out : List ℕ) (j g : ℕ) (t : Bool) → eqb j k ≡ t → Placed (placing row out c j g).row s
    unfolding doing placing record_named
    place-for c out j g true e =
        same_row _
        (ap (λ (i : ℕ). (placing row out c i g).row) (eqb-true j k e) ∙ place-refused c out g (placing_verdict row out c k g) refl _)
    place-for c out j g false e = act-elsewhere (place_site c j g) out (λ h. eqb-false j k e (sym h))

    step-for :
        (out : List ℕ) (j inputs : ℕ) (t : Bool) →
        eqb j k ≡ t →
        Placed (stepping row out j inputs).row (next_for s out (if t then steps inputs else nothing))
    unfolding doing record_named
    step-for out j inputs true e =
        after (stepping row out j inputs) (next_for s out (steps inputs))
        (ap (λ (i : ℕ). (stepping row out i inputs).row) (eqb-true j k e) ∙ ap (λ (d : Returned). d.row) (own-stepped out inputs))
    step-for out j inputs false e = act-elsewhere (step_site j inputs) out (λ h. eqb-false j k e (sym h))

    take-for :
        (out : List ℕ) (j : ℕ) (t : Bool) → eqb j k ≡ t →
        (t ≡ true → (taking_out row out j).answer ≡ 0 → ⊥) →
        Placed (taking_out row out j).row s
    unfolding doing taking_out record_named
    take-for out j true e stays = same_row _ (take-refused out (taking_verdict row out j) _ refl (stays refl))
    take-for out j false e stays = act-elsewhere (take_out j) out (λ h. eqb-false j k e (sym h))

    retime-for :
        (out : List ℕ) (j : ℕ) (new : List ℕ) (t : Bool) →
        eqb j k ≡ t →
        Placed (retiming row out j new).row (next_for s out (if t then retimes new else nothing))
    unfolding RetimingOthersStay
    retime-for out j new true e =
        after (retiming row out j new) (retime_after b s new)
        (ap (λ (i : ℕ). (retiming row out i new).row) (eqb-true j k e) ∙ ap (λ (d : Returned). d.row) (own-retimed out new))
    retime-for out j new false e =
        let stay = retiming-others-stay row out j new in
        elsewhere (retiming row out j new).row (stay.0 k (λ h. eqb-false j k e (sym h))) stay.1

    -- the operation leaves the site in its place, if it does not take it out
    pub placed-next :
        (operation : Operation) (out : List ℕ) →
        (takes_out k operation ≡ true → (operating row out operation).answer ≡ 0 → ⊥) →
        Placed (operating row out operation).row (next_for s out (call_on k operation))
    unfolding call_on takes_out operating doing
    placed-next (cabinet_act (place_site c j g)) out stays = place-for c out j g (eqb j k) refl
    placed-next (cabinet_act (step_site j inputs)) out stays = step-for out j inputs (eqb j k) refl
    placed-next (cabinet_act (take_out j)) out stays = take-for out j (eqb j k) refl stays
    placed-next (retime_site j new) out stays = retime-for out j new (eqb j k) refl
