-- What a call leaves alone: it writes the record that it names and its own outputs, and a refused call nothing.
use Rattle.std.specs.Prelude.{Ok, Err}
use Prim.Native.Nat.{ℕ, ◌%◌}
use mathlib.Core.List.{List}
use mathlib.Core.Logic.{◌⊎◌, inl, inr, ⊎_elim}
use mathlib.Core.Path.{◌≡◌, refl, ap, ◌∙◌}
use native.Mathlib.Omega.{arith}
use lib.ListN.{length, set, length-set}
use lib.Seq.{get_or-set_other, set-get_or}
use Rattle.rules.specs.Verdicts.{Verdict}
use Rattle.rules.specs.Verdicts.{Accepted}
use Rattle.rules.specs.declared.site.Site.{Site}
use Rattle.rules.specs.declared.state.State.{State}
use Rattle.rules.specs.Colours.{red}
use Rattle.rules.specs.Call.{bound_for, handed_back, buffer_for}
use Rattle.board_answers.specs.Answers.{packed, packed_outcome}
use Rattle.board_step.specs.StepCall.{step_checks, step_answer, state_after, colours_after}
use Rattle.cabinet_records.specs.declared.Record.{Record}
use Rattle.cabinet_records.specs.Cabinet.{dark, personality_of, free_record, with_state, record_of, outputs_of, outputs_in, written_at, own_outputs, placing_verdict, held_verdict, taking_verdict, Returned, returned_for, placing, stepped, stepping, taking_out, Act, place_site, step_site, take_out, doing}
use Rattle.cabinet_records.specs.CabinetLaws.{record_named, personality_named, first_named, OthersStay, OutputsStay, RefusalLeaves}
use Rattle.cabinet_records.proofs.Checks.{placing-within, placing-long, held-within, taking-held, taking-long}
use Rattle.cabinet_records.proofs.Outputs.{colours-length, SameOutside, same-all, painted, written-own, own-outside}

-- ── Other records ──

-- the row after a call: as it was, or with the record that the call names written
abbrev pub Written : List Record → ℕ → List Record → Type 0
Written row k after = (after ≡ row) ⊎ ((r : Record) × (after ≡ set row k r))

written-for :
    (v : Verdict) (done : Returned) (row : List Record) (out : List ℕ) (k : ℕ) (r : Record) →
    done.row ≡ set row k r →
    Written row k (returned_for v done row out).row
unfolding returned_for
written-for (Ok _) done row out k r e = inr (r, e)
written-for (Err r') done row out k r e = inl refl

pub written : (row : List Record) (out : List ℕ) (act : Act) → Written row (record_named act) (doing row out act).row
unfolding doing record_named placing stepping stepped taking_out
written row out (place_site b k first) = written-for (placing_verdict row out b k first) _ row out k _ refl
written row out (step_site k inputs) = written-for (held_verdict row k) _ row out k _ refl
written row out (take_out k) = written-for (taking_verdict row out k) _ row out k _ refl

pub others-stay : OthersStay
unfolding OthersStay record_of
others-stay row out act =
    let k = record_named act in
    let after = (doing row out act).row in (
      λ j other.
          ⊎_elim
          (λ (e : after ≡ row). ap (λ (l : List Record). record_of l j) e)
          (λ (e : (r : Record) × (after ≡ set row k r)). ap (λ (l : List Record). record_of l j) e.1 ∙ get_or-set_other row k j e.0 free_record other)
          (written row out act),
      ⊎_elim
          (λ (e : after ≡ row). ap length e)
          (λ (e : (r : Record) × (after ≡ set row k r)). ap length e.1 ∙ length-set row k e.0)
          (written row out act),
    )

-- ── Other outputs ──

outside-for :
    (v : Verdict) (done : Returned) (row : List Record) (out : List ℕ) {first count : ℕ} →
    (v ≡ Accepted → SameOutside first count out done.outputs) →
    SameOutside first count out (returned_for v done row out).outputs
unfolding returned_for
outside-for (Ok _) done row out h = h refl
outside-for (Err r) done row out h = same-all

pub same-outside : (row : List Record) (out : List ℕ) (act : Act) → SameOutside (first_named row act) (outputs_of (personality_named row act)) out (doing row out act).outputs
unfolding doing placing stepping stepped taking_out first_named personality_named own_outputs
same-outside row out (place_site b k first) =
    outside-for (placing_verdict row out b k first) _ row out
    (λ e. painted out first (outputs_of b) red (placing-within row out b k first e) (placing-long row out b k first e))
same-outside row out (step_site k inputs) =
    let r = record_of row k in
    let b = personality_of r in
    let part = outputs_in out r.first (outputs_of b) in
    outside-for (held_verdict row k) _ row out
    (λ e.
    own-outside out r.first (outputs_of b) (held-within row k e) (colours_after b r.state inputs part) (colours-length b r.state inputs part))
same-outside row out (take_out k) =
    let r = record_of row k in
    outside-for (taking_verdict row out k) _ row out
    (λ e. painted out r.first (outputs_of (personality_of r)) dark (held-within row k (taking-held row out k e)) (taking-long row out k e))

pub outputs-stay : OutputsStay
unfolding OutputsStay
outputs-stay row out act = let same = same-outside row out act in (same.outside, same.long)

-- ── A refusal ──

-- a refused step on bytes
module _ (b s : List ℕ) (inputs : ℕ) (buffer : List ℕ) where
  abbrev Left : ℕ → List ℕ → List ℕ → Type 0
  Left answer state colours = (answer % 256 ≡ 0 → ⊥) → (state ≡ s) × (colours ≡ buffer)

  left-for :
      (v : Verdict) (wait : ℕ) (ruled : Site) (next : State) (new : List ℕ) →
      Left (packed_outcome (bound_for v wait)) (handed_back v new s) (buffer_for v ruled next buffer)
  unfolding bound_for handed_back buffer_for packed_outcome packed
  left-for (Ok _) wait ruled next new refused = absurd (refused (omega arith))
  left-for (Err r) wait ruled next new refused = (refl, refl)

  step_left : Left (step_answer b s inputs (length buffer)) (state_after b s inputs (length buffer)) (colours_after b s inputs buffer)
  unfolding step_answer state_after colours_after
  step_left = left-for (step_checks b s inputs (length buffer)) _ _ _ _

abbrev Leaves : Returned → List Record → List ℕ → Type 0
Leaves done row out = (done.answer % 256 ≡ 0 → ⊥) → (done.row ≡ row) × (done.outputs ≡ out)

leaves-for : (v : Verdict) (done : Returned) (row : List Record) (out : List ℕ) → (v ≡ Accepted → Leaves done row out) → Leaves (returned_for v done row out) row out
unfolding returned_for
leaves-for (Ok _) done row out h = h refl
leaves-for (Err r) done row out h = λ refused. (refl, refl)

step-leaves :
    (row : List Record) (out : List ℕ) (k inputs : ℕ) →
    held_verdict row k ≡ Accepted →
    Leaves (stepped row out k inputs (record_of row k) (own_outputs (record_of row k) out)) row out
unfolding stepped own_outputs with_state record_of
step-leaves row out k inputs e refused =
    let r = record_of row k in
    let b = personality_of r in
    let left = step_left b r.state inputs (outputs_in out r.first (outputs_of b)) refused in (
      ap (λ (s : List ℕ). set row k (with_state r s)) left.0 ∙ set-get_or row k free_record,
      ap (written_at out r.first) left.1 ∙ written-own out r.first (outputs_of b) (held-within row k e),
    )

pub refusal-leaves : RefusalLeaves
unfolding RefusalLeaves doing placing stepping taking_out
refusal-leaves row out (place_site b k first) = leaves-for (placing_verdict row out b k first) _ row out (λ e refused. absurd (refused refl))
refusal-leaves row out (step_site k inputs) = leaves-for (held_verdict row k) _ row out (step-leaves row out k inputs)
refusal-leaves row out (take_out k) = leaves-for (taking_verdict row out k) _ row out (λ e refused. absurd (refused refl))
