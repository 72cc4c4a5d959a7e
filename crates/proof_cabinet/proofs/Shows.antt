-- If each call gets the outputs that the one before returned, a placed site's outputs are those of its last accepted step, or red.
use Prim.Native.Nat.{ℕ, ◌+◌, ◌%◌, ◌/◌, ◌≤◌, ◌<◌}
use mathlib.Core.Bool.{Bool, true, false, true≢false}
use mathlib.Core.List.{List, [], ◌∷◌}
use mathlib.Core.Logic.{◌⊎◌, inl, inr, ⊎_elim}
use mathlib.Core.Path.{◌≡◌, refl, sym, subst, ap, ◌∙◌}
use native.Mathlib.Omega.{arith}
use borrow.Author.Tests.{eq-eqb, eqb-false, le-ltb}
use lib.Dec.{eqb}
use lib.ListN.{length, take, drop, replicate, length-take, length-drop, length-replicate}
use lib.Seq.{get_or-take, get_or-drop, ext_get_or}
use Rattle.rules.specs.Verdicts.{Outcome}
use Rattle.rules.specs.Verdicts.{Stepped, StepRefused}
use Rattle.rules.specs.Verdicts.{Verdict}
use Rattle.rules.specs.Verdicts.{Accepted, Refused}
use Rattle.laws.specs.Bytes.{byte_at}
use Rattle.std.specs.Prelude.{if◌then◌else◌, Ok, Err}
use Rattle.rules.specs.Colours.{red}
use Rattle.rules.specs.Runs.{Taken, if_accepted, accepted_steps}
use Rattle.rules.proofs.Verdicts.{refused-not-accepted}
use Rattle.proof_board.specs.BoardRuns.{outcome_in}
use Rattle.cabinet_records.specs.declared.Record.{Record}
use Rattle.cabinet_records.specs.Cabinet.{output_count, is_free, personality_of, record_of, outputs_of, is_accepted, has_outputs, meet, is_short, outputs_in, written_at, own_outputs, fresh_bytes, placing_verdict, held_verdict, taking_verdict, Returned, returned_for, placing, stepping, taking_out, place_site, step_site, take_out, doing}
use Rattle.cabinet_records.specs.CabinetLaws.{personality_named, first_named, RefusalLeaves}
use Rattle.cabinet_records.proofs.Checks.{placing-free, placing-within, placing-long, held-busy, held-read, taking-held}
use Rattle.cabinet_records.proofs.Outputs.{SameOutside, written-length, written-part}
use Rattle.cabinet_records.proofs.CabinetLaws.{same-outside, refusal-leaves}
use Rattle.proof_cabinet.specs.Operations.{retiming, Operation, cabinet_act, retime_site, operating}
use Rattle.proof_cabinet.specs.CabinetRuns.{OwnCall, steps, retimes, nothing, call_on, takes_out, seen_for, last_shown, Clear, Apart, seen_at, StaysIn, linked, outputs_after, PlacedShows}
use Rattle.proof_cabinet.proofs.Placed.{Did, did, Placed, next_for, not_free, own-outputs, placed-next}
use Rattle.proof_cabinet.proofs.Runs.{placing-accepted, placed-fresh}
use Rattle.proof_cabinet.proofs.Apart.{meet-sides, new-clear, apart_next, apart-placed}

-- ── Outputs that another call does not write ──

module _ (out after : List ℕ) (f n g m : ℕ) (same : SameOutside g m out after) (apart : meet f n g m ≡ false) where
  aside : (i : ℕ) → i < n → (f + i < g) ⊎ (g + m ≤ f + i)
  aside i l = ⊎_elim (λ (h : f + n ≤ g). inl (omega (arith, h, l))) (λ (h : g + m ≤ f). inr (omega (arith, h))) (meet-sides f n g m apart)

  long_same : length (take n (drop f after)) ≡ length (take n (drop f out))
  long_same = simp (length-take, length-drop) (rw same.long)

  bytes_same : take n (drop f after) ≡ take n (drop f out)
  unfolding byte_at
  bytes_same =
      ext_get_or 0 (take n (drop f after)) (take n (drop f out)) long_same
      (λ i l.
      let below : i < n = omega (arith, l, length-take n (drop f after)) in
      get_or-take n (drop f after) i 0 below
      ∙ get_or-drop f after i 0
      ∙ same.outside (f + i) (aside i below)
      ∙ sym (get_or-drop f out i 0)
      ∙ sym (get_or-take n (drop f out) i 0 below))

  part_same : outputs_in after f n ≡ outputs_in out f n
  unfolding outputs_in is_short
  part_same = rw (same.long, bytes_same)

untouched-for :
    (f n g m : ℕ) (v : Verdict) (done : Returned) (row : List Record) (out : List ℕ) →
    (v ≡ Accepted → meet f n g m ≡ false) →
    SameOutside g m out (returned_for v done row out).outputs →
    outputs_in (returned_for v done row out).outputs f n ≡ outputs_in out f n
unfolding returned_for
untouched-for f n g m (Ok _) done row out apart same = part_same out done.outputs f n g m same (apart refl)
untouched-for f n g m (Err r) done row out apart same = refl

module _ (b : List ℕ) (k first : ℕ) (row : List Record) (s : List ℕ) (placed : Placed b k first row s) (apart : Apart k first (outputs_of b) row) where
  held-clear :
      (j : ℕ) → held_verdict row j ≡ Accepted → (j ≡ k → ⊥) →
      meet first (outputs_of b) (record_of row j).first (outputs_of (personality_of (record_of row j))) ≡ false
  unfolding Apart Clear has_outputs is_accepted
  held-clear j e other = apart j other (rw (held-busy row j e, held-read row j e))

  taken-elsewhere :
      (j : ℕ) (v : Verdict) (done : Returned) (out : List ℕ) →
      (eqb j k ≡ true → (returned_for v done row out).answer ≡ 0 → ⊥) →
      done.answer ≡ 0 →
      v ≡ Accepted → j ≡ k → ⊥
  unfolding returned_for
  taken-elsewhere j (Ok _) done out stays zero e same = stays (eq-eqb j k same) zero
  taken-elsewhere j (Err r) done out stays zero e same = refused-not-accepted e

  -- an operation that is no step of the record leaves its outputs
  abbrev Beside : List ℕ → OwnCall → List ℕ → Type 0
  Beside out (steps inputs) after = Unit {0}
  Beside out (retimes new) after = outputs_in after first (outputs_of b) ≡ outputs_in out first (outputs_of b)
  Beside out nothing after = outputs_in after first (outputs_of b) ≡ outputs_in out first (outputs_of b)

  place-beside : (c out : List ℕ) (j g : ℕ) → Beside out nothing (placing row out c j g).outputs
  unfolding doing placing first_named personality_named
  place-beside c out j g =
      untouched-for first (outputs_of b) g (outputs_of c) (placing_verdict row out c j g) _ row out
      (λ v.
      new-clear b k first row s placed c out j g v
      (λ (same : k ≡ j).
      true≢false
      (sym (subst (λ (i : ℕ). is_free (record_of row i) ≡ true) (sym same) (placing-free row out c j g v))
      ∙ not_free b k first row s placed)))
      (same-outside row out (place_site c j g))

  step-beside :
      (out : List ℕ) (j inputs : ℕ) (t : Bool) →
      eqb j k ≡ t →
      Beside out (if t then steps inputs else nothing) (stepping row out j inputs).outputs
  unfolding doing stepping first_named personality_named
  step-beside out j inputs true e = tt
  step-beside out j inputs false e =
      untouched-for first (outputs_of b) (record_of row j).first (outputs_of (personality_of (record_of row j))) (held_verdict row j) _ row out
      (λ v. held-clear j v (eqb-false j k e))
      (same-outside row out (step_site j inputs))

  take-beside : (out : List ℕ) (j : ℕ) → (eqb j k ≡ true → (taking_out row out j).answer ≡ 0 → ⊥) → Beside out nothing (taking_out row out j).outputs
  unfolding doing taking_out first_named personality_named
  take-beside out j stays =
      untouched-for first (outputs_of b) (record_of row j).first (outputs_of (personality_of (record_of row j))) (taking_verdict row out j) _ row out
      (λ v. held-clear j (taking-held row out j v) (taken-elsewhere j (taking_verdict row out j) _ out stays refl v))
      (same-outside row out (take_out j))

  retime-beside : (out : List ℕ) (j : ℕ) (new : List ℕ) (t : Bool) → Beside out (if t then retimes new else nothing) (retiming row out j new).outputs
  unfolding retiming
  retime-beside out j new true = refl
  retime-beside out j new false = refl

  beside :
      (operation : Operation) (out : List ℕ) →
      (takes_out k operation ≡ true → (operating row out operation).answer ≡ 0 → ⊥) →
      Beside out (call_on k operation) (operating row out operation).outputs
  unfolding call_on takes_out operating doing
  beside (cabinet_act (place_site c j g)) out stays = place-beside c out j g
  beside (cabinet_act (step_site j inputs)) out stays = step-beside out j inputs (eqb j k) refl
  beside (cabinet_act (take_out j)) out stays = take-beside out j stays
  beside (retime_site j new) out stays = retime-beside out j new (eqb j k)

-- ── A list of calls ──

refused-number : (answer n p : ℕ) → outcome_in answer ≡ StepRefused n p → answer % 256 ≡ 0 → ⊥
unfolding outcome_in
refused-number answer n p e h =
    let known : Stepped (answer / 256) ≡ StepRefused n p = rw h at e in
    let z : ◌≡◌ {A = ℕ} 0 1 = cc in omega arith

module _ (b : List ℕ) (k first : ℕ) where
  -- One call, in a row in which the site is placed and shows `none`. After the calls behind it the outputs show `last`, and of those calls `seen` is
  -- seen.
  module _
      (row : List Record)
      (out none s : List ℕ)
      (placed : Placed b k first row s)
      (apart : Apart k first (outputs_of b) row)
      (shown : outputs_in out first (outputs_of b) ≡ none)
      (done : Returned)
      (last : List ℕ)
      (seen : List Taken)
      (later : (now : List ℕ) → outputs_in done.outputs first (outputs_of b) ≡ now → last ≡ last_shown now (accepted_steps seen))
    where
      abbrev Shows : OwnCall → Type 0
      Shows call =
          last
          ≡ last_shown none (accepted_steps (seen_for call (record_of row k) (record_of done.row k) done.answer out done.outputs seen))

      -- a refused step leaves the outputs
      left : (inputs n p : ℕ) → Did k row out (steps inputs) done → outcome_in done.answer ≡ StepRefused n p → done.outputs ≡ out
      unfolding RefusalLeaves doing
      left inputs n p made o =
          let answer = ap (λ (d : Returned). outcome_in d.answer) (sym made) ∙ o in
          ap (λ (d : Returned). d.outputs) made
          ∙ (refusal-leaves row out (step_site k inputs) (refused-number (stepping row out k inputs).answer n p answer)).1

      -- the record's own step, accepted or refused
      step-shows : (inputs : ℕ) → Did k row out (steps inputs) done → (o : Outcome) → outcome_in done.answer ≡ o → Shows (steps inputs)
      unfolding seen_for accepted_steps if_accepted last_shown
      step-shows inputs made (Ok wait) o =
          rw o (later (own_outputs (record_of row k) done.outputs) (sym (own-outputs b k first row s placed done.outputs)))
      step-shows inputs made (Err r) o =
          rw o (later none (ap (λ (l : List ℕ). outputs_in l first (outputs_of b)) (left inputs r.number r.place made o) ∙ shown))

      one_more : (call : OwnCall) → Did k row out call done → Beside b k first row s placed apart out call done.outputs → Shows call
      unfolding seen_for accepted_steps
      one_more (steps inputs) made aside = step-shows inputs made (outcome_in done.answer) refl
      one_more (retimes new) made aside = later none (aside ∙ shown)
      one_more nothing made aside = later none (aside ∙ shown)

  shows-from :
      (operations : List Operation) (row : List Record) (out none s : List ℕ) →
      Placed b k first row s →
      Apart k first (outputs_of b) row →
      outputs_in out first (outputs_of b) ≡ none →
      StaysIn k row (linked row out operations) →
      outputs_in (outputs_after row out operations) first (outputs_of b)
      ≡ last_shown none (accepted_steps (seen_at k row (linked row out operations)))
  unfolding linked outputs_after seen_at accepted_steps last_shown
  shows-from [] row out none s placed apart shown stays = shown
  shows-from (operation ∷ operations) row out none s placed apart shown stays =
      let done = operating row out operation in
      let next = placed-next b k first row s placed operation out stays.0 in
      one_more row out none s placed apart shown done
      (outputs_in (outputs_after done.row done.outputs operations) first (outputs_of b))
      (seen_at k done.row (linked done.row done.outputs operations))
      (λ now e.
      shows-from operations done.row done.outputs now (next_for b k first s out (call_on k operation)) next
      (apart_next b k first row s placed apart operation out)
      e
      stays.1)
      (call_on k operation)
      (did k row out operation)
      (beside b k first row s placed apart operation out stays.0)

-- placing shows red
painted-red :
    (row : List Record) (out b : List ℕ) (k first : ℕ) →
    placing_verdict row out b k first ≡ Accepted →
    outputs_in (placing row out b k first).outputs first (outputs_of b) ≡ replicate (outputs_of b) red
unfolding placing returned_for outputs_in is_short
painted-red row out b k first e =
    let n = outputs_of b in
    let new = replicate n red in
    let known : length new ≡ n = length-replicate n red in
    let long = placing-long row out b k first e in
    let fits : first + length new ≤ length out = omega (arith, known, placing-within row out b k first e, long) in
    rw (e, written-length out first new fits, le-ltb (length out) output_count long)
    (ap (λ (m : ℕ). take m (drop first (written_at out first new))) (sym known) ∙ written-part out first new fits)

pub placed-shows : PlacedShows
unfolding PlacedShows operating doing
placed-shows row out b k first answer operations stays =
    let e = placing-accepted row out b k first answer in
    let begun = placing row out b k first in
    shows-from b k first operations begun.row begun.outputs (replicate (outputs_of b) red) (fresh_bytes b)
    (placed-fresh row out b k first e)
    (apart-placed row out b k first e)
    (painted-red row out b k first e)
    stays
