-- A placed site keeps its record, and shares no output with another record whose personality would be accepted.
use Rattle.std.specs.Prelude.{Ok, Err}
use Prim.Native.Nat.{ℕ, ◌+◌, ◌≤◌, ◌<◌}
use mathlib.Core.Bool.{Bool, true, false, not, ◌&&◌, true≢false}
use mathlib.Core.List.{List, [], ◌∷◌}
use mathlib.Core.Logic.{◌⊎◌, inl, inr, ⊎_elim}
use mathlib.Core.Path.{◌≡◌, refl, sym, subst, ap, ◌∙◌}
use native.Mathlib.Omega.{arith}
use borrow.Author.Tests.{ltb-false, ne_eqb}
use lib.Dec.{ltb, eqb}
use lib.ListN.{length, get_or, set, length-set, get_or-eq_default}
use lib.Seq.{get_or-set_same, get_or-set_other}
use Rattle.rules.specs.Verdicts.{Verdict}
use Rattle.rules.specs.Verdicts.{Accepted, Refused}
use Rattle.laws.proofs.Booleans.{decided, and-false-rest}
use Rattle.laws.proofs.Indices.{below-or-past, same-or-apart}
use Rattle.laws.proofs.Folds.{any_false}
use Rattle.cabinet_records.specs.declared.Record.{Record}
use Rattle.cabinet_records.specs.Cabinet.{record_count, is_free, length_of, personality_of, free_record, holding, with_state, record_of, outputs_of, is_accepted, has_outputs, meet, meets_record, overlaps, outputs_in, fresh_bytes, placing_verdict, held_verdict, taking_verdict, Returned, returned_for, placing, stepped, stepping, taking_out, Act, place_site, step_site, take_out, doing}
use Rattle.cabinet_records.proofs.Checks.{row-length, placing-there, placing-clear}
use Rattle.rules.specs.Runs.{Call}
use Rattle.proof_cabinet.specs.Operations.{retiming, Operation, cabinet_act, retime_site, operating}
use Rattle.proof_cabinet.specs.CabinetRuns.{CabinetCall, OwnCall, steps, retimes, nothing, call_on, alone_for, alone_at, state_alone, Clear, Apart, StaysIn, row_after, PlacedHolds, PlacedApart}
use Rattle.proof_cabinet.proofs.Placed.{holding-personality, Placed, next_for, own-personality, own_first, own-state, not_free, placed-next}
use Rattle.proof_cabinet.proofs.Runs.{placing-accepted, placed_row, placed-fresh}

-- ── Two ranges of outputs ──

and-swapped : (a b : Bool) → (a && b) ≡ false → (b && a) ≡ false
and-swapped true true e = e
and-swapped true false e = refl
and-swapped false true e = refl
and-swapped false false e = refl

meet-swapped : (f n g m : ℕ) → meet g m f n ≡ false → meet f n g m ≡ false
unfolding meet
meet-swapped f n g m e = and-swapped (ltb g (f + n)) (ltb f (g + m)) e

-- no output in common: one of the two ends before the other begins
pub meet-sides : (f n g m : ℕ) → meet f n g m ≡ false → (f + n ≤ g) ⊎ (g + m ≤ f)
unfolding meet
meet-sides f n g m e =
    ⊎_elim
    (λ (h : ltb f (g + m) ≡ true). inl (ltb-false g (f + n) (and-false-rest (ltb g (f + n)) e h)))
    (λ (h : ltb f (g + m) ≡ false). inr (ltb-false f (g + m) h))
    (decided (ltb f (g + m)))

-- ── Records that have none of the outputs ──

clear-free : (first count : ℕ) → Clear first count free_record
unfolding Clear has_outputs is_free free_record
clear-free first count e = absurd (true≢false (sym e))

-- a step alters the state only
clear-stepped : (first count : ℕ) (r : Record) (s : List ℕ) → Clear first count r → Clear first count (with_state r s)
unfolding Clear has_outputs personality_of length_of is_free with_state
clear-stepped first count r s clear = clear

clear-overlaps :
    (row : List Record) (k first count j : ℕ) →
    overlaps row k first count ≡ false →
    j < record_count →
    (j ≡ k → ⊥) →
    Clear first count (record_of row j)
unfolding overlaps Clear meets_record
clear-overlaps row k first count j e below other has =
    let r = record_of row j in
    let both = any_false (λ i. not (eqb i k) && meets_record first count (record_of row i)) record_count j e below in
    let apart : not (eqb j k) ≡ true = rw (ne_eqb j k other) in
    and-false-rest (meet first count r.first (outputs_of (personality_of r))) (and-false-rest (meets_record first count r) both apart) has

module _ (k first count : ℕ) where
  -- a record written in place j
  apart-set :
      (row : List Record) →
      Apart k first count row →
      (j : ℕ) (r : Record) →
      ((j ≡ k → ⊥) → Clear first count r) →
      Apart k first count (set row j r)
  unfolding Apart record_of
  apart-set row apart j r clear i other =
      ⊎_elim
      (λ (same : i ≡ j).
      ⊎_elim
      (λ (below : j < length row).
      subst (Clear first count) (sym (ap (λ (m : ℕ). get_or (set row j r) m free_record) same ∙ get_or-set_same row j r free_record below))
      (clear (λ (e : j ≡ k). other (same ∙ e))))
      (λ (past : length row ≤ j).
      subst (Clear first count) (sym (get_or-eq_default (set row j r) free_record (omega (arith, same, length-set row j r, past))))
      (clear-free first count))
      (below-or-past j (length row)))
      (λ (apart_from : i ≡ j → ⊥). subst (Clear first count) (sym (get_or-set_other row j i r free_record apart_from)) (apart i other))
      (same-or-apart i j)

  apart-for :
      (v : Verdict) (done : Returned) (row : List Record) (out : List ℕ) →
      Apart k first count row →
      (v ≡ Accepted → Apart k first count done.row) →
      Apart k first count (returned_for v done row out).row
  unfolding returned_for
  apart-for (Ok _) done row out apart h = h refl
  apart-for (Err r) done row out apart h = apart

-- ── One call in a row in which the site is placed ──

module _ (b : List ℕ) (k first : ℕ) (row : List Record) (s : List ℕ) (placed : Placed b k first row s) where
  own-has : has_outputs (record_of row k) ≡ true
  unfolding has_outputs is_accepted
  own-has = rw (not_free b k first row s placed, own-personality b k first row s placed, placed.accepted)

  -- an accepted placing elsewhere has none of the outputs
  pub new-clear :
      (c out : List ℕ) (j g : ℕ) →
      placing_verdict row out c j g ≡ Accepted →
      (k ≡ j → ⊥) →
      meet first (outputs_of b) g (outputs_of c) ≡ false
  unfolding Clear
  new-clear c out j g e other =
      let known = clear-overlaps row j g (outputs_of c) k (placing-clear row out c j g e) placed.below other own-has in
      meet-swapped first (outputs_of b) g (outputs_of c)
      (rw (own-personality b k first row s placed, own_first b k first row s placed) at known)

  new-holding :
      (c out : List ℕ) (j g : ℕ) →
      placing_verdict row out c j g ≡ Accepted →
      (k ≡ j → ⊥) →
      Clear first (outputs_of b) (holding c g (fresh_bytes c))
  unfolding Clear holding
  new-holding c out j g e other has = rw (holding-personality c g (fresh_bytes c)) (new-clear c out j g e other)

  -- another state in record j
  apart-state : Apart k first (outputs_of b) row → (j : ℕ) (t : List ℕ) → Apart k first (outputs_of b) (set row j (with_state (record_of row j) t))
  unfolding Apart
  apart-state apart j t =
      apart-set k first (outputs_of b) row apart j (with_state (record_of row j) t)
      (λ other. clear-stepped first (outputs_of b) (record_of row j) t (apart j other))

  apart-act : Apart k first (outputs_of b) row → (act : Act) (out : List ℕ) → Apart k first (outputs_of b) (doing row out act).row
  unfolding doing placing stepping stepped taking_out Apart
  apart-act apart (place_site c j g) out =
      apart-for k first (outputs_of b) (placing_verdict row out c j g) _ row out apart
      (λ e. apart-set k first (outputs_of b) row apart j (holding c g (fresh_bytes c)) (λ other. new-holding c out j g e (λ h. other (sym h))))
  apart-act apart (step_site j inputs) out =
      apart-for k first (outputs_of b) (held_verdict row j) _ row out apart
      (λ e. apart-state apart j _)
  apart-act apart (take_out j) out =
      apart-for k first (outputs_of b) (taking_verdict row out j) _ row out apart
      (λ e. apart-set k first (outputs_of b) row apart j free_record (λ other. clear-free first (outputs_of b)))

  pub apart_next :
      Apart k first (outputs_of b) row →
      (operation : Operation) (out : List ℕ) →
      Apart k first (outputs_of b) (operating row out operation).row
  unfolding operating retiming Apart
  apart_next apart (cabinet_act act) out = apart-act apart act out
  apart_next apart (retime_site j new) out = apart-state apart j _

-- ── A list of calls ──

module _ (b : List ℕ) (k first : ℕ) where
  next-alone :
      (s out : List ℕ) (rest : List Call) (call : OwnCall) →
      state_alone b (next_for b k first s out call) rest ≡ state_alone b s (alone_for call (outputs_in out first (outputs_of b)) rest)
  unfolding state_alone alone_for
  next-alone s out rest (steps inputs) = refl
  next-alone s out rest (retimes new) = refl
  next-alone s out rest nothing = refl

  still_placed :
      (calls : List CabinetCall) (row : List Record) (s : List ℕ) →
      Placed b k first row s →
      Apart k first (outputs_of b) row →
      StaysIn k row calls →
      Placed b k first (row_after row calls) (state_alone b s (alone_at k first (outputs_of b) calls))
      × Apart k first (outputs_of b) (row_after row calls)
  unfolding row_after state_alone alone_at
  still_placed [] row s placed apart stays = (placed, apart)
  still_placed (c ∷ calls) row s placed apart stays =
      let after = (operating row c.outputs c.operation).row in
      let call = call_on k c.operation in
      let rest = alone_at k first (outputs_of b) calls in
      let still =
      still_placed calls after (next_for b k first s c.outputs call) (placed-next b k first row s placed c.operation c.outputs stays.0)
      (apart_next b k first row s placed apart c.operation c.outputs)
      stays.1 in
      (subst (Placed b k first (row_after after calls)) (next-alone s c.outputs rest call) still.0, still.1)

module _ (row : List Record) (out b : List ℕ) (k first : ℕ) (e : placing_verdict row out b k first ≡ Accepted) where
  apart-before : Apart k first (outputs_of b) row
  unfolding Apart record_of
  apart-before j other =
      ⊎_elim
      (λ (below : j < record_count). clear-overlaps row k first (outputs_of b) j (placing-clear row out b k first e) below other)
      (λ (past : record_count ≤ j).
      subst (Clear first (outputs_of b))
      (sym (get_or-eq_default row free_record (omega (arith, row-length row k (placing-there row out b k first e), past))))
      (clear-free first (outputs_of b)))
      (below-or-past j record_count)

  pub apart-placed : Apart k first (outputs_of b) (placing row out b k first).row
  apart-placed =
      subst (Apart k first (outputs_of b)) (sym (placed_row row out b k first e))
      (apart-set k first (outputs_of b) row apart-before k (holding b first (fresh_bytes b)) (λ other. absurd (other refl)))

  -- from the placing on
  pub placed-still :
      (calls : List CabinetCall) →
      let begun = (placing row out b k first).row in
      StaysIn k begun calls →
      Placed b k first (row_after begun calls) (state_alone b (fresh_bytes b) (alone_at k first (outputs_of b) calls))
      × Apart k first (outputs_of b) (row_after begun calls)
  placed-still calls stays =
      still_placed b k first calls (placing row out b k first).row (fresh_bytes b) (placed-fresh row out b k first e) apart-placed stays

pub placed-holds : PlacedHolds
unfolding PlacedHolds operating doing
placed-holds row out b k first answer calls stays =
    let last = row_after (placing row out b k first).row calls in
    let s = state_alone b (fresh_bytes b) (alone_at k first (outputs_of b) calls) in
    let placed = (placed-still row out b k first (placing-accepted row out b k first answer) calls stays).0 in
    (not_free b k first last s placed, own_first b k first last s placed, own-personality b k first last s placed, own-state b k first last s placed)

pub placed-apart : PlacedApart
unfolding PlacedApart operating doing
placed-apart row out b k first answer calls stays = (placed-still row out b k first (placing-accepted row out b k first answer) calls stays).1
