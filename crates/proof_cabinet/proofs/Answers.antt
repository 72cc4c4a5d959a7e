-- Every refusal has a written number and place; and stepping and new times answer the first refusal in the order of their checks.
use Rattle.std.specs.Prelude.{Ok, Err}
use Prim.Native.Nat.{ℕ, ◌+◌, ◌*◌, ◌%◌, ◌/◌, ◌<◌}
use mathlib.Core.Bool.{Bool, true, false, not, ◌||◌}
use mathlib.Core.List.{List}
use mathlib.Core.Logic.{◌⊎◌, inl, inr, ⊎_elim}
use mathlib.Core.Path.{◌≡◌, refl, sym, subst}
use native.Mathlib.Omega.{arith}
use borrow.Author.Tests.{eqb-true, ltb-false, lt-ltb, le-ltb}
use lib.Dec.{ltb, eqb}
use lib.ListN.{length, take, drop, length-take, length-drop}
use Rattle.rules.specs.Verdicts.{Verdict}
use Rattle.rules.specs.Verdicts.{Accepted, Refused}
use Rattle.rules.specs.Verdicts.{◌or_else◌, refuse_if}
use Rattle.rules.specs.Personality.{verdict_of}
use Rattle.rules.specs.Site.{site_of}
use Rattle.rules.specs.Timed.{ruled_site}
use Rattle.rules.specs.WaitBound.{wait_bound}
use Rattle.rules.specs.Call.{stray_input, step_verdict, bound_for}
use Rattle.rules.specs.TimedCall.{differs_elsewhere}
use Rattle.rules.specs.Laws.{reading_number, step_number, PlaceIn, AcceptedIsSound}
use Rattle.rules.specs.TimedLaws.{retime_number}
use Rattle.laws.proofs.Booleans.{or_cases}
use Rattle.state_valid.specs.StateOf.{is_state_of}
use Rattle.board_answers.specs.Answers.{packed, packed_verdict, packed_outcome}
use Rattle.board_step.specs.StepCall.{step_checks, stepped_in, step_answer}
use Rattle.board_retime.specs.RetimeCall.{retime_checks, retime_answer}
use Rattle.proof_acceptance.proofs.Acceptance.{accepted-is-sound}
use Rattle.proof_acceptance.proofs.Refusals.{Refusals, if-refusals, or-refusals, personality-refusals, call-refusals}
use Rattle.proof_acceptance.proofs.Places.{number_fits}
use Rattle.proof_board.proofs.Answers.{retime-number-fits}
use Rattle.cabinet_records.specs.declared.Record.{Record}
use Rattle.cabinet_records.specs.Cabinet.{output_count, personality_of, record_of, outputs_of, is_short, outputs_in, own_outputs, placing_verdict, held_verdict, taking_verdict, Returned, returned_for, placing, stepped, stepping, taking_out, place_site, step_site, take_out, doing}
use Rattle.cabinet_records.specs.CabinetLaws.{personality_named}
use Rattle.cabinet_records.proofs.Checks.{held-read, held-within}
use Rattle.proof_cabinet.specs.Operations.{retiming}
use Rattle.proof_cabinet.specs.CabinetAnswers.{cabinet_number, CabinetWritten, AnswerIsWritten, RetimingWritten, RetimingAnswerIsWritten, stepping_verdict, SteppingAnswers, retiming_verdict, RetimingAnswers}

-- ── Answers, whatever is allowed of a number of one byte and a place ──

abbrev ToldAnswer : (ℕ → ℕ → Type 0) → ℕ → Type 0
ToldAnswer Allowed answer = (answer % 256 ≡ 0 → ⊥) → Allowed (answer % 256) (answer / 256)

module _ (Allowed : ℕ → ℕ → Type 0) (fits : (n p : ℕ) → Allowed n p → n < 256) where
  packed-told : (n p : ℕ) → Allowed n p → ToldAnswer Allowed (packed n p)
  unfolding packed
  packed-told n p w refused =
      let small = fits n p w in
      let low : (n + 256 * p) % 256 ≡ n = omega arith in
      let high : (n + 256 * p) / 256 ≡ p = omega arith in
      subst (λ (m : ℕ). Allowed m ((n + 256 * p) / 256)) (sym low) (subst (Allowed n) (sym high) w)

  verdict-told : (v : Verdict) → Refusals Allowed v → ToldAnswer Allowed (packed_verdict v)
  unfolding packed_verdict packed
  verdict-told (Ok _) told refused = absurd (refused (omega arith))
  verdict-told (Err r) told refused = packed-told r.number r.place (told r.number r.place refl) refused

  outcome-told : (v : Verdict) (wait : ℕ) → Refusals Allowed v → ToldAnswer Allowed (packed_outcome (bound_for v wait))
  unfolding bound_for packed_outcome packed
  outcome-told (Ok _) wait told = λ refused. absurd (refused (omega arith))
  outcome-told (Err r) wait told = packed-told r.number r.place (told r.number r.place refl)

-- ── The calls of the cabinet ──

cabinet-fits : (b : List ℕ) (n p : ℕ) → CabinetWritten b n p → n < 256
cabinet-fits b n p =
    ⊎_elim
    (λ (w : (reading_number n ≡ true) × PlaceIn b p). (number_fits b n p (inl w)).1)
    (λ (w : (cabinet_number n ≡ true) × (p ≡ 0)).
    ⊎_elim
    (λ (h : (step_number n || eqb n 24) ≡ true).
    ⊎_elim
    (λ (g : step_number n ≡ true). (number_fits b n p (inr (g, w.1))).1)
    (λ (g : eqb n 24 ≡ true). omega (arith, eqb-true n 24 g))
    (or_cases (step_number n) (eqb n 24) h))
    (λ (h : eqb n 25 ≡ true). omega (arith, eqb-true n 25 h))
    (or_cases (step_number n || eqb n 24) (eqb n 25) w.0))

module _ (b : List ℕ) where
  read_told : Refusals (CabinetWritten b) (verdict_of b)
  read_told = personality-refusals b (CabinetWritten b) (λ n p known l. inl (known, l))

  check-told : (t : Bool) (m : ℕ) → cabinet_number m ≡ true → Refusals (CabinetWritten b) (refuse_if t m 0)
  check-told t m known = if-refusals (CabinetWritten b) t m 0 (inr (known, refl))

  or-told : (v w : Verdict) → Refusals (CabinetWritten b) v → Refusals (CabinetWritten b) w → Refusals (CabinetWritten b) (v or_else w)
  or-told v w first later = or-refusals (CabinetWritten b) v w first (λ e. later)

placing-told : (row : List Record) (out b : List ℕ) (k first : ℕ) → Refusals (CabinetWritten b) (placing_verdict row out b k first)
unfolding placing_verdict
placing-told row out b k first =
    or-told b (verdict_of b) _ (read_told b)
    (or-told b (refuse_if _ 24 0) _ (check-told b _ 24 refl)
    (or-told b (refuse_if _ 25 0) _ (check-told b _ 25 refl) (check-told b _ 14 refl)))

held-told : (row : List Record) (k : ℕ) → Refusals (CabinetWritten (personality_of (record_of row k))) (held_verdict row k)
unfolding held_verdict
held-told row k =
    let b = personality_of (record_of row k) in
    or-told b (refuse_if _ 24 0) _ (check-told b _ 24 refl) (or-told b (verdict_of b) _ (read_told b) (check-told b _ 25 refl))

taking-told : (row : List Record) (out : List ℕ) (k : ℕ) → Refusals (CabinetWritten (personality_of (record_of row k))) (taking_verdict row out k)
unfolding taking_verdict
taking-told row out k =
    let b = personality_of (record_of row k) in
    or-told b (held_verdict row k) _ (held-told row k) (check-told b _ 14 refl)

-- a step on bytes
module _ (b s : List ℕ) (inputs room : ℕ) where
  step-told : ToldAnswer (CabinetWritten b) (step_answer b s inputs room)
  unfolding step_answer step_checks
  step-told =
      outcome-told (CabinetWritten b) (cabinet-fits b) (step_checks b s inputs room) _
      (call-refusals b (CabinetWritten b) (λ n p known l. inl (known, l)) (is_state_of b s) inputs room (λ n known. inr (rw known, refl)))

returned-told :
    (b : List ℕ) (v : Verdict) (done : Returned) (row : List Record) (out : List ℕ) →
    Refusals (CabinetWritten b) v →
    ToldAnswer (CabinetWritten b) done.answer →
    ToldAnswer (CabinetWritten b) (returned_for v done row out).answer
unfolding returned_for
returned-told b (Ok _) done row out told own = own
returned-told b (Err r) done row out told own = verdict-told (CabinetWritten b) (cabinet-fits b) (Refused r.number r.place) told

pub answer-is-written : AnswerIsWritten
unfolding AnswerIsWritten doing placing stepping stepped taking_out personality_named
answer-is-written row out (place_site b k first) =
    returned-told b (placing_verdict row out b k first) _ row out (placing-told row out b k first) (λ refused. absurd (refused refl))
answer-is-written row out (step_site k inputs) =
    let r = record_of row k in
    let b = personality_of r in
    returned-told b (held_verdict row k) _ row out (held-told row k) (step-told b r.state inputs (length (own_outputs r out)))
answer-is-written row out (take_out k) =
    returned-told (personality_of (record_of row k)) (taking_verdict row out k) _ row out (taking-told row out k) (λ refused. absurd (refused refl))

-- ── New times ──

module _ (b old new : List ℕ) where
  retiming-fits : (n p : ℕ) → RetimingWritten b new n p → n < 256
  retiming-fits n p =
      ⊎_elim
      (λ (w : (reading_number n ≡ true) × (PlaceIn b p ⊎ PlaceIn new p)).
      ⊎_elim (λ (l : PlaceIn b p). (number_fits b n p (inl (w.0, l))).1) (λ (l : PlaceIn new p). (number_fits new n p (inl (w.0, l))).1) w.1)
      (λ (w : (retime_number n ≡ true) × (p ≡ 0)). (retime-number-fits n w.0).1)

  retime-told : ToldAnswer (RetimingWritten b new) (retime_answer b old new)
  unfolding retime_answer retime_checks
  retime-told =
      verdict-told (RetimingWritten b new) retiming-fits (retime_checks b old new)
      (or-refusals (RetimingWritten b new) (verdict_of b) _
      (personality-refusals b (RetimingWritten b new) (λ n p known l. inl (known, inl l)))
      (λ e.
      or-refusals (RetimingWritten b new) (refuse_if (not (is_state_of b old)) 13 0) _
      (if-refusals (RetimingWritten b new) (not (is_state_of b old)) 13 0 (inr (refl, refl)))
      (λ f.
      or-refusals (RetimingWritten b new) (verdict_of new) (refuse_if (differs_elsewhere b new) 26 0)
      (personality-refusals new (RetimingWritten b new) (λ n p known l. inl (known, inr l)))
      (λ g. if-refusals (RetimingWritten b new) (differs_elsewhere b new) 26 0 (inr (refl, refl))))))

pub retiming-answer-is-written : RetimingAnswerIsWritten
unfolding RetimingAnswerIsWritten retiming
retiming-answer-is-written row out k new = let r = record_of row k in retime-told (personality_of r) r.state new

-- ── The order of stepping ──

module _ (row : List Record) (out : List ℕ) (k : ℕ) (held : held_verdict row k ≡ Accepted) where
  abbrev r : Record
  r = record_of row k

  abbrev b : List ℕ
  b = personality_of r

  -- the part of the buffer that a step writes has room for the site unless the buffer is short
  room_for : (t : Bool) → is_short out ≡ t → ltb (length (own_outputs r out)) (outputs_of b) ≡ t
  unfolding own_outputs outputs_in is_short outputs_of AcceptedIsSound
  room_for true e = rw e (lt-ltb 0 (outputs_of b) (accepted-is-sound b (held-read row k held)).groups.0)
  room_for false e =
      let long = ltb-false (length out) output_count e in
      let within = held-within row k held in
      let n = outputs_of b in
      let known : length (take n (drop r.first out)) ≡ n = omega (arith, length-take n (drop r.first out), length-drop r.first out) in
      rw (e, known) (le-ltb n n (omega arith))

  -- the checks of the step, with these of its parts
  abbrev checks : Bool → ℕ → Verdict
  checks is_valid inputs =
      refuse_if (not is_valid) 13 0 or_else refuse_if (stray_input (site_of b) inputs) 15 0 or_else refuse_if (is_short out) 14 0

  state-for :
      (inputs : ℕ) →
      step_answer b r.state inputs (length (own_outputs r out))
      ≡ packed_outcome (bound_for (checks (is_state_of b r.state) inputs) (wait_bound (ruled_site (site_of b) (stepped_in b r.state inputs))))
  unfolding step_answer step_checks step_verdict ◌or_else◌ outputs_of
  state-for inputs = rw (held-read row k held, room_for (is_short out) refl)

returned-answer :
    (v w : Verdict) (wait : ℕ) (done : Returned) (row : List Record) (out : List ℕ) →
    (v ≡ Accepted → done.answer ≡ packed_outcome (bound_for w wait)) →
    (returned_for v done row out).answer ≡ packed_outcome (bound_for (v or_else w) wait)
unfolding returned_for ◌or_else◌ bound_for packed_verdict packed_outcome
returned-answer (Ok _) w wait done row out h = h refl
returned-answer (Err r) w wait done row out h = refl

pub stepping-answers : SteppingAnswers
unfolding SteppingAnswers stepping_verdict stepping stepped stepped_in
stepping-answers row out k inputs = returned-answer (held_verdict row k) _ _ _ row out (λ held. state-for row out k held inputs)

-- ── The order of new times ──

pub retiming-answers : RetimingAnswers
unfolding RetimingAnswers retiming_verdict retiming retime_answer retime_checks
retiming-answers row out k new = refl
