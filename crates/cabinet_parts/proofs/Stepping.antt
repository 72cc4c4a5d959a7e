-- A step of a record, by cases: a free record is refused with 24; a held one is what the call on its personality gives.
use Prim.Native.Nat.{ℕ}
use mathlib.Core.List.{List}
use mathlib.Core.Path.{◌≡◌}
use borrow.Author.Tests.{eq-eqb, ne_eqb}
use Rattle.board_answers.specs.Answers.{packed}
use Rattle.cabinet_records.specs.declared.Record.{Record}
use Rattle.cabinet_records.specs.Cabinet.{is_free, personality_of}
use Rattle.cabinet_held.specs.Held.{held_step}
use Rattle.cabinet_parts.specs.Parts.{stepped_parts}

module _ (r : Record) (inputs : ℕ) (out : List ℕ) where
  pub step-free : {answer : ℕ} → r.held ≡ 0 → answer ≡ packed 24 0 → record { answer = answer; state = r.state; outputs = out } ≡ stepped_parts r inputs out
  unfolding stepped_parts is_free packed
  step-free e told = rw (eq-eqb r.held 0 e, told)

  pub step-held :
      {answer : ℕ} {state after b : List ℕ} →
      (r.held ≡ 0 → ⊥) →
      b ≡ personality_of r →
      record { answer = answer; state = state; outputs = after } ≡ held_step b r.first r.state inputs out →
      record { answer = answer; state = state; outputs = after } ≡ stepped_parts r inputs out
  unfolding stepped_parts is_free
  step-held e own told = rw (ne_eqb r.held 0 e) (rw own at told)
