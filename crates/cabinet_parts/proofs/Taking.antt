-- Taking out, by cases: a free record is refused with 24; a held one is what the call on its personality gives.
use Prim.Native.Nat.{ℕ}
use mathlib.Core.Bool.{true, false}
use mathlib.Core.List.{List}
use mathlib.Core.Path.{◌≡◌, sym, ◌∙◌}
use lib.ListN.{length, replicate}
use Rattle.rules.specs.Laws.{greatest_length}
use Rattle.state_forms.specs.Forms.{two}
use Rattle.state_timed.specs.TimedLayout.{timed_bytes}
use borrow.Author.Tests.{eq-eqb, ne_eqb}
use Rattle.rules.specs.Verdicts.{Verdict}
use Rattle.rules.specs.Verdicts.{Accepted, Refused}
use Rattle.rules.specs.Call.{handed_back}
use Rattle.rules.specs.Verdicts.{◌or_else◌, refuse_if}
use Rattle.board_answers.specs.Answers.{packed, packed_verdict}
use Rattle.cabinet_records.specs.declared.Record.{Record}
use Rattle.cabinet_records.specs.Cabinet.{is_free, personality_of, free_record}
use Rattle.cabinet_held.specs.Held.{taking_checks, turned, darkened}
use Rattle.cabinet_parts.specs.Parts.{on_record_for, taken_out_parts}

pub free-record : (r : Record) → r.held ≡ 0 → is_free r ≡ true
unfolding is_free
free-record r e = eq-eqb r.held 0 e

pub held-record : (r : Record) → (r.held ≡ 0 → ⊥) → is_free r ≡ false
unfolding is_free
held-record r e = ne_eqb r.held 0 e

-- ── Taking out ──

pub cleared :
    (size room state : List ℕ) {told personality after : List ℕ} →
    length size ≡ two.width → told ≡ replicate (length size) 0 →
    length room ≡ greatest_length → personality ≡ replicate (length room) 0 →
    length state ≡ timed_bytes → after ≡ replicate (length state) 0 →
    record { held = 0; first = 0; length = told; personality = personality; state = after } ≡ free_record
unfolding free_record
cleared size room state wide d long e long' f = rw (d, wide, e, long, f, long')

module _ (r : Record) (out : List ℕ) where
  pub taking-free : {answer : ℕ} → is_free r ≡ true → answer ≡ packed 24 0 → record { answer = answer; kept = r; outputs = out } ≡ taken_out_parts r out
  unfolding taken_out_parts on_record_for ◌or_else◌ refuse_if packed_verdict
  taking-free free e = rw (free, e)

  module _
      (held : is_free r ≡ false)
      {b after : List ℕ}
      {v : Verdict}
      (own : b ≡ personality_of r)
      (e : v ≡ taking_checks b r.first (length out))
      (shown : after ≡ darkened b r.first out) where
    checked : taking_checks (personality_of r) r.first (length out) ≡ v
    checked = sym (rw own at e)

    pub taking-accepted : {kept : Record} → v ≡ Accepted → kept ≡ free_record → record { answer = 0; kept = kept; outputs = after } ≡ taken_out_parts r out
    unfolding taken_out_parts on_record_for ◌or_else◌ refuse_if turned handed_back
    taking-accepted f free = rw (shown, own, held, checked ∙ f, free)

    pub taking-refused :
        {answer number place : ℕ} →
        v ≡ Refused number place →
        answer ≡ packed number place →
        record { answer = answer; kept = r; outputs = after } ≡ taken_out_parts r out
    unfolding taken_out_parts on_record_for ◌or_else◌ refuse_if turned handed_back packed_verdict
    taking-refused f p = rw (shown, own, held, checked ∙ f, p)
