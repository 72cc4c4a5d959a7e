-- Placing in a record, by the verdict of its checks: the record as it was, or one that holds the personality.
use Prim.Native.Nat.{ℕ, ◌-◌}
use mathlib.Core.Bool.{Bool}
use mathlib.Core.List.{List, ◌++◌}
use mathlib.Core.Path.{◌≡◌, sym, ◌∙◌}
use lib.ListN.{length, replicate}
use lib.Seq.{sets}
use borrow.Author.Tests.{eq-eqb}
use Rattle.rules.specs.Verdicts.{Verdict}
use Rattle.rules.specs.Verdicts.{Accepted, Refused}
use Rattle.rules.specs.Call.{handed_back}
use Rattle.rules.specs.Laws.{greatest_length}
use Rattle.rules.specs.Site.{site_of}
use Rattle.rules.specs.Timed.{fresh_timed}
use Rattle.state_forms.specs.Forms.{two}
use Rattle.state_timed.specs.TimedLayout.{timed_bytes, timed_encoded_over}
use Rattle.board_answers.specs.Answers.{packed, packed_verdict}
use Rattle.cabinet_records.specs.declared.Record.{Record}
use Rattle.cabinet_records.specs.Cabinet.{is_free, holding, fresh_bytes}
use Rattle.cabinet_held.specs.Held.{placing_checks, turned, reddened}
use Rattle.cabinet_parts.specs.Parts.{on_record_for, placed_parts}
use Rattle.laws.proofs.Arrays.{sets-whole}

module _ (r : Record) (met : Bool) (b : List ℕ) (first : ℕ) (out : List ℕ) {v : Verdict} {after : List ℕ}
    (told : v ≡ placing_checks b (is_free r) met first (length out)) (shown : after ≡ reddened b (is_free r) met first out) where
  pub placing-refused : {answer number place : ℕ} → v ≡ Refused number place → answer ≡ packed number place → record { answer = answer; kept = r; outputs = after } ≡ placed_parts r met b first out
  unfolding placed_parts on_record_for turned handed_back packed_verdict
  placing-refused f p = rw (shown, sym told ∙ f, p)

  pub placing-accepted : {kept : Record} → v ≡ Accepted → kept ≡ holding b first (fresh_bytes b) → record { answer = 0; kept = kept; outputs = after } ≡ placed_parts r met b first out
  unfolding placed_parts on_record_for turned handed_back
  placing-accepted f held = rw (shown, sym told ∙ f, held)

-- the parts of a record that holds a personality
pub held-parts :
    (b size room state : List ℕ) (first : ℕ) {told personality after : List ℕ} →
    length size ≡ two.width → told ≡ sets size 0 (two.written (length b)) →
    length room ≡ greatest_length → personality ≡ b ++ replicate (length room - length b) 0 →
    length state ≡ timed_bytes → after ≡ timed_encoded_over (fresh_timed (site_of b)) state →
    record { held = 1; first = first; length = told; personality = personality; state = after } ≡ holding b first (fresh_bytes b)
unfolding holding timed_encoded_over
held-parts b size room state first wide d long e long' f =
    rw (d ∙ sets-whole size (two.written (length b)) (sym wide), e, f, long, eq-eqb (length state) timed_bytes long')
