-- New times for a record alter its state and nothing else. Refused, they alter nothing.
use Rattle.std.specs.Prelude.{Ok, Err}
use Prim.Native.Nat.{ℕ, ◌%◌}
use mathlib.Core.List.{List}
use mathlib.Core.Path.{◌≡◌, refl, ap, ◌∙◌}
use lib.ListN.{length, set, length-set}
use lib.Seq.{get_or-set_other, set-get_or}
use Rattle.rules.specs.Verdicts.{Verdict}
use Rattle.rules.specs.Verdicts.{Accepted, Refused}
use Rattle.rules.specs.Site.{times_in}
use Rattle.rules.specs.Call.{handed_back}
use Rattle.rules.specs.TimedCall.{retimed}
use Rattle.state_timed.specs.TimedLayout.{timed_bytes, timed_encoded, timed_decoded}
use Rattle.state_timed.proofs.TimedRoundTrips.{encoded-has-336}
use Rattle.board_answers.specs.Answers.{packed, packed_verdict}
use Rattle.board_retime.specs.RetimeCall.{retime_checks, retime_answer, retime_after}
use Rattle.cabinet_records.specs.Cabinet.{personality_of, free_record, with_state, record_of}
use Rattle.proof_cabinet.specs.Operations.{retiming, RetimingOthersStay, RetimingRefusalLeaves}

-- ── The bytes of the state ──

module _ (b old new : List ℕ) where
  length-for :
      (v : Verdict) →
      length old ≡ timed_bytes →
      length (handed_back v (timed_encoded (retimed (timed_decoded old) (times_in new))) old) ≡ timed_bytes
  unfolding handed_back
  length-for (Ok _) e = encoded-has-336 (retimed (timed_decoded old) (times_in new))
  length-for (Err r) e = e

  pub retimed-length : length old ≡ timed_bytes → length (retime_after b old new) ≡ timed_bytes
  unfolding retime_after
  retimed-length e = length-for (retime_checks b old new) e

  left-for : (v : Verdict) (next : List ℕ) → (packed_verdict v % 256 ≡ 0 → ⊥) → handed_back v next old ≡ old
  unfolding handed_back packed_verdict packed
  left-for (Ok _) next refused = absurd (refused refl)
  left-for (Err r) next refused = refl

  -- a refused call leaves them
  retimed-left : (retime_answer b old new % 256 ≡ 0 → ⊥) → retime_after b old new ≡ old
  unfolding retime_answer retime_after
  retimed-left refused = left-for (retime_checks b old new) (timed_encoded (retimed (timed_decoded old) (times_in new))) refused

-- ── The row ──

pub retiming-others-stay : RetimingOthersStay
unfolding RetimingOthersStay retiming record_of
retiming-others-stay row out k new = (λ j other. get_or-set_other row k j _ free_record other, length-set row k _)

pub retiming-refusal-leaves : RetimingRefusalLeaves
unfolding RetimingRefusalLeaves retiming record_of with_state
retiming-refusal-leaves row out k new refused =
    let r = record_of row k in
    ap (λ (s : List ℕ). set row k (with_state r s)) (retimed-left (personality_of r) r.state new refused) ∙ set-get_or row k free_record
