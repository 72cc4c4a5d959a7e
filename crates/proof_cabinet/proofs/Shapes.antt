-- Records keep the lengths of their arrays: two bytes of length, room for the longest personality, and the bytes of a state.
use Rattle.std.specs.Prelude.{Ok, Err}
use Prim.Native.Nat.{ℕ, ◌-◌, ◌≤◌, ◌<◌}
use mathlib.Core.List.{List}
use mathlib.Core.Logic.{⊎_elim}
use mathlib.Core.Path.{◌≡◌, refl, sym, subst, ap, ◌∙◌}
use native.Mathlib.Omega.{arith}
use lib.ListN.{length, get_or, set, replicate, length-append, length-set, length-replicate, get_or-eq_default}
use lib.Seq.{get_or-set_same, get_or-set_other}
use Rattle.rules.specs.Verdicts.{Verdict}
use Rattle.rules.specs.Verdicts.{Accepted, Refused}
use Rattle.laws.proofs.Indices.{below-or-past, same-or-apart}
use Rattle.rules.specs.Personality.{verdict_of}
use Rattle.rules.specs.Site.{site_of}
use Rattle.rules.specs.Timed.{TimedState, fresh_timed}
use Rattle.rules.specs.Call.{handed_back}
use Rattle.rules.specs.Laws.{greatest_length, AcceptedIsShort}
use Rattle.proof_acceptance.proofs.Refusals.{accepted-is-short}
use Rattle.state_timed.specs.TimedLayout.{timed_bytes, timed_encoded}
use Rattle.state_timed.proofs.TimedRoundTrips.{encoded-has-336}
use Rattle.board_step.specs.StepCall.{step_checks, state_after}
use Rattle.board_retime.specs.RetimeCall.{retime_after}
use Rattle.cabinet_records.specs.declared.Record.{Record}
use Rattle.cabinet_records.specs.Cabinet.{personality_of, free_record, holding, with_state, Shaped, record_of, own_outputs, fresh_bytes, placing_verdict, held_verdict, taking_verdict, Returned, returned_for, placing, stepped, stepping, taking_out, place_site, step_site, take_out, doing}
use Rattle.cabinet_records.proofs.Checks.{placing-read}
use Rattle.proof_cabinet.specs.Operations.{retiming, cabinet_act, retime_site, operating}
use Rattle.proof_cabinet.specs.CabinetAnswers.{ShapeStays}
use Rattle.proof_cabinet.proofs.Retimings.{retimed-length}

-- ── The bytes of a state ──

after-for : (v : Verdict) (next : TimedState) (old : List ℕ) → length old ≡ timed_bytes → length (handed_back v (timed_encoded next) old) ≡ timed_bytes
unfolding handed_back
after-for (Ok _) next old e = encoded-has-336 next
after-for (Err r) next old e = e

after-length : (b old : List ℕ) (inputs room : ℕ) → length old ≡ timed_bytes → length (state_after b old inputs room) ≡ timed_bytes
unfolding state_after
after-length b old inputs room e = after-for (step_checks b old inputs room) _ old e

-- ── The records that calls store ──

free-shape : Shaped free_record
unfolding free_record
free-shape =
    record {
      size = refl;
      personality = length-replicate {A = ℕ} greatest_length 0;
      state = length-replicate {A = ℕ} timed_bytes 0;
    }

holding-shape : (b : List ℕ) (first : ℕ) → verdict_of b ≡ Accepted → Shaped (holding b first (fresh_bytes b))
unfolding holding AcceptedIsShort
holding-shape b first e =
    let rest : List ℕ = replicate (greatest_length - length b) 0 in
    record {
      size = refl;
      personality = omega (arith, accepted-is-short.1 b e, length-append b rest, length-replicate {A = ℕ} (greatest_length - length b) 0);
      state = encoded-has-336 (fresh_timed (site_of b));
    }

stepped-shape : (r : Record) (inputs room : ℕ) → Shaped r → Shaped (with_state r (state_after (personality_of r) r.state inputs room))
unfolding with_state
stepped-shape r inputs room shaped =
    record { size = shaped.size; personality = shaped.personality; state = after-length (personality_of r) r.state inputs room shaped.state }

retimed-shape : (r : Record) (new : List ℕ) → Shaped r → Shaped (with_state r (retime_after (personality_of r) r.state new))
unfolding with_state
retimed-shape r new shaped =
    record { size = shaped.size; personality = shaped.personality; state = retimed-length (personality_of r) r.state new shaped.state }

-- ── The row ──

set-shape : (row : List Record) → ((j : ℕ) → Shaped (record_of row j)) → (k : ℕ) (r : Record) → Shaped r → (j : ℕ) → Shaped (record_of (set row k r) j)
unfolding record_of
set-shape row shaped k r new j =
    ⊎_elim
    (λ (same : j ≡ k).
    ⊎_elim
    (λ (below : k < length row).
    subst Shaped (sym (ap (λ (m : ℕ). get_or (set row k r) m free_record) same ∙ get_or-set_same row k r free_record below)) new)
    (λ (past : length row ≤ k).
    subst Shaped (sym (get_or-eq_default (set row k r) free_record (omega (arith, same, length-set row k r, past)))) free-shape)
    (below-or-past k (length row)))
    (λ (other : j ≡ k → ⊥). subst Shaped (sym (get_or-set_other row k j r free_record other)) (shaped j))
    (same-or-apart j k)

shape-for :
    (v : Verdict) (done : Returned) (row : List Record) (out : List ℕ) →
    ((j : ℕ) → Shaped (record_of row j)) →
    (v ≡ Accepted → (j : ℕ) → Shaped (record_of done.row j)) →
    (j : ℕ) → Shaped (record_of (returned_for v done row out).row j)
unfolding returned_for
shape-for (Ok _) done row out shaped h = h refl
shape-for (Err r) done row out shaped h = shaped

pub shape-stays : ShapeStays
unfolding ShapeStays operating doing placing stepping stepped taking_out retiming
shape-stays row out (cabinet_act (place_site b k first)) shaped =
    shape-for (placing_verdict row out b k first) _ row out shaped
    (λ e. set-shape row shaped k _ (holding-shape b first (placing-read row out b k first e)))
shape-stays row out (cabinet_act (step_site k inputs)) shaped =
    shape-for (held_verdict row k) _ row out shaped
    (λ e. set-shape row shaped k _ (stepped-shape (record_of row k) inputs (length (own_outputs (record_of row k) out)) (shaped k)))
shape-stays row out (cabinet_act (take_out k)) shaped =
    shape-for (taking_verdict row out k) _ row out shaped (λ e. set-shape row shaped k free_record free-shape)
shape-stays row out (retime_site k new) shaped = set-shape row shaped k _ (retimed-shape (record_of row k) new (shaped k))
