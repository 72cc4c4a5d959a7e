-- A step call without a number in its answer is accepted: the number of a refusal is from 1 to 255. Then its bytes are a state, and the site has at
-- most 32 groups.
use Rattle.std.specs.Prelude.{Ok, Err}
use Prim.Native.Nat.{ℕ, ◌/◌, ◌%◌, ◌≤◌, ◌<◌}
use mathlib.Core.Bool.{Bool, true, false}
use mathlib.Core.List.{List, []}
use mathlib.Core.Logic.{inl, inr, ⊎_elim}
use mathlib.Core.Path.{◌≡◌, refl}
use native.Mathlib.Omega.{arith}
use lib.Dec.{eqb, ltb}
use lib.ListN.{length, take, replicate}
use borrow.Author.Tests.{ltb-true, eq-eqb, ne_eqb}
use Rattle.laws.specs.Bytes.{byte_at, eight_at}
use Rattle.laws.proofs.Booleans.{and_right, decided, never_both}
use Rattle.rules.specs.declared.state.KeptState.{KeptState}
use Rattle.rules.specs.Verdicts.{Verdict}
use Rattle.rules.specs.Verdicts.{Accepted, Refused}
use Rattle.rules.specs.Personality.{group_count, verdict_of}
use Rattle.rules.specs.Site.{site_of}
use Rattle.rules.specs.Laws.{AcceptedIsSound}
use Rattle.rules.specs.TraceText.{step_line}
use Rattle.rules.specs.Trace.{refusal, cut, record_part, most_steps}
use Rattle.rules.specs.Call.{bound_for, handed_back}
use Rattle.rules.proofs.Verdicts.{or-first}
use Rattle.proof_acceptance.proofs.Acceptance.{accepted-is-sound}
use Rattle.proof_acceptance.proofs.Places.{number_fits}
use Rattle.proof_acceptance.proofs.Refusals.{Refusals, call-refusals}
use Rattle.state_bytes.specs.Layout.{state}
use Rattle.state_timed.specs.TimedLayout.{is_timed, timed_decoded}
use Rattle.state_timed.proofs.TimedRoundTrips.{encoded-is-timed}
use Rattle.state_valid.specs.StateOf.{is_state_of}
use Rattle.board_answers.specs.Answers.{packed, packed_outcome}
use Rattle.board_step.specs.StepCall.{step_checks, step_answer, state_after, colours_after}
use Rattle.run_parts.specs.Parts.{answer_part, line_after, up_to_last, call_part, part_of}
use Rattle.run_parts.specs.Prints.{Prints}

abbrev Fits : ℕ → ℕ → Type 0
Fits number place = (1 ≤ number) × (number < 256)

no_number : (v : Verdict) (wait : ℕ) → Refusals Fits v → packed_outcome (bound_for v wait) % 256 ≡ 0 → v ≡ Accepted
unfolding bound_for packed_outcome packed
no_number (Ok _) wait fits e = refl
no_number (Err r) wait fits e = let fit = fits r.number r.place refl in absurd (omega arith)

module _ (b old : List ℕ) (inputs room : ℕ) (e : step_answer b old inputs room % 256 ≡ 0) where
  accepted : step_checks b old inputs room ≡ Accepted
  unfolding step_answer step_checks
  accepted =
      no_number (step_checks b old inputs room) _
      (call-refusals b Fits (λ number place known l. number_fits b number place (inl (known, l))) (is_state_of b old) inputs room
      (λ number known. number_fits b number 0 (inr (known, refl))))
      e

  pub state-timed : is_timed (state_after b old inputs room) ≡ true
  unfolding state_after handed_back
  state-timed = rw accepted (encoded-is-timed _)

  pub few-groups : group_count b ≤ 32
  unfolding AcceptedIsSound site_of step_checks
  few-groups = (accepted-is-sound b (or-first (verdict_of b) _ accepted)).groups.1

-- ── What the answer prints ──

module _ (b old : List ℕ) (n inputs : ℕ) {answer : ℕ} (e : answer ≡ step_answer b old inputs 32) where
  pub call-refused : (answer % 256 ≡ 0 → ⊥) → call_part b old n inputs ≡ refusal (answer % 256) (answer / 256)
  unfolding call_part up_to_last answer_part
  call-refused h = rw (← e, ne_eqb (answer % 256) 0 h)

  pub call-accepted : answer % 256 ≡ 0 → call_part b old n inputs ≡ record { text = line_after b old n inputs; more = ltb n most_steps }
  unfolding call_part up_to_last answer_part
  call-accepted h = rw (← e, eq-eqb (answer % 256) 0 h)

-- the line of the bytes and the colours that the call left
pub line-told :
    (b old : List ℕ) (n inputs : ℕ) {kept : KeptState} {bytes colours : List ℕ} {groups : ℕ} →
    kept ≡ state.read bytes 0 →
    bytes ≡ state_after b old inputs 32 →
    groups ≡ byte_at b 5 →
    colours ≡ colours_after b old inputs (replicate 32 0) →
    step_line n kept.core.position (take groups colours) ≡ line_after b old n inputs
unfolding line_after group_count timed_decoded
line-told b old n inputs read stored count shown = rw (read, stored, count, shown)

-- ── No text ──

pub nothing : (out : List ℕ) (more : Bool) → Prints (record { text = []; more = more }) out out 0 more
nothing out more = record { text = record { size = refl; fits = omega arith; bytes = refl }; more = refl }

-- ── The end of the trace ──

-- a record after which the trace goes on is that of a step before the last
pub before_last : (b old : List ℕ) (n : ℕ) (bytes : List ℕ) → (part_of b old n bytes).more ≡ true → n < most_steps
unfolding part_of record_part call_part up_to_last cut
before_last b old n bytes e =
    let called = answer_part (step_answer b old (eight_at bytes 0) 32) (line_after b old n (eight_at bytes 0)) in
    ⊎_elim
    (λ (none : eqb (length bytes) 0 ≡ true). absurd (never_both (rw none at e) refl))
    (λ (some : eqb (length bytes) 0 ≡ false).
    ⊎_elim
    (λ (short : ltb (length bytes) 8 ≡ true). absurd (never_both (rw (some, short) at e) refl))
    (λ (full : ltb (length bytes) 8 ≡ false). ltb-true n most_steps (and_right called.more (ltb n most_steps) (rw (some, full) at e)))
    (decided (ltb (length bytes) 8)))
    (decided (eqb (length bytes) 0))
