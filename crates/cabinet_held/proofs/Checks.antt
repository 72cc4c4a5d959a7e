-- What the checks tell: no place of a refusal is above the length of the longest personality, and if they pass, the personality
-- and its outputs have room.
use Rattle.std.specs.Prelude.{Ok, Err, IfErr}
use Prim.Native.Nat.{ℕ, ◌+◌, ◌≤◌}
use mathlib.Core.Bool.{Bool, not, ◌||◌}
use mathlib.Core.List.{List}
use mathlib.Core.Path.{◌≡◌, refl, sym, ◌∙◌}
use native.Mathlib.Omega.{arith}
use borrow.Author.Tests.{ltb-false}
use lib.Dec.{ltb}
use lib.ListN.{length}
use Rattle.rules.specs.Verdicts.{Verdict}
use Rattle.rules.specs.Verdicts.{Accepted}
use Rattle.rules.specs.declared.answer.Refusal.{Refusal}
use Rattle.rules.specs.Laws.{greatest_length, AcceptedIsShort}
use Rattle.rules.specs.Personality.{verdict_of}
use Rattle.rules.specs.Verdicts.{refuse_if}
use Rattle.laws.proofs.Booleans.{or-false-left}
use Rattle.rules.proofs.Verdicts.{or-first, or_later, refuse-passed}
use Rattle.proof_acceptance.proofs.Refusals.{accepted-is-short}
use Rattle.board_answers.proofs.Answers.{Near, near_read, near_if, near_or}
use Rattle.cabinet_records.specs.Cabinet.{outputs_of, past_last}
use Rattle.cabinet_records.proofs.Checks.{all-passed}
use Rattle.cabinet_held.specs.Held.{held_checks, taking_checks, placing_checks}

-- ── Places ──

pub held-near : (b : List ℕ) (first : ℕ) → Near (held_checks b first)
unfolding held_checks
held-near b first = near_or (verdict_of b) _ (near_read b) (near_if _ 25)

pub taking-near : (b : List ℕ) (first room : ℕ) → Near (taking_checks b first room)
unfolding taking_checks
taking-near b first room = near_or (held_checks b first) _ (held-near b first) (near_if _ 14)

pub placing-near : (b : List ℕ) (free met : Bool) (first room : ℕ) → Near (placing_checks b free met first room)
unfolding placing_checks
placing-near b free met first room = near_or (verdict_of b) _ (near_read b) (near_or _ _ (near_if _ 24) (near_or _ _ (near_if _ 25) (near_if _ 14)))

pub near_err : {v w : Verdict} {r : Refusal} → w ≡ v → Near v → w ≡ Err r → r.place ≤ greatest_length
near_err {r = r} e near f = near.told r.number r.place (sym e ∙ f)

pub near_plain : {w : Verdict} (v : Verdict) → w ≡ v → Near v → IfErr w (λ r. r.place ≤ greatest_length)
near_plain (Ok _) e near = rw e tt
near_plain (Err r) e near = rw e (near.told r.number r.place refl)

-- ── Checks that pass ──

pub accepted-fits : (b : List ℕ) → verdict_of b ≡ Accepted → length b ≤ greatest_length
unfolding AcceptedIsShort
accepted-fits b e = accepted-is-short.1 b e

module _ (b : List ℕ) (first : ℕ) where
  held-within : held_checks b first ≡ Accepted → first + outputs_of b ≤ 32
  unfolding held_checks past_last
  held-within e =
      ltb-false 32 (first + outputs_of b)
      (refuse-passed (past_last first (outputs_of b)) 25 0 (or_later (verdict_of b) (refuse_if (past_last first (outputs_of b)) 25 0) e))

  pub taking-fits : {room : ℕ} → taking_checks b first room ≡ Accepted → first + outputs_of b ≤ room
  unfolding taking_checks
  taking-fits {room} e =
      let short = refuse_if (ltb room 32) 14 0 in
      let long = ltb-false room 32 (refuse-passed (ltb room 32) 14 0 (or_later (held_checks b first) short e)) in
      omega (arith, long, held-within (or-first (held_checks b first) short e))

module _ (b : List ℕ) (free met : Bool) (first room : ℕ) (e : placing_checks b free met first room ≡ Accepted) where
  pub placing-read : verdict_of b ≡ Accepted
  unfolding placing_checks
  placing-read = (all-passed (verdict_of b) (not free) (past_last first (outputs_of b) || met) (ltb room 32) e).0

  pub placing-within : first + outputs_of b ≤ 32
  unfolding placing_checks past_last
  placing-within =
      let within = (all-passed (verdict_of b) (not free) (past_last first (outputs_of b) || met) (ltb room 32) e).2 in
      ltb-false 32 (first + outputs_of b) (or-false-left (past_last first (outputs_of b)) met within)

  pub placing-fits : first + outputs_of b ≤ room
  unfolding placing_checks
  placing-fits =
      let long = (all-passed (verdict_of b) (not free) (past_last first (outputs_of b) || met) (ltb room 32) e).3 in
      omega (arith, placing-within, ltb-false room 32 long)
