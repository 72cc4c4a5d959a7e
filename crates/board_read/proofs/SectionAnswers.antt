-- The answers of the section lookup by cases.
use Prim.Native.Nat.{ℕ, ◌+◌, ◌*◌, ◌≤◌}
use mathlib.Core.List.{List}
use mathlib.Core.Path.{◌≡◌}
use Rattle.rules.specs.Verdicts.{Accepted, Refused}
use Rattle.laws.specs.Bytes.{two_at}
use Rattle.rules.specs.Personality.{body_at, body_length}
use Rattle.rules.specs.Lookup.{lookup_verdict, head_of}
use Rattle.board_answers.specs.Answers.{packed, packed_verdict}
use Rattle.board_read.specs.SectionCall.{section_for, section_answer}
use Rattle.proof_acceptance.proofs.Places.{last_place, lookup-named}

module _ (b : List ℕ) (kind : ℕ) where
  pub section-near : {number place : ℕ} → lookup_verdict b kind ≡ Refused number place → place ≤ last_place
  section-near {number} {place} e = (lookup-named b kind number place e).1

  pub section-refused : {number place : ℕ} (r : ℕ) → lookup_verdict b kind ≡ Refused number place → r ≡ packed number place → r ≡ section_answer b kind
  unfolding section_answer section_for packed_verdict
  section-refused r e p = rw (e, p)

  pub section-found :
      (head size r : ℕ) →
      lookup_verdict b kind ≡ Accepted →
      head ≡ head_of b kind →
      size ≡ two_at b head →
      r ≡ 256 * (head + 4) + 1099511627776 * size →
      r ≡ section_answer b kind
  unfolding section_answer section_for body_at body_length
  section-found head size r found h s p = rw (p, found, s, h)
