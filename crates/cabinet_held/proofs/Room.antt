-- The personality in its room.
use Prim.Native.Nat.{ℕ, ◌≤◌, ◌<◌, min}
use mathlib.Core.Logic.{⊎_elim}
use mathlib.Core.Path.{◌≡◌, sym, ap, ◌∙◌}
use native.Mathlib.Omega.{arith}
use lib.ListN.{length, take, length-take}
use lib.Seq.{take_all}
use Rattle.rules.specs.Laws.{greatest_length}
use Rattle.laws.proofs.Indices.{below-or-past}
use Rattle.state_forms.specs.Forms.{two}
use Rattle.cabinet_records.specs.declared.Record.{Record}
use Rattle.cabinet_records.specs.Cabinet.{length_of, personality_of}

module _ (r : Record) (long : length r.personality ≡ greatest_length) {n : ℕ} (e : n ≡ min (two.read r.length 0) greatest_length) where
  pub room-length : n ≡ length (take n r.personality)
  room-length = omega (arith, e, long, length-take n r.personality)

  -- a length above the room counts as the room
  pub room-part : take n r.personality ≡ personality_of r
  unfolding personality_of length_of
  room-part =
      ⊎_elim
      (λ (l : length_of r < greatest_length). let same : n ≡ length_of r = omega (arith, e) in ap (λ (m : ℕ). take m r.personality) same)
      (λ (l : greatest_length ≤ length_of r).
      take_all n r.personality (omega (arith, e, long)) ∙ sym (take_all (length_of r) r.personality (omega (arith, long))))
      (below-or-past (length_of r) greatest_length)
