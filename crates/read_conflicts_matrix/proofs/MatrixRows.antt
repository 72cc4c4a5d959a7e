-- What the tiles hold: the rows of a band are the bytes of its records, and so the conflict sets or the phase sets of its groups.
use Prim.Native.Nat.{ℕ, ◌+◌, ◌*◌, ◌≤◌, ◌<◌}
use mathlib.Core.List.{List}
use mathlib.Core.Path.{sym, ap, ◌∙◌}
use native.Mathlib.Nat.{add-mul}
use native.Mathlib.Omega.{arith}
use Rattle.laws.specs.Bytes.{byte_at, bit}
use Rattle.rules.specs.Personality.{body_at, record_at, group_count, groups_head, conflicts_head, group_set, conflict_set}
use Rattle.laws.proofs.Bytes.{four-bit}
use Rattle.proof_acceptance.proofs.Sections.{record-within}
use Rattle.read_conflicts_matrix.specs.Matrix.{ByteRows, BandRows, ConflictRows, SetRows}

-- row r of a band is in the bytes
pub row-held :
    {n : ℕ} (head width count a k r : ℕ) →
    k < width →
    8 * a + r < count →
    body_at head + count * width ≤ n →
    head + 4 + 8 * a * width + k + r * width < n
unfolding record_at body_at
row-held head width count a k r h l room = omega (arith, record-within head width count (8 * a + r) l, add-mul (8 * a) r width)

-- the rows of a band are bytes that stand one width apart
pub band-rows :
    {b : List ℕ} (head width count a k rows : ℕ) {t : ℕ} →
    ((r : ℕ) → r < 8 → 8 * a + r < count → r < rows) →
    ByteRows b (head + 4 + 8 * a * width + k) width rows t →
    BandRows b head width count a k t
unfolding record_at body_at
band-rows {b} head width count a k rows there bytes =
    record {
      told = λ r c h l m.
          bytes.told r c (there r h m) l ∙ ap (λ (j : ℕ). bit c (byte_at b j)) (omega (arith, add-mul (8 * a) r width));
    }

module _ {b : List ℕ} (a : ℕ) {t : ℕ} where
  pub conflict-rows :
      (k : ℕ) → ((i : ℕ) → byte_at b i < 256) → k < 4 → BandRows b (conflicts_head b) 4 (group_count b) a k t → ConflictRows b a k t
  unfolding conflict_set
  conflict-rows k small below rows =
      record {
        told = λ r c h l m.
            rows.told r c h l m ∙ sym (four-bit b small (record_at (conflicts_head b) 4 (8 * a + r)) k c below l);
      }

  pub set-rows : BandRows b (groups_head b) 2 (group_count b) a 0 t → SetRows b a t
  unfolding group_set
  set-rows rows =
      record { told = λ r c h l m. rows.told r c h l m ∙ ap (λ (j : ℕ). bit c (byte_at b j)) (omega arith) }
