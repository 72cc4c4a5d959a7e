-- The bits of turned tiles and rows. A mirrored tile has its columns as rows; row r of four tiles is a number with a byte of each; and group
-- j is bit j % 8 of byte j / 8.
use Prim.Native.Nat.{ℕ, zero, suc, ◌+◌, ◌*◌, ◌/◌, ◌%◌, ◌^◌, ◌≤◌, ◌<◌}
use mathlib.Core.Bool.{Bool}
use mathlib.Core.List.{List, [], ◌∷◌}
use mathlib.Core.Path.{◌≡◌, refl, ap, subst, ◌∙◌}
use native.Mathlib.Omega.{arith}
use lib.ListN.{get_or}
use Rattle.laws.specs.Bytes.{byte_at, two_at, four_at, bit}
use Rattle.laws.proofs.Bits.{bit-lower, bit-down}
use Rattle.laws.proofs.Bytes.{four-bit}
use Rattle.rules.specs.Personality.{group_count}
use Rattle.read_conflicts_matrix.specs.Matrix.{ConflictRows, SetRows}
use Rattle.read_conflicts_turned.specs.Turned.{names, is_in, TurnedTile, RowOf, Rows, Turned}

-- m is the tile t mirrored
abbrev Mirrored : ℕ → ℕ → Type 0
Mirrored t m = (r c : ℕ) → r < 8 → c < 8 → bit (8 * c + r) m ≡ bit (8 * r + c) t

module _ {b : List ℕ} (k : ℕ) {t m : ℕ} where
  pub conflicts-turned : (a : ℕ) → ConflictRows b k a t → Mirrored t m → TurnedTile b (names b a) k m
  unfolding names
  conflicts-turned a rows mirror = record { told = λ r c h l n. mirror c r l h ∙ rows.told c r l h n }

  pub sets-turned : SetRows b k t → Mirrored t m → TurnedTile b (is_in b) k m
  unfolding is_in
  sets-turned rows mirror = record { told = λ r c h l n. mirror c r l h ∙ rows.told c r l h n }

-- ── A row of four tiles ──

module _ (tiles : List ℕ) (r : ℕ) where
  -- row r of tile k
  abbrev pub row : ℕ → ℕ
  row k = get_or tiles k 0 / 2 ^ (8 * r) % 256

  abbrev bytes : List ℕ
  bytes = row 0 ∷ row 1 ∷ row 2 ∷ row 3 ∷ []

  row-bit : (k c : ℕ) → c < 8 → bit c (row k) ≡ bit (8 * r + c) (get_or tiles k 0)
  row-bit k c l = bit-lower 8 c (get_or tiles k 0 / 2 ^ (8 * r)) l ∙ bit-down (get_or tiles k 0) (8 * r) c

  small : (i : ℕ) → byte_at bytes i < 256
  unfolding byte_at
  small zero = omega arith
  small (suc zero) = omega arith
  small (suc (suc zero)) = omega arith
  small (suc (suc (suc zero))) = omega arith
  small (suc (suc (suc (suc i)))) = omega arith

  byte-row : (k : ℕ) → k < 4 → byte_at bytes (0 + k) ≡ row k
  unfolding byte_at
  byte-row zero l = refl
  byte-row (suc zero) l = refl
  byte-row (suc (suc zero)) l = refl
  byte-row (suc (suc (suc zero))) l = refl
  byte-row (suc (suc (suc (suc k)))) l = absurd (omega arith)

  pub row_told : {x : ℕ} → x ≡ row 0 + 256 * row 1 + 65536 * (row 2 + 256 * row 3) → RowOf tiles r x
  unfolding four_at two_at byte_at
  row_told e =
      record { told = λ k c h l. ap (bit (8 * k + c)) e ∙ four-bit bytes small 0 k c h l ∙ ap (bit c) (byte-row k h) ∙ row-bit k c l }

-- ── The groups of a row ──

pub rows-turned :
    {b : List ℕ} {turned : ℕ → ℕ → Bool} {tiles rows : List ℕ} →
    group_count b ≤ 32 →
    ((k : ℕ) → 8 * k < group_count b → TurnedTile b turned k (get_or tiles k 0)) →
    Rows tiles rows →
    Turned b turned rows
rows-turned {b} {turned} {tiles} {rows} few tile row =
    record {
      told = λ r j h l.
          let whole : 8 * (j / 8) + j % 8 ≡ j = omega arith in
          subst (λ (i : ℕ). bit i (get_or rows r 0) ≡ turned r i) whole
          ((row.told r h).told (j / 8) (j % 8) (omega (arith, l)) (omega arith)
          ∙ (tile (j / 8) (omega (arith, l))).told r (j % 8) h (omega arith) (omega (arith, l)));
    }
