-- A number below 128 without the bit that 4 is stays below 3 exactly if it is a known mode: tried for each.
use Prim.Native.Nat.{ℕ, ◌<◌}
use mathlib.Core.Bool.{not}
use mathlib.Core.Path.{◌≡◌, refl}
use lib.Bits.{bit_and}
use lib.Dec.{leb}
use Rattle.rules.specs.Personality.{known_mode}
use Rattle.laws.specs.Folds.{all_of}
use Rattle.laws.proofs.Tables.{table_same}

pub mode-low-bits : (mode : ℕ) → mode < 128 → leb 3 (bit_and mode 123) ≡ not (known_mode mode)
unfolding all_of known_mode
mode-low-bits = table_same (λ m. leb 3 (bit_and m 123)) (λ m. not (known_mode m)) 128 refl
