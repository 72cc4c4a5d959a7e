-- Lines in parts, how long they are, and a line at the start of a buffer.
use Prim.Native.Nat.{ℕ, ◌+◌, ◌≤◌, ◌<◌}
use mathlib.Core.List.{List, [], ◌∷◌, ◌++◌, map, map-append}
use mathlib.Core.Path.{◌≡◌}
use native.Mathlib.Numerals.{add-one}
use native.Mathlib.Omega.{arith}
use lib.ListN.{length, take, get_or, length-append, length-map}
use lib.Seq.{take-suc}
use Rattle.rules.specs.declared.state.Position.{Position}
use Rattle.rules.specs.TraceText.{colour_letter, line_tail}
use Rattle.base_text.specs.Put.{Put}
use Rattle.base_text.proofs.Puts.{put_front, put-length}
use Rattle.run_text.specs.First.{First}

-- the letters of one group more
pub letter-more :
    (colours : List ℕ) (i : ℕ) →
    i < length colours →
    map colour_letter (take (i + 1) colours) ≡ map colour_letter (take i colours) ++ (colour_letter (get_or colours i 0) ∷ [])
letter-more colours i h =
    rw (add-one i, take-suc colours i 0) (map-append colour_letter (take i colours) (get_or colours i 0 ∷ []))

pub tail-length : (position : Position) (colours : List ℕ) → length (line_tail position colours) ≡ length colours + 6
unfolding line_tail
tail-length position colours =
    omega (arith, length-append (map colour_letter colours) (10 ∷ []), length-map colours colour_letter)

-- a text that was put at the start and fits
pub put_first : {text old new : List ℕ} {next : ℕ} → Put text 0 old new next → next ≤ length old → First text old new next
put_first {text} {old} {new} {next} put h =
    let front = put_front put (omega (arith, put.place)) in
    record { size = front.0; fits = omega (arith, put-length put); bytes = front.1 }
