use Rattle.std.proofs.Common.{◌≡◌, ◌<◌, ◌%◌, ◌/◌, ℕ, ◌∷◌, [], ◌∙◌, ap, arith}
use Rattle.rules.specs.Junctions.{two, four}
use Rattle.std.proofs.lemmas.List.Edits.{sets}
use Rattle.state_sealed.proofs.puts.put_four.Goals as goal

four_bytes : (x : ℕ) → x < 4294967296 → x % 256 ∷ x / 256 % 256 ∷ x / 65536 % 256 ∷ x / 16777216 % 256 ∷ [] ≡ four x
unfolding two four
four_bytes x h =
    let first : x % 65536 % 256 ≡ x % 256 = omega arith in
    let second : x % 65536 / 256 ≡ x / 256 % 256 = omega arith in
    let last : x / 65536 / 256 ≡ x / 16777216 % 256 = omega arith in
    rw (first, second, last)

pub returns : goal.returns
unfolding two four
returns c =
    c.put_all.ensures
    ∙ ap (sets c.args.bytes.now c.args.at) (c.to_le_bytes.ensures ∙ four_bytes c.args.x (omega arith))
