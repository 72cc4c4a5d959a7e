use Rattle.std.proofs.Common.{ℕ, ◌*◌, ◌-◌, ◌<◌, ◌≤◌, arith}
use Rattle.laws.specs.Bytes.{byte_at, eight_at}
use Rattle.rules.specs.Personality.{phase_count}
use Rattle.read_detectors.proofs.Words.{both-tests, four-good}
use Rattle.read_detectors.proofs.four_good.Goals as goal

pub returns : goal.returns
unfolding byte_at eight_at
returns c t =
    let b = c.args.s.now in
    let bytes : (i : ℕ) → byte_at b i < 256 = λ i. omega (arith, c.type_inv.s i) in
    let few : phase_count b ≤ 7 = omega (arith, c.requires.0) in
    let limits = 0x0001000100010001 * (0x7d80 - c.from.result) in
    let passes = both-tests c.eight_in-records.result 0x8080808080808080 0x7b7f7b7f7b7f7b7f limits t in
    four-good b bytes few c.args.d (rw (c.eight_in-records.ensures, c.from.ensures, c.requires.0, c.requires.1) at passes)
