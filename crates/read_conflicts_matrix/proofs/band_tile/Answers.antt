use Rattle.std.proofs.Common.{◌*◌, ◌≤◌, arith}
use Rattle.std.proofs.Common.{mul-le-mul}
use Rattle.laws.specs.Bytes.{byte_at}
use Rattle.read_conflicts_matrix.proofs.MatrixRows.{row-held, band-rows}
use Rattle.read_conflicts_matrix.proofs.band_tile.Goals as goal

pub tile-requires : goal.tile-requires
tile-requires c =
    let at = c.args in
    let before : 8 * at.a ≤ 32 = omega arith in
    let narrow : at.width ≤ 4 = omega arith in
    let near = mul-le-mul before narrow in
    (omega arith, omega arith, omega arith, λ r l. row-held at.head at.width at.count at.a at.k r (omega arith) (omega (arith, l)) (omega arith))

pub tile-requires-else-left-lt8 : goal.tile-requires-else-left-lt8
tile-requires-else-left-lt8 c =
    let at = c.args in
    let before : 8 * at.a ≤ 32 = omega arith in
    let narrow : at.width ≤ 4 = omega arith in
    let near = mul-le-mul before narrow in
    (omega arith, omega arith, omega arith, λ r l. row-held at.head at.width at.count at.a at.k r (omega arith) (omega (arith, l)) (omega arith))

pub returns-then-left-lt8 : goal.returns-then-left-lt8
unfolding byte_at
returns-then-left-lt8 c =
    let at = c.args in
    (band-rows at.head at.width at.count at.a at.k _ (λ r h l. omega arith) c.tile.ensures, λ i. omega (arith, c.type_inv.s i))

pub returns-else-left-lt8 : goal.returns-else-left-lt8
unfolding byte_at
returns-else-left-lt8 c =
    let at = c.args in
    (band-rows at.head at.width at.count at.a at.k _ (λ r h l. omega arith) c.tile-else-left-lt8.ensures, λ i. omega (arith, c.type_inv.s i))
