-- A sound site has at most seven phases and eight movements.
use Rattle.std.proofs.Common.{arith}
use Rattle.board_waits.proofs.tried.Goals as goal

pub overflow_add-count : goal.overflow_add-count
overflow_add-count c =
    let sound = c.site.invariant in
    omega (arith, sound.phases, sound.movements)
