use Rattle.state_bytes.specs.Layout.{movement}
use Rattle.state_bytes.proofs.movements.put.Given as goal

abbrev pub ghost-put_row : goal.ghost-put_row
ghost-put_row a = movement.written
