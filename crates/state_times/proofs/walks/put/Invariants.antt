use Rattle.state_times.specs.TimesLayout.{walk}
use Rattle.state_times.proofs.walks.put.Given as goal

abbrev pub ghost-put_row : goal.ghost-put_row
ghost-put_row a = walk.written
