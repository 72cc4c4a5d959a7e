use Rattle.state_times.specs.TimesLayout.{six, six_of}
use Rattle.state_times.proofs.phases.put.Given as goal

abbrev pub ghost-put_row : goal.ghost-put_row
ghost-put_row a = λ t. six.written (six_of t)
