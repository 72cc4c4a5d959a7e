use Rattle.state_forms.specs.Forms.{two}
use Rattle.state_times.proofs.phases.put_early.Given as goal

abbrev pub ghost-put_row : goal.ghost-put_row
ghost-put_row a = λ t. two.written t.early
