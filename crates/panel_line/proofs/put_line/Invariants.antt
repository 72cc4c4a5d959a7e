-- The line with the reasons passed is put.
use Rattle.panel_text.specs.Text.{line}
use Rattle.base_text.specs.Put.{Put}
use Rattle.panel_line.proofs.Told.{first_told}
use Rattle.panel_line.proofs.put_line.Given as goal

abbrev pub invariant-loop-reason : goal.invariant-loop-reason
invariant-loop-reason l = Put (line l.fn.why.phase (first_told l.reason-items l.reason-index)) 0 l.fn.out l.out l.next
