-- The length is that of the line with the reasons passed, of which each has at most 17 bytes.
use Rattle.std.proofs.Common.{◌+◌, ◌*◌, ◌≤◌, ◌≡◌, length}
use Rattle.panel_text.specs.Text.{line}
use Rattle.panel_line.proofs.Told.{first_told}
use Rattle.panel_line.proofs.line_length.Given as goal

abbrev pub invariant-loop-reason : goal.invariant-loop-reason
invariant-loop-reason l =
    (l.total ≡ length (line l.fn.why.phase (first_told l.reason-items l.reason-index))) × (l.total ≤ 7 + 17 * l.reason-index)
