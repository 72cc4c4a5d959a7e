-- The parts of the line are put one behind the other.
use Rattle.rules.specs.IntervalTable.{letter_of}
use Rattle.rules.specs.TraceText.{line_tail}
use Rattle.base_text.proofs.Puts.{put_then}
use Rattle.run_text.proofs.put_tail.Goals as goal

pub returns : goal.returns
unfolding line_tail letter_of
returns c =
    put_then (rw (c.phase_letter-phase.ensures, c.interval_row-letter.ensures) at c.put_bytes-first.ensures)
    (put_then c.put_colours-second.ensures c.put_bytes.ensures)
