-- The waits passed are stored.
use Rattle.laws.proofs.Arrays.{Stored}
use Rattle.state_forms.specs.Forms.{parts_of}
use Rattle.board_waits.proofs.WaitParts.{wait_part}
use Rattle.board_waits.proofs.put_waits.Given as goal

abbrev pub invariant-loop-i : goal.invariant-loop-i
invariant-loop-i l = Stored (parts_of (wait_part l.site)) l.initial.buffer 0 l.count l.buffer l.i
