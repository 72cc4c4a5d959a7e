use Rattle.board_retime.proofs.Differences.{time-bytes-laid}
use Rattle.board_retime.proofs.differs.time_byte.Goals as goal

pub returns : goal.returns
returns c =
    rw (c.between-4.ensures, c.between-3.ensures, c.between-2.ensures, c.between.ensures, ← c.p.view_is, ← c.sections.view_is)
    (time-bytes-laid _ c.sections.inside.layout c.args.i c.sections.invariant)
