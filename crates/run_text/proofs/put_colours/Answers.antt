use Rattle.std.proofs.Common.{◌+◌, arith, ap, set}
use Rattle.base_text.proofs.Puts.{put_as, put_then}
use Rattle.run_text.proofs.Lines.{letter-more}
use Rattle.run_text.proofs.put_colours.Goals as goal

pub loop-i-preserved : goal.loop-i-preserved
loop-i-preserved c =
    let at = c.loop-i in
    let a = c.args in
    put_as (letter-more a.colours.now at.i (omega arith))
    (put_then at.invariant (record { place = omega arith; bytes = ap (set at.out (a.at + at.i)) c.colour_letter.ensures }))
