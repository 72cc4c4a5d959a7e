use Rattle.std.proofs.Common.{rules, sym}
use lib.Seq.{length-take-le}
use Rattle.state_sealed.proofs.Written.{sealed-written}
use Rattle.state_sealed.proofs.write_sealed.Goals as goal

pub slice_bounds-crc-end-2 : goal.slice_bounds-crc-end-2
slice_bounds-crc-end-2 c = sym (length-take-le 343 c.write_body.new.sealed (search rules))

pub returns : goal.returns
returns c =
    let a = c.args in
    rw (c.put_four.ensures, c.crc-check.ensures, c.write_body.ensures)
    (sealed-written a.personality.now a.state.now a.sealed.now (search rules) (search rules))
