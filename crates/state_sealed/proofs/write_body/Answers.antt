use Rattle.rules.specs.Junctions.{two}
use Rattle.state_sealed.proofs.Written.{body-written}
use Rattle.state_sealed.proofs.write_body.Goals as goal

pub returns : goal.returns
unfolding two
returns c =
    let a = c.args in
    rw (c.put_all.ensures, c.put_four.ensures, c.crc.ensures, c.put_two.ensures)
    (body-written a.personality.now a.state.now a.sealed.now)
