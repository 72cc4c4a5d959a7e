-- Its tests are those of the records in the bytes, by the table of the personality's edition.
use Rattle.state_valid.proofs.AdmittedBytes.{admitted-bytes}
use Rattle.state_valid.proofs.settings.admitted.Goals as goal

pub returns : goal.returns
returns c =
    rw (
      c.walks_admitted.ensures,
      c.phases_admitted.ensures,
      c.within.ensures,
      c.two_in.ensures,
      c.own.invariant,
      c.own.view_is,
    )
    (admitted-bytes c.args.own.now c.args.bytes.now c.args.at)
