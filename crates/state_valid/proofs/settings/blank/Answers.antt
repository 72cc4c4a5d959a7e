-- Every time is 0 exactly if every byte is.
use Rattle.std.proofs.Common.{◌∙◌, arith}
use Rattle.laws.specs.Bytes.{byte_at}
use Rattle.state_valid.proofs.BlankTimes.{blank-zeros}
use Rattle.state_valid.proofs.settings.blank.Goals as goal

pub returns : goal.returns
unfolding byte_at
returns c = λ site.
    c.all.ensures
    ∙ blank-zeros c.args.bytes.now c.args.at site (record { each = λ i. omega (arith, c.type_inv.bytes i) }) c.requires
