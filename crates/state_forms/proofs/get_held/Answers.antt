use Rattle.std.proofs.Common.{◌+◌, arith}
use Rattle.std.proofs.lemmas.Bool.Decides.{nat_tests}
use Rattle.laws.specs.Bytes.{byte_at}
use Rattle.state_forms.proofs.Lawful.{tag-known}
use Rattle.state_forms.proofs.get_held.Goals as goal

pub returns : goal.returns
unfolding byte_at
returns c = grind (arith, nat_tests, tag-known (byte_at c.args.bytes.now c.args.at) (byte_at c.args.bytes.now (c.args.at + 1)) c.requires.1)
