use Rattle.std.proofs.Common.{arith}
use Rattle.laws.proofs.Decimals.{at_most}
use Rattle.base_text.proofs.U64Decimal.front.Goals as goal

pub returns-clause-few : goal.returns-clause-few
returns-clause-few c = (at_most 19 c.args.self (omega arith), omega arith)
