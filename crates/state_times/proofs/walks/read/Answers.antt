use Rattle.std.proofs.Common.{rules, sym, arith}
use Rattle.laws.proofs.Lists.{row_told}
use Rattle.rules.specs.Site.{no_walk_times}
use Rattle.state_times.specs.TimeRows.{walk_in}
use Rattle.state_times.proofs.walks.read.Goals as goal

pub returns : goal.returns
returns c =
    sym (row_told (walk_in c.args.bytes.now c.args.at) c.row.result c.args.count 8 no_walk_times (omega arith) (omega arith)
    (λ k l. sym (search (rules, c.row.ensures.entries k l)))
    (λ k l m. c.row.ensures.blanks k l))
