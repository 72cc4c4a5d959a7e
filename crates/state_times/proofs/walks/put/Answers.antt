use Rattle.std.proofs.Common.{◌≡◌, length, arith}
use Rattle.rules.specs.Site.{no_walk_times}
use Rattle.state_times.proofs.walks.put.Goals as goal

pub returns : goal.returns
returns c = let e : length c.args.records ≡ 8 = omega arith in rw e at (c.put_row.ensures no_walk_times)
