use Rattle.std.proofs.Common.{rules}
use mathlib.Core.Bool.{and-true}
use Rattle.laws.specs.Bytes.{byte_at}
use Rattle.state_bytes.proofs.position.known.Goals as goal

pub returns-then-held_known : goal.returns-then-held_known
unfolding byte_at
returns-then-held_known c = search (rules, and-true)

pub returns-else-held_known : goal.returns-else-held_known
unfolding byte_at
returns-else-held_known c = search (rules, and-true)
