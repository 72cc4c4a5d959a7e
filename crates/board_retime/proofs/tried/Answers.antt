-- A valid state has the length of one.
use Rattle.std.proofs.Common.{sym, ◌∙◌}
use Rattle.laws.proofs.Booleans.{and_left}
use Rattle.state_timed.specs.TimedLayout.{is_timed}
use Rattle.state_valid.specs.StateOf.{is_state_of}
use Rattle.board_retime.proofs.tried.Goals as goal

pub put_waiting-requires : goal.put_waiting-requires
unfolding is_state_of
put_waiting-requires c = and_left (is_timed c.args.state.now) _ (sym c.is_state_of.ensures ∙ c.if-not-is_state_of.false)
