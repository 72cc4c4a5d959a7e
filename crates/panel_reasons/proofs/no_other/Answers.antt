-- The search goes by the kept set and the calls of the rules.
use Rattle.std.proofs.Common.{◌<◌, ◌∙◌, rules, arith}
use Rattle.step_demands.proofs.Sites.{tabled}
use Rattle.panel_reasons.proofs.Holdings.{holding-valid, no-other-told, none-told}
use Rattle.panel_reasons.proofs.no_other.Goals as goal
use Rattle.panel_reasons.proofs.no_other.Goals.{Start}

small : (c : Start) → c.args.state.core.position.phase < 8
small c = omega (arith, (holding-valid c.requires).phase, c.requires.sound.phases.1)

pub sense-sensed-requires : goal.sense-sensed-requires
sense-sensed-requires c = (
  tabled c.args.site.now c.requires.sound _ c.detectors.ensures.row c.detectors.ensures.count,
  small (goal.at.sense-sensed-requires c).Start,
)

pub without-calling-requires : goal.without-calling-requires
without-calling-requires c = small (goal.at.without-calling-requires c).Start

kept_small : (c : Start) → c.args.state.kept < 256
kept_small c = search rules

pub returns : goal.returns
returns c =
    none-told c.next_after.result c.is_none.result c.is_none.ensures
    ∙ no-other-told c.requires c.detectors.ensures.row c.detectors.ensures.count c.sense-sensed.ensures c.without-calling.ensures
    (rw c.ring.ensures at c.next_after.ensures)
    (kept_small (goal.at.returns c).Start)
