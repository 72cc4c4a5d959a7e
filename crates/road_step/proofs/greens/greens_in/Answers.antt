-- What a vehicle group shows of the position is its colour in the state.
use Rattle.std.proofs.Common.{◌≡◌, ◌<◌, length, ap, sym, ◌∙◌, arith, eqb}
use Rattle.rules.specs.declared.site.Group.{Group}
use Rattle.rules.specs.Site.{group_of}
use Rattle.rules.specs.Colours.{green, vehicle_shown}
use Rattle.site_sound.proofs.Rows.{group-taken}
use Rattle.road_step.proofs.GreenGroups.{green-in}
use Rattle.road_step.proofs.greens.greens_in.Goals as goal

pub returns : goal.returns
returns c =
    let site = c.args.site.now in
    let position = c.args.state.position in
    let own = c.groups.result.now in
    let closes = c.closing_there-closes.result in
    green-in site (rw c.site.view_is at c.site.invariant) c.args.state c.greens_at.result
    (λ g l.
    let inside : g < length own = omega (arith, l, c.groups.ensures.count) in
    let same : group_of own g ≡ group_of site.groups g = rw c.groups.ensures.row (group-taken site.groups site.size.groups g l) in
    rw (sym (rw c.site.view_is at c.closing_there-closes.ensures))
    (c.greens_at.ensures g inside
    ∙ ap (λ (group : Group). eqb (vehicle_shown closes position group) green) same))
