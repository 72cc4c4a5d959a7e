-- The set has the groups passed that show green, and no others.
use Rattle.std.proofs.Common.{ℕ, Bool, List, eqb}
use Rattle.rules.specs.declared.site.Group.{Group}
use Rattle.rules.specs.declared.state.Position.{Position}
use Rattle.rules.specs.Site.{group_of}
use Rattle.rules.specs.Colours.{green, vehicle_shown}
use Rattle.road_step.proofs.GreenGroups.{GreensTo}
use Rattle.road_step.proofs.greens.greens_at.Given as goal

abbrev pub shows : List Group → Bool → Position → ℕ → Bool
shows groups closes position g = eqb (vehicle_shown closes position (group_of groups g)) green

abbrev pub invariant-loop-g : goal.invariant-loop-g
invariant-loop-g l = GreensTo (shows l.fn.groups l.fn.closes l.fn.position) l.greens l.g
