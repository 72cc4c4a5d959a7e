-- Before entry i those below i are in place, the rest is blank.
use Rattle.rules.specs.Personality.{phase_count}
use Rattle.rules.specs.Site.{order_in}
use Rattle.laws.proofs.Rows.{Filled}
use Rattle.site_rows.proofs.order.Given as goal

abbrev pub invariant-loop-i : goal.invariant-loop-i
invariant-loop-i l = Filled (order_in l.f) (phase_count l.f) 7 0 l.i l.phases
