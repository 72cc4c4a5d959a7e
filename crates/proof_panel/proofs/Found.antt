-- The step finds no other phase demanded exactly if none is: the search finds a demanded phase wherever there is another one, and what it finds is
-- demanded and another one.
use mathlib.Core.Bool.{not}
use mathlib.Core.Path.{ap}
use borrow.Author.Tests.{not-true}
use Rattle.rules.specs.Site.{site_of, ring}
use Rattle.rules.specs.IntervalTable.{is_held}
use Rattle.rules.specs.Demands.{demanded, first_in, next_after, next_demanded}
use Rattle.rules.specs.Laws.{AcceptedIsSound}
use Rattle.laws.proofs.Booleans.{never_both, not-true-false}
use Rattle.proof_acceptance.proofs.Acceptance.{accepted-is-sound}
use Rattle.proof_ring.proofs.Turns.{turn}
use Rattle.proof_ring.proofs.Ring.{found-other, other-found}
use Rattle.proof_ring.proofs.RunningOrder.{ring_of}
use Rattle.proof_panel.specs.PanelLaws.{found_none, FoundNoneMeans}
use Rattle.proof_panel.proofs.AfterStep.{found-passes}

pub found-none-means : FoundNoneMeans
unfolding FoundNoneMeans AcceptedIsSound found_none next_demanded next_after turn
found-none-means b known s inputs =
    let site = site_of b in
    let phase = s.position.phase in
    let phases = ring_of site (accepted-is-sound b known) in
    let order = turn (ring site.order site.size.phases) phase in
    let held = is_held (first_in (demanded site s inputs) order) in (
      λ none q l ne. not-true-false _ (λ d. never_both (other-found phases (demanded site s inputs) l ne d) (not-true held none)),
      λ none.
          ap not
          (not-true-false held
          (λ h.
          let found = found-passes (demanded site s inputs) order h in
          let other = found-other phases (demanded site s inputs) found.1 in
          never_both found.2 (none found.0 other.0 other.1))),
    )
