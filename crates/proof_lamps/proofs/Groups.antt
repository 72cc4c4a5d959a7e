-- The movements are the pedestrian groups in their order, so each has its group.
use mathlib.Core.List.{List}
use mathlib.Core.Path.{◌∙◌}
use Prim.Native.Nat.{ℕ}
use lib.ListN.{get_or}
use borrow.Author.Tests.{lt-ltb, eq-eqb}
use Rattle.laws.specs.Folds.{indices_of}
use Rattle.rules.specs.Personality.{group_count, movement_count, pedestrian}
use Rattle.rules.specs.Site.{site_of}
use Rattle.rules.specs.Lamps.{is_movement_group, MovementsHaveGroups}
use Rattle.laws.proofs.Booleans.{and_both}
use Rattle.laws.proofs.Counting.{indices-at}
use Rattle.proof_acceptance.proofs.Entries.{pedestrian-at, movement-at}

pub movements-have-groups : (b : List ℕ) → MovementsHaveGroups (site_of b)
unfolding MovementsHaveGroups is_movement_group movement_count site_of
movements-have-groups b k l =
    let g = get_or (indices_of (pedestrian b) (group_count b)) k 0 in
    let found = indices-at (pedestrian b) (group_count b) k l in (
      g,
      and_both (and_both (lt-ltb g (group_count b) found.0) (pedestrian-at b g found.0 ∙ found.1))
          (eq-eqb _ k (movement-at b g found.0 ∙ found.2)),
    )
