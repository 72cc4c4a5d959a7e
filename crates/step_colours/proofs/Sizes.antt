-- An accepted site's own groups show what its row of groups shows, and their colours can be shown: each pedestrian group has a movement.
use Prim.Native.Nat.{ℕ, ◌≤◌, ◌<◌}
use mathlib.Core.Bool.{Bool}
use mathlib.Core.List.{List}
use mathlib.Core.Path.{◌≡◌}
use native.Mathlib.Omega.{arith}
use lib.ListN.{length, take}
use Rattle.rules.specs.declared.site.Group.{Group}
use Rattle.rules.specs.declared.site.Site.{Site}
use Rattle.rules.specs.declared.state.Movement.{Movement}
use Rattle.rules.specs.declared.state.Position.{Position}
use Rattle.rules.specs.Site.{is_pedestrian, movement_of}
use Rattle.rules.specs.Colours.{colour_of}
use Rattle.rules.specs.Laws.{Sound}
use Rattle.laws.proofs.Counting.{count_same}
use Rattle.site_sound.proofs.Rows.{group-taken}
use Rattle.step_colours.specs.Showable.{Showable}

module _ (groups : List Group) (n : ℕ) where
  pedestrian-taken : (g : ℕ) → g < n → is_pedestrian (take n groups) g ≡ is_pedestrian groups g
  unfolding is_pedestrian
  pedestrian-taken g l = rw (group-taken groups n g l)

  movement-taken : (g : ℕ) → g < n → movement_of (take n groups) g ≡ movement_of groups g
  unfolding movement_of
  movement-taken g l = count_same _ _ g (λ i m. pedestrian-taken i (omega (arith, l, m)))

  pub colour-taken :
      (closes : Bool) (position : Position) (movements : List Movement) (g : ℕ) → g < n →
      colour_of (take n groups) closes position movements g ≡ colour_of groups closes position movements g
  unfolding colour_of
  colour-taken closes position movements g l = rw (pedestrian-taken g l, movement-taken g l, group-taken groups n g l)

pub showable :
    (site : Site) (room : ℕ) → Sound site →
    (own : List Group) → own ≡ take site.size.groups site.groups → length own ≡ site.size.groups →
    site.size.groups ≤ room →
    Showable own room
showable site room sound own row count fits =
    record {
      fits = omega (arith, count, fits);
      movement = λ g m p.
          let l : g < site.size.groups = omega (arith, m, count) in
          let walks = sound.movement_of_group g l (rw (row, pedestrian-taken site.groups site.size.groups g l) at p) in
          rw (row, movement-taken site.groups site.size.groups g l) (omega (arith, walks, sound.movements));
    }
