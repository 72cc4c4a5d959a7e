-- A group without mark 3 shows the same whether or not groups that stop early are closing, and a site without kind 7 has no other groups.
use Rattle.std.specs.Prelude.{Option}
use Prim.Native.Nat.{ℕ}
use mathlib.Core.Bool.{Bool, true, false, ◌&&◌, or-true}
use mathlib.Core.Logic.{⊎_elim}
use mathlib.Core.Path.{◌≡◌, refl}
use borrow.Author.Tests.{ne_eqb}
use Rattle.rules.specs.declared.site.Group.{Group}
use Rattle.rules.specs.declared.site.Site.{Site}
use Rattle.rules.specs.declared.state.Interval.{Interval}
use Rattle.rules.specs.declared.state.Interval.TheVariants.{StartRed, LateStart, MinimumGreen, Running, EarlyCutOff, Yellow, AllRed}
use Rattle.rules.specs.declared.state.State.{State}
use Rattle.rules.specs.IntervalTable.{held_in}
use Rattle.rules.specs.Site.{group_of}
use Rattle.rules.specs.Colours.{closing, vehicle_colour, vehicle_shown, colour_of, shown_in}
use Rattle.rules.specs.Laws.{Sound}
use Rattle.laws.proofs.Booleans.{decided}

unclosed :
    (interval : Interval) (closes : Bool) (previous target : Option ℕ) (group : Group) →
    (group.mark ≡ 3 → ⊥) →
    vehicle_colour interval false previous target group ≡ vehicle_colour interval closes previous target group
unfolding vehicle_colour
unclosed StartRed closes previous target group other = refl
unclosed LateStart closes previous target group other = refl
unclosed MinimumGreen closes previous target group other = refl
unclosed Running closes previous target group other = refl
unclosed EarlyCutOff closes previous target group other = rw (ne_eqb group.mark 3 other, or-true (held_in target group.phases))
unclosed Yellow closes previous target group other = rw (ne_eqb group.mark 3 other, or-true closes)
unclosed AllRed closes previous target group other = refl

pub closing-there :
    (site : Site) → Sound site →
    (s : State) (g : ℕ) →
    colour_of site.groups (site.early && closing site.times s.position) s.position s.movements g ≡ shown_in site s g
unfolding shown_in colour_of vehicle_shown
closing-there site sound s g =
    ⊎_elim
    (λ (e : site.early ≡ true). rw e)
    (λ (e : site.early ≡ false). rw (
      e,
      unclosed s.position.interval (closing site.times s.position) s.position.previous s.position.target
          (group_of site.groups g) (sound.no_early_group g e),
    ))
    (decided site.early)
