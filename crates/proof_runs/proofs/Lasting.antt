-- A stage that lasts for its setting at least and then until it may end: what is so of it at the age that it then has, and of the stage that
-- follows it at age 1, is so of the movement after part 2.
use Prim.Native.Nat.{ℕ, ◌≤◌, ◌<◌}
use mathlib.Core.Bool.{Bool, true, false, ◌&&◌}
use mathlib.Core.Path.{◌≡◌, refl}
use lib.Dec.{leb}
use borrow.Author.Tests.{leb-true, leb-false}
use Rattle.rules.specs.declared.state.Movement.{Movement}
use Rattle.rules.specs.declared.state.Stage.{Stage}
use Rattle.std.specs.Prelude.{if◌then◌else◌}
use Rattle.rules.specs.Movements.{older, lasting}
use Rattle.laws.proofs.Booleans.{and_right}

pub lasting-cases :
    (P : Movement → Type 0) (may_end : Bool) (setting : ℕ) (stage next : Stage) (age : ℕ) →
    (setting ≤ age → P (record { stage = next; age = 1 })) →
    ((may_end ≡ true → age < setting) → P (record { stage = stage; age = older age })) →
    P (lasting may_end setting stage next age)
unfolding lasting
lasting-cases P may_end setting stage next age ended stays = step (may_end && leb setting age) refl
  where
    step :
        (t : Bool) →
        (may_end && leb setting age) ≡ t →
        P (if t then record { stage = next; age = 1 } else record { stage = stage; age = older age })
    step true e = ended (leb-true setting age (and_right may_end (leb setting age) e))
    step false e = stays (λ may. leb-false setting age (rw may at e))
