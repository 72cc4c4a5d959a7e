-- The pass over the groups: what the buffer holds at each of its points, byte by byte and at its end. Both follow from how the bytes of the
-- groups passed and those handed in are put together.
use Prim.Native.Nat.{ℕ, ◌+◌, ◌-◌}
use mathlib.Core.List.{List, ◌++◌}
use mathlib.Core.Path.{◌≡◌, refl, ap, ◌∙◌}
use native.Mathlib.Omega.{arith}
use lib.ListN.{length, get_or, drop, length-append, length-drop, get_or-append}
use lib.Seq.{get_or-append-add, get_or-drop}
use Rattle.laws.specs.Folds.{list_of}
use Rattle.rules.specs.Colours.{colours_of, buffer_at}
use Rattle.rules.specs.Call.{buffer_for}
use Rattle.rules.specs.Laws.{PassedBytes, PassEndsInColours}
use Rattle.laws.proofs.Lists.{list_length, list_at}

pub passed_length : (shown : ℕ → ℕ) (buffer : List ℕ) (g : ℕ) → length (buffer_at shown buffer g) ≡ g + (length buffer - g)
unfolding buffer_at
passed_length shown buffer g =
    omega (arith, length-append (list_of shown g) (drop g buffer), list_length shown g, length-drop g buffer)

pub passed-bytes : PassedBytes
unfolding PassedBytes buffer_at
passed-bytes shown buffer g h =
    let front = list_of shown g in
    let rest = drop g buffer in
    let known : length front ≡ g = list_length shown g in (
      λ i l. get_or-append front rest 0 i (omega (arith, known)) ∙ list_at shown g i 0 l,
      λ i l.
          ap (λ (j : ℕ). get_or (front ++ rest) j 0) (omega (arith, known))
          ∙ get_or-append-add front rest (i - g) 0
          ∙ get_or-drop g buffer (i - g) 0
          ∙ ap (λ (j : ℕ). get_or buffer j 0) (omega arith),
      omega (arith, passed_length shown buffer g),
    )

pub pass-ends-in-colours : PassEndsInColours
unfolding PassEndsInColours buffer_at buffer_for colours_of
pass-ends-in-colours site s buffer = refl
