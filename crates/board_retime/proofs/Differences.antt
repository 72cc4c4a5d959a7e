-- A difference elsewhere than in the time settings: the bytes of the settings by the places of the layout, and the comparison byte by byte.
use Prim.Native.Nat.{ℕ, ◌+◌, ◌<◌}
use mathlib.Core.Bool.{Bool, true, false, not, ◌&&◌, ◌||◌}
use mathlib.Core.List.{List}
use mathlib.Core.Path.{◌≡◌, sym, ap, ◌∙◌}
use native.Mathlib.Omega.{arith}
use lib.Dec.{eqb}
use lib.ListN.{length, get_or}
use borrow.Author.Tests.{eq-eqb, ne_eqb}
use Rattle.laws.specs.Bytes.{byte_at}
use Rattle.laws.specs.Folds.{any_of}
use Rattle.rules.specs.Personality.{body_at}
use Rattle.rules.specs.TimedCall.{between, time_byte, differs_elsewhere}
use Rattle.read_layout.specs.declared.Layout.{Layout}
use Rattle.read_layout.specs.LayoutOf.{LayoutOf}

-- the bytes of the time settings, by the places of the layout
pub time-bytes-laid :
    (b : List ℕ) (w : Layout) (i : ℕ) →
    LayoutOf b w →
    (between 6 8 i
    || between 12 w.groups i
    || between (w.pedestrians + 4) w.early i
    || (w.hasearly && between (w.early + 4) w.order i))
    ≡ time_byte b i
unfolding time_byte body_at
time-bytes-laid b w i laid = rw (laid.groups, laid.pedestrians, laid.early, laid.hasearly, laid.order)

module _ (b new : List ℕ) where
  -- byte i differs, and is not part of a time setting
  abbrev pub differs : ℕ → Bool
  differs i = not (time_byte b i) && not (eqb (byte_at new i) (byte_at b i))

  pub other_length : (length new ≡ length b → ⊥) → not (eqb (length new) (length b)) ≡ differs_elsewhere b new
  unfolding differs_elsewhere
  other_length e = rw (ne_eqb (length new) (length b) e)

  pub compared : (r : Bool) → length new ≡ length b → r ≡ any_of differs (length b) → r ≡ differs_elsewhere b new
  unfolding differs_elsewhere
  compared r e found = rw (eq-eqb (length new) (length b) e) found
