-- The bytes of one wait.
use Prim.Native.Nat.{ℕ}
use mathlib.Core.List.{List}
use lib.ListN.{get_or}
use Rattle.rules.specs.declared.site.Site.{Site}
use Rattle.rules.specs.Waits.{waits_of}
use Rattle.state_forms.specs.Forms.{two}

abbrev pub wait_part : Site → ℕ → List ℕ
wait_part site i = two.written (get_or (waits_of site) i 0)
