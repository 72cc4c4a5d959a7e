-- Internal: no promise cites this file. Every movement but one, or every movement.
use Rattle.std.specs.Prelude.{ℕ, Bool, true, not, Option, None, Some, eqb}

abbrev pub all_but : Option ℕ → ℕ → Bool
all_but None k = true
all_but (Some m) k = not (eqb k m)
