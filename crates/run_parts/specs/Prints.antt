-- What a function gives that prints a part: its text at the start of a buffer, and whether the trace goes on.
use Rattle.std.specs.Prelude.{ℕ, Bool, List, ◌≡◌}
use Rattle.rules.specs.Trace.{Part}
use Rattle.run_text.specs.First.{First}

pub record Prints (part : Part) (old new : List ℕ) (count : ℕ) (on : Bool) : Type 0 where
  pub text : First part.text old new count
  pub more : on ≡ part.more
