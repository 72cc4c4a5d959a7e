-- A text at the start of a buffer: the length of the text, which fits, and the other bytes unchanged.
use Rattle.std.specs.Prelude.{ℕ, ◌≤◌, List, ◌++◌, ◌≡◌, length, drop}

pub record First (text old new : List ℕ) (count : ℕ) : Type 0 where
  pub size : count ≡ length text
  pub fits : count ≤ length new
  pub bytes : new ≡ text ++ drop (length text) old
