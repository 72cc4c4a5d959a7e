-- The section lookup of the board interface: the offset of the body in the personality, and its length.
use Rattle.std.specs.Prelude.{ℕ, ◌+◌, ◌*◌, List, Ok, Err}
use Rattle.rules.specs.Verdicts.{Verdict}
use Rattle.rules.specs.Verdicts.{Refused}
use Rattle.rules.specs.Personality.{body_at, body_length}
use Rattle.rules.specs.Lookup.{lookup_verdict, head_of}
use Rattle.board_answers.specs.Answers.{packed_verdict}

-- 0 in the lowest byte, then the offset in 32 bits and the length in 24; or the refusal
unfoldable pub section_for : Verdict → ℕ → ℕ → ℕ
section_for (Ok _) offset size = 256 * offset + 1099511627776 * size
section_for (Err r) offset size = packed_verdict (Refused r.number r.place)

unfoldable pub section_answer : List ℕ → ℕ → ℕ
section_answer b kind = section_for (lookup_verdict b kind) (body_at (head_of b kind)) (body_length b (head_of b kind))
