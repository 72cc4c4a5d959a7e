-- The number of signal groups of a personality: as many bytes as an accepted step writes.
use Rattle.std.specs.Prelude.{ℕ, List, Ok, Err}
use Rattle.rules.specs.Verdicts.{Verdict}
use Rattle.rules.specs.Verdicts.{Refused}
use Rattle.rules.specs.Personality.{verdict_of}
use Rattle.rules.specs.Site.{site_of}
use Rattle.board_answers.specs.Answers.{packed, packed_verdict}

-- the number above the lowest byte, or the refusal
unfoldable pub groups_for : Verdict → ℕ → ℕ
groups_for (Ok _) groups = packed 0 groups
groups_for (Err r) groups = packed_verdict (Refused r.number r.place)

unfoldable pub groups_answer : List ℕ → ℕ
groups_answer b = groups_for (verdict_of b) (site_of b).size.groups
