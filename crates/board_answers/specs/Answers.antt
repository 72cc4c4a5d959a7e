-- An answer of the board interface: its lowest byte is the number of the refusal, 0 if the call is accepted; the bytes above it are the place of
-- a refusal or the result of an accepted call.
use Rattle.std.specs.Prelude.{ℕ, ◌+◌, ◌*◌, Ok, Err}
use Rattle.rules.specs.Verdicts.{Outcome}
use Rattle.rules.specs.Verdicts.{Stepped, StepRefused}
use Rattle.rules.specs.Verdicts.{Verdict}
use Rattle.rules.specs.Verdicts.{Accepted, Refused}

unfoldable pub packed : ℕ → ℕ → ℕ
packed number value = number + 256 * value

unfoldable pub packed_verdict : Verdict → ℕ
packed_verdict (Ok _) = packed 0 0
packed_verdict (Err r) = packed r.number r.place

unfoldable pub packed_outcome : Outcome → ℕ
packed_outcome (Ok wait) = packed 0 wait
packed_outcome (Err r) = packed r.number r.place
