-- The trace program: all that it prints, from all that it reads. Its input has three parts: two bytes with a length, a personality of that length,
-- and 8 bytes for each step.
use Rattle.std.specs.Prelude.{ℕ, zero, suc, ◌+◌, Bool, true, false, List, [], ◌++◌, eqb, ltb, length, take, drop, replicate, if◌then◌else◌, Ok, Err}
use Rattle.laws.specs.Bytes.{two_at, eight_at}
use Rattle.rules.specs.Types.{Outcome, Stepped, StepRefused, Verdict, Accepted, Refused}
use Rattle.rules.specs.Personality.{group_count, verdict_of}
use Rattle.rules.specs.Runs.{Controller, by_rules, StepCall, Step, next_of, step_of}
use Rattle.rules.specs.TraceText.{header, step_line, refusal_line}

-- ── Parts of the input ──

-- What a part of the input prints, and whether the trace goes on with the next part.
pub record Part : Type 0 where
  pub text : List ℕ
  pub more : Bool

abbrev pub goes_on : List ℕ → Part
goes_on text = record { text = text; more = true }

abbrev pub ends_with : List ℕ → Part
ends_with text = record { text = text; more = false }

-- what is printed later comes only if the trace goes on
infixr 5 ◌and_then◌
unfoldable pub ◌and_then◌ : Part → List ℕ → List ℕ
part and_then later = part.text ++ (if part.more then later else [])

-- a refusal prints its line and ends the trace
abbrev pub refusal : ℕ → ℕ → Part
refusal number place = ends_with (refusal_line number place)

-- 16: the input ends inside a part
unfoldable pub cut : Part
cut = refusal 16 0

-- the length
unfoldable pub length_part : List ℕ → Part
length_part bytes = if ltb (length bytes) 2 then cut else goes_on []

-- the personality: the header once it is accepted
unfoldable pub verdict_part : Verdict → Part
verdict_part (Ok _) = goes_on header
verdict_part (Err r) = refusal r.number r.place

-- a personality that should have n bytes: 16 comes before its own checks
unfoldable pub personality_part : ℕ → List ℕ → Part
personality_part n b = if ltb (length b) n then cut else verdict_part (verdict_of b)

-- a step record, and what its step call prints if it is whole; the trace ends with its input
unfoldable pub record_part : List ℕ → Part → Part
record_part bytes called = if eqb (length bytes) 0 then ends_with [] else if ltb (length bytes) 8 then cut else called

-- ── Steps ──

-- the step call of a record: its 64 input bits, and a colour buffer for 32 groups
abbrev pub call_in : List ℕ → StepCall
call_in bytes = record { inputs = eight_at bytes 0; buffer = replicate 32 0 }

unfoldable pub outcome_part : Outcome → List ℕ → Part
outcome_part (Ok wait) line = goes_on line
outcome_part (Err r) line = refusal r.number r.place

-- step n of a site with so many groups, as a controller took it
unfoldable pub step_part : ℕ → ℕ → Step → Part
step_part groups n step = outcome_part step.outcome (step_line n step.after.position (take groups step.shown))

-- the records of a controller's steps from number n on, and at most so many; what the input has past them is not read
module _ {S : Type 0} (controller : Controller S) (b : List ℕ) where
  unfoldable pub records_from : ℕ → ℕ → S → List ℕ → List ℕ
  records_from zero n s input = []
  records_from (suc most) n s input =
      let call = call_in (take 8 input) in
      record_part (take 8 input) (step_part (group_count b) n (step_of controller b s call))
      and_then records_from most (suc n) (next_of controller b s call) (drop 8 input)

-- ── The trace ──

-- an hour
abbrev pub most_steps : ℕ
most_steps = 36000

-- the steps are those of the rules, from the fresh state
unfoldable pub trace_of : List ℕ → List ℕ
trace_of input =
    let head = take 2 input in
    let n = two_at head 0 in
    let b = take n (drop 2 input) in
    length_part head
    and_then personality_part n b
    and_then records_from by_rules b most_steps 1 (by_rules.fresh b) (drop n (drop 2 input))
