-- The trace program as a whole. Its `main` reads the input part by part, hands each part to a function of `run_parts`, and writes the text that the
-- function prints. So what it prints is the text of the parts, one after the other, by the contracts of these functions.
use Rattle.std.specs.Prelude.{ℕ, zero, suc, ◌≤◌, List, [], ◌≡◌, length, take, drop}
use Rattle.laws.specs.Bytes.{two_at}
use Rattle.rules.specs.Trace.{◌and_then◌, length_part, personality_part, most_steps, trace_of}
use Rattle.state_timed.specs.TimedLayout.{timed_bytes}
use Rattle.run_parts.specs.Parts.{state_for, part_of, state_of}

-- the loop over the records from step n on, for so many turns
unfoldable pub records_printed : List ℕ → ℕ → ℕ → List ℕ → List ℕ → List ℕ
records_printed b zero n state input = []
records_printed b (suc turns) n state input =
    part_of b state n (take 8 input) and_then records_printed b turns (suc n) (state_of b state (take 8 input)) (drop 8 input)

-- the length, the personality and the records; the state is kept in a buffer
unfoldable pub printed : ℕ → List ℕ → List ℕ → List ℕ
printed turns buffer input =
    let head = take 2 input in
    let n = two_at head 0 in
    let b = take n (drop 2 input) in
    length_part head
    and_then personality_part n b
    and_then records_printed b turns 1 (state_for n b buffer) (drop n (drop 2 input))

-- For every input, with a buffer of any content: the parts print the trace. They end the loop themselves, so any number of turns that reaches the last
-- step will do.
unfoldable pub TraceIsPrinted : Type 0
TraceIsPrinted =
    (input buffer : List ℕ) (turns : ℕ) → length buffer ≡ timed_bytes → most_steps ≤ turns → printed turns buffer input ≡ trace_of input
