-- Worked cases of the whole output of the trace program, from its whole input, as one list with one statement: every case holds.
use Rattle.std.specs.Prelude.{ℕ, List, [], ◌∷◌, ◌++◌, ◌≡◌, length, take, replicate}
use Rattle.laws.specs.Ascii.{ascii}
use Prim.Native.String.{String}
use Rattle.rules.specs.Junctions.{two, junction, put_two}
use Rattle.rules.specs.CallCases.{AllHold}
use Rattle.rules.specs.Trace.{trace_of}

-- an input and the lines that come out
pub record TraceCase : Type 0 where
  pub input : List ℕ
  pub lines : List String

abbrev pub in_lines : List String → List ℕ
in_lines [] = []
in_lines (line ∷ lines) = ascii line ++ (10 ∷ in_lines lines)

abbrev pub TraceHolds : TraceCase → Type 0
TraceHolds c = trace_of c.input ≡ in_lines c.lines

-- ── Writing an input ──

infix 4 ◌prints◌
abbrev ◌prints◌ : List ℕ → List String → TraceCase
input prints lines = record { input = input; lines = lines }

-- a personality and its length
abbrev sent : List ℕ → List ℕ
sent b = two (length b) ++ b

-- a record of one step with an input byte for detectors 0 to 7
abbrev detecting : ℕ → List ℕ
detecting byte = byte ∷ replicate 7 0

abbrev quiet : List ℕ
quiet = detecting 0

-- the junction with yellow of A below its limit: 5 at 20
abbrev too_short : List ℕ
too_short = put_two junction 20 29

-- ── The list and its statement ──

unfoldable pub trace_cases : List TraceCase
trace_cases =
    -- document 01's own trace
    (sent junction ++ quiet ++ quiet prints "step phase interval groups" ∷ "1 A S RR" ∷ "2 A S RR" ∷ [])
    -- ten steps, the last of which enters minimum green
    ∷ (sent junction ++ replicate 80 0
    prints "step phase interval groups"
    ∷ "1 A S RR" ∷ "2 A S RR" ∷ "3 A S RR" ∷ "4 A S RR" ∷ "5 A S RR" ∷ "6 A S RR" ∷ "7 A S RR" ∷ "8 A S RR" ∷ "9 A S RR" ∷ "10 A M GR" ∷ [])
    -- the input ends in the length: there is none, or one byte
    ∷ ([] prints "refused 16 0" ∷ [])
    ∷ (68 ∷ [] prints "refused 16 0" ∷ [])
    -- or in the personality, before its own checks
    ∷ (take 69 (sent junction) prints "refused 16 0" ∷ [])
    ∷ (take 69 (sent too_short) prints "refused 16 0" ∷ [])
    -- a refused personality; no header, and what follows is not read
    ∷ (sent too_short ++ quiet prints "refused 5 20" ∷ [])
    ∷ (two 0 prints "refused 1 0" ∷ [])
    -- the input ends before a record
    ∷ (sent junction prints "step phase interval groups" ∷ [])
    -- a cut record: the first, and one after a good one
    ∷ (sent junction ++ take 7 quiet prints "step phase interval groups" ∷ "refused 16 0" ∷ [])
    ∷ (sent junction ++ quiet ++ take 1 quiet prints "step phase interval groups" ∷ "1 A S RR" ∷ "refused 16 0" ∷ [])
    -- an input that no detector gives: the first record, and one after a good one; what follows is not read
    ∷ (sent junction ++ detecting 4 ++ quiet prints "step phase interval groups" ∷ "refused 15 0" ∷ [])
    ∷ (sent junction ++ quiet ++ detecting 4 prints "step phase interval groups" ∷ "1 A S RR" ∷ "refused 15 0" ∷ [])
    ∷ []

unfoldable pub TracesHold : Type 0
TracesHold = AllHold TraceHolds trace_cases
