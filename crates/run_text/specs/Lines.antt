-- Internal: no promise cites this file. What comes out of a trace: a buffer with a line's text at its start.
use Rattle.std.specs.Prelude.{ℕ, ◌+◌, ◌≤◌, List, ◌++◌, ◌≡◌, leb, length, take, drop, if◌then◌else◌}
use Rattle.rules.specs.declared.state.Position.{Position}
use Rattle.rules.specs.TraceText.{line_tail}

-- the length of the tail, or 0 if the buffer is too short
unfoldable pub tail_length : ℕ → ℕ → ℕ
tail_length groups room = if leb (groups + 6) room then groups + 6 else 0

-- the buffer with the tail at its start and its other bytes unchanged; all unchanged if it is too short
unfoldable pub tail_of : Position → List ℕ → List ℕ → List ℕ
tail_of position colours out =
    if leb (length colours + 6) (length out) then line_tail position colours ++ drop (length colours + 6) out else out

-- n counts bytes at the start of a buffer, said in both ways that lending them asks for
abbrev pub Counted : ℕ → List ℕ → Type 0
Counted n buffer = (n ≤ length buffer) × (n ≡ length (take n buffer))
