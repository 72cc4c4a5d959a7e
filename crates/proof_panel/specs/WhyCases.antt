-- Worked lines as one list with one statement: every case holds. Each can be checked by hand with the papers.
use Rattle.std.specs.Prelude.{ℕ, zero, suc, ◌^◌, List, [], ◌∷◌, ◌++◌, ◌≡◌, replicate, None}
use Prim.Native.String.{String}
use Rattle.rules.specs.Verdicts.{Accepted, Refused}
use Rattle.rules.specs.declared.state.Interval.{Interval}
use Rattle.rules.specs.declared.state.Interval.TheVariants.{MinimumGreen, Running}
use Rattle.rules.specs.declared.state.KeptState.{KeptState}
use Rattle.rules.specs.declared.state.Movement.{Movement}
use Rattle.rules.specs.declared.state.Stage.TheVariants.{Walk, ClearanceOne, ClearanceTwo}
use Rattle.rules.specs.Site.{site_of}
use Rattle.rules.specs.State.{idle}
use Rattle.rules.specs.Timed.{TimedState, timed_stepped}
use Rattle.rules.specs.Junctions.{two, twos, fours, sections, short_phase, junction, slower, crossing, three_phases}
use Rattle.rules.specs.CallCases.{AllHold, at, gap◌max◌, locks◌buttons◌, state, ruled_by}
use Rattle.laws.specs.Ascii.{ascii}
use Rattle.state_timed.specs.TimedLayout.{timed_encoded}
use Rattle.board_panel.specs.PanelCall.{why_line, length_checks, why_checks, line_after}

-- What a case states: the line of a state with such inputs; the line after a step from a state, with the inputs of the step; the refusal of a
-- writing call with such bytes and such a room; or the buffer as the writing call returns.
pub data WhyCase : Type 0 where
  tells : List ℕ → TimedState → ℕ → String → WhyCase
  tells_after : List ℕ → TimedState → ℕ → String → WhyCase
  refuses : List ℕ → List ℕ → ℕ → ℕ → ℕ → ℕ → WhyCase
  writes : List ℕ → TimedState → ℕ → List ℕ → List ℕ → WhyCase

abbrev Tells : List ℕ → TimedState → ℕ → String → Type 0
Tells b s inputs text = (length_checks b (timed_encoded s) inputs ≡ Accepted) × (why_line b (timed_encoded s) inputs ≡ ascii text)

abbrev pub WhyHolds : WhyCase → Type 0
WhyHolds (tells b s inputs text) = Tells b s inputs text
WhyHolds (tells_after b s inputs text) = Tells b (timed_stepped (site_of b) s inputs) inputs text
WhyHolds (refuses b state inputs room number place) = why_checks b state inputs room ≡ Refused number place
WhyHolds (writes b s inputs buffer out) = line_after b (timed_encoded s) inputs buffer ≡ out

-- ── A site with eight crossings ──

abbrev times : ℕ → List ℕ → List ℕ
times zero l = []
times (suc n) l = l ++ times n l

-- A with a vehicle group and eight crossings, and B. A has X 1,500 and G 100. Detector 0 calls A with lock and extends it; of B, detector 1 calls
-- without lock and detector 2 with lock.
unfoldable pub eight_crossings : List ℕ
eight_crossings =
    sections
    (2 ∷ 10 ∷ two 10)
    (twos (0 ∷ 20 ∷ 1500 ∷ 100 ∷ 30 ∷ 10 ∷ []) ++ short_phase)
    (1 ∷ 0 ∷ 2 ∷ 0 ∷ times 8 (1 ∷ 2 ∷ []))
    (fours (2 ∷ 1021 ∷ replicate 8 2))
    (0 ∷ 6 ∷ 1 ∷ 1 ∷ 1 ∷ 2 ∷ [])
    (twos (times 8 (10 ∷ 10 ∷ 50 ∷ [])))

-- ── States ──

abbrev walking : Movement
walking = record { stage = Walk; age = 1 }

abbrev clearing : Movement
clearing = record { stage = ClearanceOne; age = 1 }

abbrev past : Movement
past = record { stage = ClearanceTwo; age = 1 }

-- A in such an interval of the site with eight crossings: the gap count, the maximum count, the locks, which are the kept set, and the movements
abbrev pub crossed : Interval → ℕ → ℕ → ℕ → List Movement → TimedState
crossed interval gap_count max_count phases movements =
    ruled_by eight_crossings
    (record {
      core =
          record {
            position = at 0 interval 1 None;
            counts = gap gap_count max max_count;
            demands = locks phases buttons 0;
            movements = movements;
          };
      kept = phases;
    })

-- the first and the last movement in walk, the second in C2, the third in C1
abbrev three : TimedState
three = crossed Running 7 1420 0 (walking ∷ past ∷ clearing ∷ idle ∷ idle ∷ idle ∷ idle ∷ walking ∷ [])

-- a phase in running, with a gap count, a maximum count and locks, which are the kept set
abbrev running : ℕ → ℕ → ℕ → ℕ → KeptState
running phase gap_count max_count phases = state (at phase Running 1 None) (gap gap_count max max_count) (locks phases buttons 0) idle phases

-- A of the junction at an age, while B has a lock
abbrev in_a : Interval → ℕ → ℕ → ℕ → KeptState
in_a interval age gap_count max_count = state (at 0 interval age None) (gap gap_count max max_count) (locks 2 buttons 0) idle 2

-- the state with the longest line
abbrev pub longest : TimedState
longest = crossed Running 100 0 0 (replicate 8 walking)

-- B has a lock, the gap is over and the maximum used up
abbrev spent : TimedState
spent = crossed Running 0 1500 2 (replicate 8 idle)

-- ── The list and its statement ──

unfoldable pub why_cases : List WhyCase
why_cases =
    -- the phase alone
    tells eight_crossings spent 0 "A holds"
    -- all reasons, with three movements; one in C2 is not told
    ∷ tells eight_crossings three 0 "A holds, no other demand, gap 7, max 80, walk 1, walk 3, walk 8"
    -- a call of B without lock
    ∷ tells eight_crossings three 2 "A holds, gap 7, max 80, walk 1, walk 3, walk 8"
    -- a locking detector of B alters no byte
    ∷ tells eight_crossings three 4 "A holds, no other demand, gap 7, max 80, walk 1, walk 3, walk 8"
    -- the longest line
    ∷ tells eight_crossings longest 0 "A holds, no other demand, gap 100, max 1500, walk 1, walk 2, walk 3, walk 4, walk 5, walk 6, walk 7, walk 8"
    -- a demand of the phase itself is no other demand
    ∷ tells eight_crossings (crossed Running 1 1499 1 (replicate 8 idle)) 0 "A holds, no other demand, gap 1, max 1"
    -- the maximum is told while its count is 0
    ∷ tells crossing (ruled_by crossing (running 1 0 0 0)) 0 "B holds, no other demand, max 30"
    -- a button of A alters no byte
    ∷ tells crossing (ruled_by crossing (running 1 0 0 0)) (2 ^ 48) "B holds, no other demand, max 30"
    -- another phase has a lock
    ∷ tells three_phases (ruled_by three_phases (running 2 5 10 1)) 0 "C holds, gap 5, max 20"
    -- X is that of the ruling times, which are not those of the personality
    ∷ tells junction (ruled_by slower (running 0 10 0 0)) 0 "A holds, no other demand, gap 10, max 60"
    -- in another interval the line has no bytes
    ∷ tells eight_crossings (crossed MinimumGreen 100 0 0 (replicate 8 walking)) 0 ""
    -- the junction of two phases with a call of B in step 12: step 30, in which running begins
    ∷ tells_after junction (ruled_by junction (in_a MinimumGreen 20 0 0)) 0 "A holds, max 30"
    -- with detector 0 always occupied: steps 45 and 59, the last step of running
    ∷ tells_after junction (ruled_by junction (in_a Running 15 5 14)) 1 "A holds, gap 5, max 15"
    ∷ tells_after junction (ruled_by junction (in_a Running 29 5 28)) 1 "A holds, gap 5, max 1"
    -- the personality is checked first, then 13, 15 and 14; here no state, a gap count above G, an input without detector and no room
    ∷ refuses [] [] 8 0 1 0
    ∷ refuses eight_crossings [] 8 0 13 0
    ∷ refuses eight_crossings (timed_encoded (crossed Running 101 0 0 (replicate 8 idle))) 8 0 13 0
    ∷ refuses eight_crossings (timed_encoded spent) 8 0 15 0
    ∷ refuses eight_crossings (timed_encoded spent) 0 6 14 0
    -- a buffer that is too short keeps its bytes, and a longer one those behind the line
    ∷ writes eight_crossings spent 0 (replicate 6 255) (replicate 6 255)
    ∷ writes eight_crossings spent 0 (replicate 7 255) (ascii "A holds")
    ∷ writes eight_crossings spent 0 (replicate 9 255) (ascii "A holds" ++ (255 ∷ 255 ∷ []))
    -- no buffer is too short for a line without bytes
    ∷ writes eight_crossings (crossed MinimumGreen 0 0 0 (replicate 8 idle)) 0 [] []
    ∷ []

unfoldable pub WhyCasesHold : Type 0
WhyCasesHold = AllHold WhyHolds why_cases
