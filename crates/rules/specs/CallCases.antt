-- Worked cases of one call each, as one list with one statement: every case holds. Each can be checked by hand with the papers. These are of
-- editions, early cut-off green, resting walks and the order of phases. Beside them are ReadingCases and LimitCases (personalities), StateCases (13), StepCases (the
-- parts of a step), AnswerCases (inputs, buffers, colours and other answers) and TimedCases (times in the state). All of them compute in seconds, and each
-- must-fail edit of the rules makes one of them fail. All other worked cases are in proof_cases, also the starred ones of document 01; some of those
-- are repeated here, because an edit needs them.
use Rattle.std.specs.Prelude.{ℕ, ◌^◌, List, [], ◌∷◌, ◌++◌, ◌≡◌, length, replicate, set, Option, Some, None}
use Rattle.rules.specs.Types.{Outcome, Stepped, StepRefused, Report, Verdict, Accepted, Refused, Site, Counts, Demands, Interval, Running, EarlyCutOff, Yellow, AllRed, KeptState, Movement, Position, Stage, Walk, ClearanceOne, ClearanceTwo}
use Rattle.rules.specs.Personality.{group_count, verdict_of}
use Rattle.rules.specs.Lookup.{lookup_verdict, lookup_report, section_of}
use Rattle.rules.specs.Site.{site_of, times_in}
use Rattle.rules.specs.IntervalTable.{interval_row, stage_row}
use Rattle.rules.specs.State.{idle}
use Rattle.rules.specs.Colours.{red, yellow, green, colours_of}
use Rattle.rules.specs.WaitBound.{wait_bound}
use Rattle.rules.specs.Waits.{waits_of}
use Rattle.rules.specs.Timed.{TimedState, none_waiting, timed_stepped}
use Rattle.rules.specs.Call.{bound_of}
use Rattle.rules.specs.Runs.{by_rules}
use Rattle.rules.specs.TraceText.{line_tail}
use Rattle.rules.specs.Junctions.{section, junction, put_two, put_kind, crossing, three_phases, calling_b, overlap, cut_offs, turning, turning_both, ordered, longer_reds, edition_two}

-- What a case states.
pub data CallCase : Type 0 where
  -- the verdict on a personality; the site that it describes
  reading : List ℕ → Verdict → CallCase
  describing : List ℕ → Site → CallCase
  -- the verdict of the lookup of a kind; its report and the part handed out
  looking_up : List ℕ → ℕ → Verdict → CallCase
  finding : List ℕ → ℕ → Report → List ℕ → CallCase
  -- the wait bound of a site; the answer of the call for it; the waits of the phases, then of the movements
  waiting : List ℕ → ℕ → CallCase
  bounding : List ℕ → Outcome → CallCase
  waiting_each : List ℕ → List ℕ → CallCase
  -- the fresh state
  beginning : List ℕ → TimedState → CallCase
  -- the colours in a state; the text of a position and colours in a trace; the codes of an interval and of a stage in the bytes of a state
  showing : List ℕ → KeptState → List ℕ → CallCase
  printing : Position → List ℕ → List ℕ → CallCase
  coding : Interval → Stage → ℕ → ℕ → CallCase
  -- of a step call with a buffer that is just long enough: the answer and the state handed back; the state handed back alone; the step without
  -- the checks of the call; the number of the refusal alone, whose place is 0
  answering : List ℕ → TimedState → ℕ → Outcome → TimedState → CallCase
  handing : List ℕ → TimedState → ℕ → TimedState → CallCase
  leading : List ℕ → TimedState → ℕ → TimedState → CallCase
  denying : List ℕ → TimedState → ℕ → ℕ → CallCase
  -- of a step call with this buffer: the answer and the buffer afterwards
  writing : List ℕ → TimedState → ℕ → List ℕ → Outcome → List ℕ → CallCase
  -- of a retiming call: the verdict and the state handed back
  retiming : List ℕ → TimedState → List ℕ → Verdict → TimedState → CallCase

abbrev pub CallHolds : CallCase → Type 0
CallHolds (reading b verdict) = verdict_of b ≡ verdict
CallHolds (describing b site) = site_of b ≡ site
CallHolds (looking_up b kind verdict) = lookup_verdict b kind ≡ verdict
CallHolds (finding b kind report part) =
    ◌≡◌ {A = Report × List ℕ} (lookup_report b kind, section_of b kind) (report, part)
CallHolds (waiting b wait) = wait_bound (site_of b) ≡ wait
CallHolds (bounding b outcome) = bound_of b ≡ outcome
CallHolds (waiting_each b waits) = waits_of (site_of b) ≡ waits
CallHolds (beginning b s) = by_rules.fresh b ≡ s
CallHolds (showing b s colours) = colours_of (site_of b) s.core ≡ colours
CallHolds (printing position colours text) = line_tail position colours ≡ text
CallHolds (coding interval stage first second) = ◌≡◌ {A = ℕ × ℕ} ((interval_row interval).code, (stage_row stage).code) (first, second)
CallHolds (answering b s inputs outcome new) =
    let room = group_count b in
    ◌≡◌ {A = Outcome × TimedState} (by_rules.outcome b s inputs room, by_rules.next b s inputs room) (outcome, new)
CallHolds (handing b s inputs new) = by_rules.next b s inputs (group_count b) ≡ new
CallHolds (leading b s inputs new) = timed_stepped (site_of b) s inputs ≡ new
CallHolds (denying b s inputs number) = by_rules.outcome b s inputs (group_count b) ≡ StepRefused number 0
CallHolds (writing b s inputs buffer outcome after) =
    ◌≡◌ {A = Outcome × List ℕ} (by_rules.outcome b s inputs (length buffer), by_rules.buffer b s inputs buffer) (outcome, after)
CallHolds (retiming b s bytes verdict new) =
    ◌≡◌ {A = Verdict × TimedState} (by_rules.retime_verdict b s bytes, by_rules.retimed b s bytes) (verdict, new)

abbrev pub AllHold : {A : Type 0} → (A → Type 0) → List A → Type 0
AllHold Holds [] = Unit {0}
AllHold Holds (c ∷ cases) = Holds c × AllHold Holds cases

-- ── Writing a state; as a set, 1 is A or the first movement, 2 is B, and 6 is B and C ──

-- a phase, its interval, the interval's age and the target; came-from is none
abbrev pub at : ℕ → Interval → ℕ → Option ℕ → Position
at phase interval age target = record { phase = phase; interval = interval; age = age; previous = None; target = target }

infix 6 gap◌max◌
abbrev pub gap◌max◌ : ℕ → ℕ → Counts
gap n max m = record { gap = n; maximum = m }

infix 6 locks◌buttons◌
abbrev pub locks◌buttons◌ : ℕ → ℕ → Demands
locks ps buttons ks = record { locks = ps; buttons = ks }

abbrev pub moving : Stage → ℕ → Movement
moving stage age = record { stage = stage; age = age }

-- the first movement is given, the others are idle; the kept set comes last
abbrev pub state : Position → Counts → Demands → Movement → ℕ → KeptState
state position counts demands first kept =
    record {
      core = record { position = position; counts = counts; demands = demands; movements = first ∷ replicate 7 idle };
      kept = kept;
    }

-- a timed state by the times of such bytes, with none waiting
abbrev pub ruled_by : List ℕ → KeptState → TimedState
ruled_by b s = record { core = s.core; kept = s.kept; ruling = times_in b; waiting = none_waiting }

-- ── Writing a step call from a state in which the personality's own times rule ──

-- it is accepted, and gives the wait bound and the new state
abbrev pub stepping : List ℕ → KeptState → ℕ → ℕ → KeptState → CallCase
stepping b s inputs wait new = answering b (ruled_by b s) inputs (Stepped wait) (ruled_by b new)

-- it hands back this state, which differs from the old one; so it is accepted
abbrev pub stepping_to : List ℕ → KeptState → ℕ → KeptState → CallCase
stepping_to b s inputs new = handing b (ruled_by b s) inputs (ruled_by b new)

-- the step leads to this state; the checks of the call are left out, because they take most of the time
abbrev pub leading_to : List ℕ → KeptState → ℕ → KeptState → CallCase
leading_to b s inputs new = leading b (ruled_by b s) inputs (ruled_by b new)

-- it is refused with a number, at 0
abbrev pub refusing_with : List ℕ → KeptState → ℕ → ℕ → CallCase
refusing_with b s inputs number = denying b (ruled_by b s) inputs number

-- and hands back the old state
abbrev pub declining : List ℕ → KeptState → ℕ → ℕ → CallCase
declining b s inputs number = answering b (ruled_by b s) inputs (StepRefused number 0) (ruled_by b s)

-- ── A being left ──

-- the target is B, which has a lock
abbrev for_b : Interval → ℕ → KeptState
for_b interval age = state (at 0 interval age (Some 1)) (gap 0 max 1) (locks 2 buttons 0) idle 2

-- the target is C, which has a lock; B has one too by now
abbrev for_c : Interval → ℕ → KeptState
for_c interval age = state (at 0 interval age (Some 2)) (gap 0 max 1) (locks 6 buttons 0) idle 6

-- ── The list and its statement ──

unfoldable pub call_cases : List CallCase
call_cases =
    -- starred: a yellow below its lowest value, and a maximum green above its highest
    reading (put_two junction 20 29) (Refused 5 20)
    ∷ reading (put_two junction 16 1501) (Refused 5 16)
    -- number 9 is checked for all groups before number 10 for any: group 1 is of both phases, and its conflict record is empty
    ∷ reading (set (set junction 42 3) 52 0) (Refused 9 48)
    -- an order that has C twice
    ∷ reading (three_phases ++ ordered (0 ∷ 2 ∷ 2 ∷ [])) (Refused 18 88)
    -- the detector of B only extends, and calls no phase
    ∷ reading (set junction 63 4) (Refused 21 56)
    -- that of A only extends, and the pedestrian group calls A
    ∷ reading (set crossing 67 4) Accepted
    -- 21 is checked after kind 6, which is wrong here
    ∷ reading (set (set junction 63 4) 66 7) (Refused 2 64)
    -- 21 is checked before 17
    ∷ reading (set turning 69 4) (Refused 21 62)
    -- 17 is checked before 12
    ∷ reading (turning ++ (1 ∷ [])) (Refused 17 42)
    -- edition two: start red is 30 at least and all-red 15; less is accepted in edition one
    ∷ reading edition_two Accepted
    ∷ reading (put_two edition_two 6 29) (Refused 5 6)
    ∷ reading (put_two edition_two 22 14) (Refused 5 22)
    ∷ reading (put_two (put_two longer_reds 6 29) 22 14) Accepted
    -- no kind but 1 and 8 may be first
    ∷ reading (put_kind junction 0 0) (Refused 2 0)
    ∷ reading (put_kind junction 0 2) (Refused 2 0)
    ∷ reading (put_kind junction 0 9) (Refused 2 0)
    -- kind 8 may not be in a later place, nor after kind 6
    ∷ reading (put_kind edition_two 8 8) (Refused 2 8)
    ∷ reading (put_kind edition_two 64 8) (Refused 2 64)
    ∷ reading (edition_two ++ section 8 (2 ∷ 2 ∷ 30 ∷ 0 ∷ [])) (Refused 12 68)
    -- the lookup finds the site section by the kind that it has
    ∷ looking_up edition_two 8 Accepted
    ∷ looking_up edition_two 1 (Refused 2 0)
    ∷ looking_up junction 8 (Refused 2 0)
    -- a movement's walk and clearances count twice in its phase's share: 10 + 2 × 50 + 2 × 2 × 40 + 2 × (20 + 50)
    ∷ waiting crossing 410
    -- early cut-off green is not valid without a section of kind 7; with one it is, even if the time is 0, and yellow follows
    ∷ declining junction (for_b EarlyCutOff 1) 0 13
    ∷ stepping (junction ++ cut_offs (0 ∷ 0 ∷ [])) (for_b EarlyCutOff 1) 0 270 (for_b Yellow 1)
    -- part 1: a locking detector of the phase locks in early cut-off green
    ∷ stepping (junction ++ cut_offs (20 ∷ 0 ∷ [])) (for_b EarlyCutOff 5) 1 310 (state (at 0 EarlyCutOff 6 (Some 1)) (gap 0 max 1) (locks 3 buttons 0) idle 3)
    -- and a press is registered while its movement is in C1
    ∷ stepping crossing (state (at 0 Running 40 None) (gap 0 max 1) (locks 2 buttons 0) (moving ClearanceOne 5) 2) (2 ^ 48) 410 (state (at 0 Running 41 None) (gap 0 max 2) (locks 2 buttons 1) (moving ClearanceOne 6) 3)
    -- part 2: a walk that has lasted W goes on while no other phase is demanded
    ∷ stepping crossing (state (at 0 Running 40 None) (gap 0 max 0) (locks 0 buttons 0) (moving Walk 10) 0) 0 410 (state (at 0 Running 41 None) (gap 0 max 0) (locks 0 buttons 0) (moving Walk 11) 0)
    -- also if B is demanded, but the gap count is 0 only after part 3
    ∷ stepping crossing (state (at 0 Running 40 None) (gap 1 max 1) (locks 2 buttons 0) (moving Walk 10) 2) 0 410 (state (at 0 Running 41 None) (gap 0 max 2) (locks 2 buttons 0) (moving Walk 11) 2)
    -- part 3: the maximum count goes on rising while the non-locking call of B is away
    ∷ stepping calling_b (state (at 0 Running 40 None) (gap 0 max 5) (locks 0 buttons 0) idle 0) 0 270 (state (at 0 Running 41 None) (gap 0 max 6) (locks 0 buttons 0) idle 0)
    -- part 4: running ends, and a time of 0 skips early cut-off green
    ∷ stepping (turning ++ cut_offs (0 ∷ 0 ∷ [])) (state (at 0 Running 1 None) (gap 0 max 0) (locks 2 buttons 0) idle 2) 0 270 (for_b Yellow 1)
    -- in the order A, C, B the target after A is C if both others are demanded
    ∷ stepping (three_phases ++ ordered (0 ∷ 2 ∷ 1 ∷ [])) (state (at 0 Running 1 None) (gap 0 max 0) (locks 6 buttons 0) idle 6) 0 400 (for_c Yellow 1)
    -- the target stays C over the end of early cut-off green, and over that of yellow, though B would be next
    ∷ stepping (three_phases ++ cut_offs (20 ∷ 0 ∷ 0 ∷ [])) (for_c EarlyCutOff 20) 0 440 (for_c Yellow 1)
    ∷ stepping three_phases (for_c Yellow 30) 0 400 (for_c AllRed 1)
    -- yellow lasts Y, which is 30, and not R, which is 10
    ∷ stepping junction (for_b Yellow 10) 0 270 (for_b Yellow 11)
    -- all-red stays past R while a movement is in C2
    ∷ stepping crossing (state (at 0 AllRed 10 (Some 1)) (gap 0 max 1) (locks 2 buttons 0) (moving ClearanceTwo 40) 2) 0 410 (state (at 0 AllRed 11 (Some 1)) (gap 0 max 1) (locks 2 buttons 0) (moving ClearanceTwo 41) 2)
    -- a group that has the target in its set stays green in yellow, and in early cut-off green if it stops early
    ∷ showing overlap (for_b Yellow 1) (yellow ∷ red ∷ green ∷ red ∷ [])
    ∷ showing (turning_both ++ cut_offs (20 ∷ 0 ∷ [])) (for_b EarlyCutOff 1) (green ∷ green ∷ red ∷ [])
    -- an arrow is red in yellow once Y steps are over since early cut-off green began: 20 + 11 is past 30
    ∷ showing (turning ++ cut_offs (20 ∷ 0 ∷ [])) (for_b Yellow 11) (yellow ∷ red ∷ red ∷ [])
    ∷ []

unfoldable pub CallsHold : Type 0
CallsHold = AllHold CallHolds call_cases
