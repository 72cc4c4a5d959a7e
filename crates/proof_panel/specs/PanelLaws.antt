-- Statements about the panel's line: what it says after a step, what of the inputs it reads, how long it can be, and how its calls refuse. Those
-- about a line are over the bytes of a personality and a timed state, and those about the calls are over bytes.
use Rattle.std.specs.Prelude.{ℕ, ◌≤◌, ◌<◌, Bool, true, false, not, ◌||◌, List, ◌⊎◌, ◌≡◌, eqb, length}
use Rattle.rules.specs.Verdicts.{Accepted, Refused}
use Rattle.rules.specs.declared.site.Site.{Site}
use Rattle.rules.specs.declared.state.State.{State}
use Rattle.rules.specs.Personality.{verdict_of}
use Rattle.rules.specs.Site.{site_of, detector_of}
use Rattle.rules.specs.IntervalTable.{is_running, is_held}
use Rattle.rules.specs.Demands.{occupied, calling, demanded, next_demanded}
use Rattle.rules.specs.Timed.{TimedState, timed_stepped}
use Rattle.rules.specs.TimedCall.{timed_verdict}
use Rattle.rules.specs.Laws.{reading_number, PlaceIn, Written}
use Rattle.state_timed.specs.TimedLayout.{is_timed, timed_decoded}
use Rattle.panel_text.specs.Text.{line}
use Rattle.panel_line.specs.Reasons.{reasons_by}
use Rattle.panel_reasons.specs.PanelLine.{steps_left, walking_among, panel_line}
use Rattle.board_panel.specs.PanelCall.{why_line, length_checks, why_checks}

-- ── After a step ──

-- the step from this state finds no other phase demanded, by lock, button or call
unfoldable pub found_none : Site → State → ℕ → Bool
found_none site s inputs = not (is_held (next_demanded site s inputs))

-- that is, no phase but that of the state is demanded in the step
unfoldable pub FoundNoneMeans : Type 0
FoundNoneMeans =
    (b : List ℕ) →
    verdict_of b ≡ Accepted →
    (s : State) (inputs : ℕ) →
    let OthersAreNot : Type 0 =
    (q : ℕ) → q < (site_of b).size.phases → (q ≡ s.position.phase → ⊥) → demanded (site_of b) s inputs q ≡ false in
    (found_none (site_of b) s inputs ≡ true → OthersAreNot) × (OthersAreNot → found_none (site_of b) s inputs ≡ true)

-- After an accepted step the line can be had: with bytes that hold the new state and with the inputs of that step the calls are not refused,
-- apart from 14.
unfoldable pub StepIsExplained : Type 0
StepIsExplained =
    (b : List ℕ) (s : TimedState) (inputs room : ℕ) →
    timed_verdict b s inputs room ≡ Accepted →
    (state : List ℕ) →
    is_timed state ≡ true →
    timed_decoded state ≡ timed_stepped (site_of b) s inputs →
    length_checks b state inputs ≡ Accepted

-- After an accepted step that ends in running, the line with the inputs of that step tells `no other demand` exactly if the step found no other
-- phase demanded. (By `NeverAlike` no other line has these bytes.)
unfoldable pub ToldExactly : Type 0
ToldExactly =
    (b : List ℕ) (s : TimedState) (inputs room : ℕ) →
    timed_verdict b s inputs room ≡ Accepted →
    let new = timed_stepped (site_of b) s inputs in
    is_running new.core.position.interval ≡ true →
    panel_line (site_of b) new inputs
    ≡ line new.core.position.phase
    (reasons_by (found_none (site_of b) s.core inputs) new.core.counts.gap (steps_left new) (walking_among new.core.movements))

-- ── What of the inputs is read ──

-- inputs that agree on each non-locking detector
abbrev pub SameCalls : Site → ℕ → ℕ → Type 0
SameCalls site inputs others =
    (d : ℕ) → d < site.size.detectors → calling (detector_of site.detectors d).mode ≡ true → occupied inputs d ≡ occupied others d

-- Such inputs have the same line, from any state. So locking detectors and buttons alter no byte.
unfoldable pub OnlyCallsCount : Type 0
OnlyCallsCount =
    (b : List ℕ) (s : TimedState) (inputs others : ℕ) →
    SameCalls (site_of b) inputs others →
    panel_line (site_of b) s inputs ≡ panel_line (site_of b) s others

-- ── How long it can be ──

abbrev pub longest_line : ℕ
longest_line = 107

-- no line is longer, and one is as long
unfoldable pub LongestLine : Type 0
LongestLine =
    ((b state : List ℕ) (inputs : ℕ) → length_checks b state inputs ≡ Accepted → length (why_line b state inputs) ≤ longest_line)
    × ((b : List ℕ) × (state : List ℕ) × (inputs : ℕ) × (length_checks b state inputs ≡ Accepted) × (length (why_line b state inputs) ≡ longest_line))

-- a buffer of 107 bytes is never too short: the checks of the writing call are then those of the length call
unfoldable pub LongestRoomIsEnough : Type 0
LongestRoomIsEnough =
    (b state : List ℕ) (inputs room : ℕ) →
    longest_line ≤ room →
    why_checks b state inputs room ≡ length_checks b state inputs

-- ── Refusals ──

abbrev pub length_number : ℕ → Bool
length_number number = eqb number 13 || eqb number 15

-- the length call: a number of the personality's checks with a place of the personality, or 13 or 15 at 0
unfoldable pub LengthRefusalIsWritten : Type 0
LengthRefusalIsWritten =
    (b state : List ℕ) (inputs number place : ℕ) →
    length_checks b state inputs ≡ Refused number place →
    ((reading_number number ≡ true) × PlaceIn b place) ⊎ ((length_number number ≡ true) × (place ≡ 0))

-- the writing call: a number of the personality's checks with a place of the personality, or 13, 14 or 15 at 0, as for a step
unfoldable pub WhyRefusalIsWritten : Type 0
WhyRefusalIsWritten =
    (b state : List ℕ) (inputs room number place : ℕ) →
    why_checks b state inputs room ≡ Refused number place →
    Written b number place
