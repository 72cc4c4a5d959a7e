-- The colours that the groups show in a state.
use Rattle.std.specs.Prelude.{ℕ, ◌+◌, Bool, not, ◌&&◌, ◌||◌, List, ◌++◌, ◌≡◌, eqb, leb, drop, get_or, if◌then◌else◌, Option}
use Rattle.rules.specs.Types.{Group, PhaseTimes, Site, Times, Interval, StartRed, LateStart, MinimumGreen, Running, EarlyCutOff, Yellow, AllRed, Movement, Position, Stage, Idle, Walk, ClearanceOne, ClearanceTwo, State}
use Rattle.laws.specs.Folds.{list_of}
use Rattle.laws.specs.Bytes.{bit}
use Rattle.rules.specs.Site.{group_of, phase_times, is_pedestrian, movement_of}
use Rattle.rules.specs.IntervalTable.{is_early, held_in}
use Rattle.rules.specs.State.{idle}

-- ── Codes ──

abbrev pub red : ℕ
red = 0

abbrev pub yellow : ℕ
yellow = 1

abbrev pub green : ℕ
green = 2

abbrev pub flashing : ℕ
flashing = 3

-- ── Groups ──

-- how many steps ago early cut-off green began, this step included, by the age in it or in yellow
unfoldable pub since_cut_off : Interval → PhaseTimes → ℕ → ℕ
since_cut_off interval times age = if is_early interval then age else times.early + age

-- the groups that stop early are still closing: Y steps from the start of early cut-off green are not over
unfoldable pub closing : Times → Position → Bool
closing times position =
    let own = phase_times times position.phase in
    leb (since_cut_off position.interval own position.age) own.yellow

-- The colour of a vehicle group that has the phase in its set. In late start a group of mark 1 is red, except if its set has came-from. In
-- early cut-off green, yellow and all-red a group whose set also has the target stays green. Of the others, those of mark 3 are yellow
-- while they are closing, then red; the rest are green in early cut-off green, then yellow, then red.
unfoldable pub vehicle_colour : Interval → Bool → Option ℕ → Option ℕ → Group → ℕ
vehicle_colour StartRed closes previous target group = red
vehicle_colour LateStart closes previous target group =
    if eqb group.mark 1 && not (held_in previous group.phases) then red else green
vehicle_colour MinimumGreen closes previous target group = green
vehicle_colour Running closes previous target group = green
vehicle_colour EarlyCutOff closes previous target group =
    if held_in target group.phases || not (eqb group.mark 3) then green else if closes then yellow else red
vehicle_colour Yellow closes previous target group =
    if held_in target group.phases then green else if closes || not (eqb group.mark 3) then yellow else red
vehicle_colour AllRed closes previous target group = if held_in target group.phases then green else red

unfoldable pub movement_colour : Stage → ℕ
movement_colour Idle = red
movement_colour Walk = green
movement_colour ClearanceOne = flashing
movement_colour ClearanceTwo = flashing

-- what a vehicle group shows; it is red if the phase is not in its set
unfoldable pub vehicle_shown : Bool → Position → Group → ℕ
vehicle_shown closes position group =
    if bit position.phase group.phases
    then vehicle_colour position.interval closes position.previous position.target group
    else red

-- what group g shows, by the position, by the movements, and by whether groups that stop early are closing
unfoldable pub colour_of : List Group → Bool → Position → List Movement → ℕ → ℕ
colour_of groups closes position movements g =
    if is_pedestrian groups g
    then movement_colour (get_or movements (movement_of groups g) idle).stage
    else vehicle_shown closes position (group_of groups g)

-- what group g shows in a state
unfoldable pub shown_in : Site → State → ℕ → ℕ
shown_in site s = colour_of site.groups (closing site.times s.position) s.position s.movements

unfoldable pub colours_of : Site → State → List ℕ
colours_of site s = list_of (shown_in site s) site.size.groups

-- ── The pass of the group list ──

-- the buffer after the first g groups of the pass: one byte for each of them, in their order, with what the group shows; every other byte
-- is as handed in
unfoldable pub buffer_at : (ℕ → ℕ) → List ℕ → ℕ → List ℕ
buffer_at shown handed_in g = list_of shown g ++ drop g handed_in

-- A point of the pass, after the first g groups: what the buffer holds, and how many of these groups are pedestrian groups, which is the
-- movement number of the next pedestrian group.
pub record PassedTo
    (groups : List Group)
    (shown : ℕ → ℕ)
    (handed_in : List ℕ)
    (g : ℕ)
    (buffer : List ℕ)
    (pedestrians : ℕ)
    : Type 0 where
  pub bytes : buffer ≡ buffer_at shown handed_in g
  pub counted : pedestrians ≡ movement_of groups g

-- One turn of the pass: for every buffer handed in, it leads from the point after g groups to the point after g + 1 groups.
abbrev pub Turn : List Group → (ℕ → ℕ) → ℕ → List ℕ → ℕ → List ℕ → ℕ → Type 0
Turn groups shown g buffer pedestrians after more =
    (handed_in : List ℕ) →
    PassedTo groups shown handed_in g buffer pedestrians →
    PassedTo groups shown handed_in (g + 1) after more
