-- Statements about timed states: what a step with waiting times does, that valid states stay valid, that the kept set changes nothing else, and
-- which times are admitted and which personalities may hand them over. All are over the bytes of an accepted personality.
use Rattle.std.specs.Prelude.{ℕ, ◌-◌, ◌/◌, ◌%◌, ◌<◌, Bool, true, false, not, ◌&&◌, ◌||◌, List, [], ◌∷◌, ◌⊎◌, ◌≡◌, eqb, length, get_or, replicate, if◌then◌else◌}
use Rattle.rules.specs.Types.{Accepted, Refused, PhaseTimes, Times, WalkTimes, KeptState, State}
use Rattle.laws.specs.Bytes.{byte_at}
use Rattle.laws.specs.Folds.{list_of}
use Rattle.rules.specs.Personality.{body_at, phases_head, groups_head, pedestrians_head, early_head, has_early, order_head, verdict_of}
use Rattle.rules.specs.Site.{site_of, times_in, phase_times, walk_times}
use Rattle.rules.specs.IntervalTable.{is_before_start}
use Rattle.rules.specs.State.{highest_age, idle, no_counts}
use Rattle.rules.specs.SiteTimes.{under, admitted}
use Rattle.rules.specs.Demands.{next_demanded}
use Rattle.rules.specs.Step.{stepped_into}
use Rattle.rules.specs.Kept.{kept_valid, kept_stepped}
use Rattle.rules.specs.Timed.{TimedState, kept_of, ruled_site, fresh_timed, timed_valid, takes_over, ruling_next, without_counts, timed_stepped}
use Rattle.rules.specs.Call.{stray_input}
use Rattle.rules.specs.Laws.{reading_number, PlaceIn, Written}
use Rattle.rules.specs.TimedCall.{timed_verdict, between, differs_elsewhere, retime_verdict, retimed}

-- a claim about every valid timed state of every accepted personality
abbrev OfValid : (List ℕ → TimedState → Type 0) → Type 0
OfValid Claim = (b : List ℕ) → verdict_of b ≡ Accepted → (s : TimedState) → timed_valid (site_of b) s ≡ true → Claim b s

-- ── A change is a step under the new times ──

-- The state from which a phase starts in the next step, whatever the times are: the age is 2,000, both counts are 0 and every movement is idle.
abbrev pub ready_core : State → State
ready_core s =
    let old = s.position in
    record {
      position = record { phase = old.phase; interval = old.interval; age = highest_age; previous = old.previous; target = old.target };
      counts = no_counts;
      demands = s.demands;
      movements = replicate 8 idle;
    }

unfoldable pub ready : KeptState → KeptState
ready s = record { core = ready_core s.core; kept = s.kept }

-- A step in which waiting times take over is the plain step under these times from the ready state, and the ready state is valid under them. So
-- what is known of a plain step is known of a change.
unfoldable pub ChangeIsStep : Type 0
ChangeIsStep =
    OfValid
    (λ b s.
    takes_over (site_of b) s ≡ true →
    (inputs : ℕ) →
    kept_of (timed_stepped (site_of b) s inputs) ≡ kept_stepped (under (site_of b) s.waiting.times) (ready (kept_of s)) inputs)

unfoldable pub ReadyIsValid : Type 0
ReadyIsValid = OfValid (λ b s. (new : Times) → kept_valid (under (site_of b) new) (ready (kept_of s)) ≡ true)

-- every other step is the plain step under the ruling times
unfoldable pub OtherwisePlain : Type 0
OtherwisePlain =
    OfValid
    (λ b s.
    takes_over (site_of b) s ≡ false →
    (inputs : ℕ) →
    kept_of (timed_stepped (site_of b) s inputs) ≡ kept_stepped (ruled_site (site_of b) s) (kept_of s) inputs)

-- the step starts a phase: the interval was start red or all-red, and is neither after it
abbrev pub starts_phase : State → State → Bool
starts_phase before after = is_before_start before.position.interval && not (is_before_start after.position.interval)

-- waiting times take over in the step exactly if it starts a phase
unfoldable pub TakesOverAtStart : Type 0
TakesOverAtStart =
    OfValid
    (λ b s. (inputs : ℕ) → takes_over (site_of b) s ≡ (s.waiting.present && starts_phase s.core (timed_stepped (site_of b) s inputs).core))

-- ── Valid states ──

unfoldable pub FreshIsValid : Type 0
FreshIsValid = (b : List ℕ) → verdict_of b ≡ Accepted → timed_valid (site_of b) (fresh_timed (site_of b)) ≡ true

unfoldable pub StepKeepsValid : Type 0
StepKeepsValid =
    OfValid
    (λ b s. (inputs : ℕ) → stray_input (site_of b) inputs ≡ false → timed_valid (site_of b) (timed_stepped (site_of b) s inputs) ≡ true)

unfoldable pub RetimeKeepsValid : Type 0
RetimeKeepsValid =
    OfValid (λ b s. (new : List ℕ) → retime_verdict b s new ≡ Accepted → timed_valid (site_of b) (retimed s (times_in new)) ≡ true)

-- ── Forgetting the kept set ──

-- the rest of the state after a step is that of the step that finds the next phase by a scan
unfoldable pub StepForgets : Type 0
StepForgets =
    OfValid
    (λ b s.
    (inputs : ℕ) →
    let site = ruled_site (site_of b) s in
    (timed_stepped (site_of b) s inputs).core
    ≡ stepped_into (ruling_next (site_of b) s) (next_demanded site s.core inputs) site
    (if takes_over (site_of b) s then without_counts (kept_of s) else kept_of s).core
    inputs)

-- ── Times that a site may have ──

-- an accepted personality has admitted times
unfoldable pub AcceptedIsAdmitted : Type 0
AcceptedIsAdmitted = (b : List ℕ) → verdict_of b ≡ Accepted → admitted (site_of b) (site_of b).times ≡ true

-- ── Times put into bytes ──

-- byte j of the two-byte numbers f 0, f 1, ..
unfoldable pub twos_byte : (ℕ → ℕ) → ℕ → ℕ
twos_byte f j = if eqb (j % 2) 0 then f (j / 2) % 256 else f (j / 2) / 256

-- the settings of a record of kind 2 and of kind 6, in their order
unfoldable pub phase_setting : PhaseTimes → ℕ → ℕ
phase_setting times f =
    get_or (times.late ∷ times.minimum ∷ times.maximum ∷ times.gap ∷ times.yellow ∷ times.red ∷ []) f 0

unfoldable pub walk_setting : WalkTimes → ℕ → ℕ
walk_setting times f = get_or (times.walk ∷ times.first ∷ times.second ∷ []) f 0

-- byte i of an accepted personality with these times in the place of its own
unfoldable pub byte_with : List ℕ → Times → ℕ → ℕ
byte_with b times i =
    let phases = body_at phases_head in
    let walks = body_at (pedestrians_head b) in
    let early = body_at (early_head b) in
    if between 6 8 i then twos_byte (λ n. times.start) (i - 6)
    else if between phases (groups_head b) i then twos_byte (λ n. phase_setting (phase_times times (n / 6)) (n % 6)) (i - phases)
    else if between walks (early_head b) i then twos_byte (λ n. walk_setting (walk_times times (n / 3)) (n % 3)) (i - walks)
    else if has_early b && between early (order_head b) i then twos_byte (λ n. (phase_times times n).early) (i - early)
    else byte_at b i

unfoldable pub with_times : List ℕ → Times → List ℕ
with_times b times = list_of (byte_with b times) (length b)

-- Times are admitted exactly if the first personality with these times in its bytes is accepted and has them. Its site is then the old site with
-- these times. Values of the type have rows of 7 and 8 entries, and so have times that are read from the bytes of a state. What this says of
-- such bytes is stated in proof_state_times/specs/StateTimes.antt.
unfoldable pub AdmittedIsAccepted : Type 0
AdmittedIsAccepted =
    (b : List ℕ) →
    verdict_of b ≡ Accepted →
    (times : Times) →
    length times.phases ≡ 7 →
    length times.walks ≡ 8 →
    let with = with_times b times in
    (admitted (site_of b) times ≡ true → (verdict_of with ≡ Accepted) × (site_of with ≡ under (site_of b) times))
    × (verdict_of with ≡ Accepted → site_of with ≡ under (site_of b) times → admitted (site_of b) times ≡ true)

-- 26 comes exactly if putting the new personality's times into the first one's bytes does not give the new one's bytes
unfoldable pub DiffersExactly : Type 0
DiffersExactly =
    (b : List ℕ) →
    verdict_of b ≡ Accepted →
    (new : List ℕ) →
    ((i : ℕ) → byte_at new i < 256) →
    (differs_elsewhere b new ≡ false → with_times b (times_in new) ≡ new)
    × (with_times b (times_in new) ≡ new → differs_elsewhere b new ≡ false)

-- times that an accepted retiming call hands over are admitted, and the site of the new personality is the old site with them
unfoldable pub RetimedIsAdmitted : Type 0
RetimedIsAdmitted =
    (b new : List ℕ) →
    verdict_of new ≡ Accepted →
    differs_elsewhere b new ≡ false →
    (admitted (site_of b) (times_in new) ≡ true) × (site_of new ≡ under (site_of b) (times_in new))

-- ── Refusals ──

-- each refusal of a step call on a timed state has a written number and place
unfoldable pub RefusalIsWritten : Type 0
RefusalIsWritten =
    (b : List ℕ) (s : TimedState) (inputs room number place : ℕ) →
    timed_verdict b s inputs room ≡ Refused number place →
    Written b number place

abbrev pub retime_number : ℕ → Bool
retime_number number = eqb number 13 || eqb number 26

-- each refusal of a retiming call: a number of the checks of a personality with a place in one of the two, or 13 or 26 at 0
unfoldable pub RetimeRefusalIsWritten : Type 0
RetimeRefusalIsWritten =
    (b new : List ℕ) (s : TimedState) (number place : ℕ) →
    retime_verdict b s new ≡ Refused number place →
    ((reading_number number ≡ true) × (PlaceIn b place ⊎ PlaceIn new place)) ⊎ ((retime_number number ≡ true) × (place ≡ 0))
