-- Part 1 of a step: demands.
use Rattle.std.specs.Prelude.{ℕ, ◌+◌, ◌%◌, Bool, not, ◌&&◌, ◌||◌, List, [], ◌∷◌, ◌++◌, eqb, leb, get_or, if◌then◌else◌, Option, Some, None}
use Rattle.rules.specs.Types.{Detector, Site, Demands, Movement, Position, State}
use Rattle.laws.specs.Folds.{any_of, set_of}
use Rattle.laws.specs.Bytes.{bit}
use Rattle.rules.specs.Site.{detector_of, crosses, ring}
use Rattle.rules.specs.IntervalTable.{is_walk, is_green}
use Rattle.rules.specs.State.{idle, locked}

-- ── Inputs: bits 0 to 47 are the detectors, 48 to 55 the buttons ──

unfoldable pub occupied : ℕ → ℕ → Bool
occupied inputs d = bit d inputs

unfoldable pub pressed : ℕ → ℕ → Bool
pressed inputs k = bit (48 + k) inputs

-- ── Modes: 1 calls without lock, 2 calls with lock; plus 4 if it extends ──

unfoldable pub calling : ℕ → Bool
calling mode = eqb (mode % 4) 1

unfoldable pub locking : ℕ → Bool
locking mode = eqb (mode % 4) 2

unfoldable pub extending : ℕ → Bool
extending mode = leb 4 mode

-- one of count detectors is occupied, is of the phase and has such a mode
unfoldable pub detected_among : List Detector → ℕ → (ℕ → Bool) → ℕ → ℕ → Bool
detected_among detectors count kind inputs p =
    any_of (λ d. occupied inputs d && eqb (detector_of detectors d).phase p && kind (detector_of detectors d).mode) count

unfoldable pub detected : (ℕ → Bool) → Site → ℕ → ℕ → Bool
detected kind site inputs p = detected_among site.detectors site.size.detectors kind inputs p

-- ── What the inputs demand ──

-- the phase is in minimum green or running
unfoldable pub in_green : Position → ℕ → Bool
in_green position p = eqb p position.phase && is_green position.interval

-- a locked demand of phase p is registered: one of its locking detectors is occupied, and p is not in minimum green or running
unfoldable pub registers_lock : Site → State → ℕ → ℕ → Bool
registers_lock site s inputs p = detected locking site inputs p && not (in_green s.position p)

-- a button demand of movement k is registered: its button is pressed, and it is not in walk
unfoldable pub registers_button : List Movement → ℕ → ℕ → Bool
registers_button movements inputs k = pressed inputs k && not (is_walk (get_or movements k idle).stage)

-- phase p has a call, for this step only: one of its non-locking detectors is occupied, and p is not in minimum green or running
unfoldable pub calls : Site → State → ℕ → ℕ → Bool
calls site s inputs p = detected calling site inputs p && not (in_green s.position p)

-- the stored locks after part 1
unfoldable pub locks_after : Site → State → ℕ → ℕ
locks_after site s inputs = set_of (λ p. locked s p || registers_lock site s inputs p)

-- the stored button demands after part 1
unfoldable pub buttons_after : ℕ → List Movement → ℕ → ℕ
buttons_after buttons movements inputs = set_of (λ k. bit k buttons || registers_button movements inputs k)

-- the stored demands after part 1
unfoldable pub demands_after : Site → State → ℕ → Demands
demands_after site s inputs =
    record { locks = locks_after site s inputs; buttons = buttons_after s.demands.buttons s.movements inputs }

-- ── The phases demanded ──

-- a demanded movement, one of count, demands its phase
unfoldable pub movement_demands : List ℕ → ℕ → ℕ → ℕ → Bool
movement_demands crossings count buttons p = any_of (λ k. bit k buttons && crosses crossings k p) count

-- demanded by its lock or by a demanded movement, one of count
unfoldable pub stands : List ℕ → ℕ → Demands → ℕ → Bool
stands crossings count demands p = bit p demands.locks || movement_demands crossings count demands.buttons p

unfoldable pub demanded : Site → State → ℕ → ℕ → Bool
demanded site s inputs p =
    stands site.crossings site.size.movements (demands_after site s inputs) p || calls site s inputs p

-- the phases of a ring that come after p, and those that come before it
unfoldable pub after : ℕ → List ℕ → List ℕ
after p [] = []
after p (q ∷ rest) = if eqb q p then rest else after p rest

unfoldable pub before : ℕ → List ℕ → List ℕ
before p [] = []
before p (q ∷ rest) = if eqb q p then [] else q ∷ before p rest

unfoldable pub first_in : (ℕ → Bool) → List ℕ → Option ℕ
first_in test [] = None
first_in test (p ∷ rest) = if test p then Some p else first_in test rest

-- the first phase after p in the cycle that passes the test, or nothing if no other phase passes
unfoldable pub next_after : List ℕ → ℕ → (ℕ → Bool) → Option ℕ
next_after phases p test = first_in test (after p phases ++ before p phases)

-- the first demanded phase after the phase of the state, or nothing if no other phase is demanded
unfoldable pub next_demanded : Site → State → ℕ → Option ℕ
next_demanded site s inputs =
    next_after (ring site.order site.size.phases) s.position.phase (demanded site s inputs)
