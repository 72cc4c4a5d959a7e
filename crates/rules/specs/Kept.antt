-- The kept set: the phases that have a locked demand or a demanded movement, kept in the state and updated in each step. Calls without lock
-- count beside it, in their step only.
use Rattle.std.specs.Prelude.{ℕ, Bool, not, ◌&&◌, ◌||◌, List, eqb, Option}
use Rattle.rules.specs.Types.{Site, Times, Demands, KeptState, Movement}
use Rattle.laws.specs.Bytes.{bit}
use Rattle.laws.specs.Folds.{any_of, set_of}
use Rattle.rules.specs.Site.{crosses, ring}
use Rattle.rules.specs.State.{fresh, valid}
use Rattle.rules.specs.Demands.{registers_lock, registers_button, calls, demands_after, stands, next_after}
use Rattle.rules.specs.Step.{stepped_into}

-- the fresh state demands no phase
unfoldable pub fresh_kept : KeptState
fresh_kept = record { core = fresh; kept = 0 }

unfoldable pub is_kept : KeptState → ℕ → Bool
is_kept s p = bit p s.kept

-- ── The valid state ──

-- a kept set that differs from a scan of the locks and the demanded movements is not valid
unfoldable pub kept_valid : Site → KeptState → Bool
kept_valid site s =
    valid site s.core && eqb s.kept (set_of (stands site.crossings site.size.movements s.core.demands))

-- ── Part 1: a registered lock or press adds its phase to the set ──

-- a button is registered, one of count, whose movement is of phase p
unfoldable pub press_keeps : List Movement → List ℕ → ℕ → ℕ → ℕ → Bool
press_keeps movements crossings count inputs p = any_of (λ k. registers_button movements inputs k && crosses crossings k p) count

unfoldable pub kept_after : Site → KeptState → ℕ → ℕ → Bool
kept_after site s inputs p =
    is_kept s p
    || registers_lock site s.core inputs p
    || press_keeps s.core.movements site.crossings site.size.movements inputs p

-- the first phase after this one that is in the set or has a call
unfoldable pub next_kept : Site → KeptState → ℕ → Option ℕ
next_kept site s inputs =
    next_after (ring site.order site.size.phases) s.core.position.phase
    (λ p. kept_after site s inputs p || calls site s.core inputs p)

-- ── Parts 4 and 5: when a lock or a button demand is cleared, the phase leaves the set if no other demand of it is left ──

-- demand i was stored before and is not any more
unfoldable pub gone : ℕ → ℕ → ℕ → Bool
gone old new i = bit i old && not (bit i new)

-- the lock of phase p, or the demand of one of its movements, was cleared
unfoldable pub cleared : List ℕ → ℕ → Demands → Demands → ℕ → Bool
cleared crossings count old new p =
    gone old.locks new.locks p || any_of (λ k. gone old.buttons new.buttons k && crosses crossings k p) count

unfoldable pub kept_left : List ℕ → ℕ → Demands → Demands → (ℕ → Bool) → ℕ → Bool
kept_left crossings count old new kept p = kept p && (not (cleared crossings count old new p) || stands crossings count new p)

-- ── The step ──

-- by the times that rule from the end of the interval on
abbrev pub kept_stepped_into : Times → Site → KeptState → ℕ → KeptState
kept_stepped_into ruling site s inputs =
    let core = stepped_into ruling (next_kept site s inputs) site s.core inputs in
    let standing = demands_after site s.core inputs in
    record {
      core = core;
      kept = set_of (kept_left site.crossings site.size.movements standing core.demands (kept_after site s inputs));
    }

-- by the site's own times
unfoldable pub kept_stepped : Site → KeptState → ℕ → KeptState
kept_stepped site s inputs = kept_stepped_into site.times site s inputs
