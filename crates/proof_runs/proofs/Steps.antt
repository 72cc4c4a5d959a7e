-- One step, taken apart: names for what each of its parts finds, and each field of the next state in terms of them. The movements of the
-- next state are a row by index and its demands are sets, so each entry and each bit is read off by its index.
use Prim.Native.Nat.{ℕ, ◌<◌}
use mathlib.Core.Bool.{Bool, not, ◌&&◌, ◌||◌}
use mathlib.Core.List.{List}
use mathlib.Core.Path.{◌≡◌, refl, ap, ◌∙◌}
use lib.ListN.{get_or}
use Rattle.rules.specs.declared.site.PhaseTimes.{PhaseTimes}
use Rattle.rules.specs.declared.site.Site.{Site}
use Rattle.rules.specs.declared.state.Counts.{Counts}
use Rattle.rules.specs.declared.state.Movement.{Movement}
use Rattle.rules.specs.declared.state.Position.{Position}
use Rattle.rules.specs.declared.state.Stage.TheVariants.{Walk}
use Rattle.rules.specs.declared.state.State.{State}
use Rattle.laws.specs.Bytes.{bit}
use Rattle.std.specs.Prelude.{if◌then◌else◌}
use Rattle.rules.specs.Site.{phase_times, walk_times, crosses}
use Rattle.rules.specs.IntervalTable.{is_held, is_idle, is_running}
use Rattle.rules.specs.State.{idle, locked, asked, movement}
use Rattle.rules.specs.Demands.{locks_after, buttons_after, demands_after, next_demanded, detected, extending, registers_lock, registers_button}
use Rattle.rules.specs.Movements.{walk_may_end, advanced, movements_after}
use Rattle.rules.specs.Counts.{counts_after}
use Rattle.rules.specs.Interval.{ends, position_after, counts_changed, clears_lock, locks_left, starts}
use Rattle.rules.specs.Walks.{begins, walks_begun, buttons_left}
use Rattle.rules.specs.Step.{stepped_into, stepped_to, stepped}
use Rattle.laws.proofs.Lists.{list_at}
use Rattle.laws.proofs.ByteSets.{bit-set}

-- the times of the phase that a state has
abbrev pub times_now : Site → State → PhaseTimes
times_now site s = phase_times site.times s.position.phase

module _ (site : Site) (s : State) (inputs : ℕ) where
  -- another phase is demanded
  unfoldable pub another : Bool
  another = is_held (next_demanded site s inputs)

  -- the counts after part 3
  unfoldable pub counted : Counts
  counted =
      counts_after s.position.interval (times_now site s) (detected extending site inputs s.position.phase) another s.counts

  -- a walk that has lasted may end in this step
  abbrev pub may_end : Bool
  may_end = walk_may_end s.position.interval (times_now site s) another s.counts

  -- the movements after part 2
  unfoldable pub moving : List Movement
  moving = movements_after site.times may_end s.movements

  -- the interval ends in this step
  unfoldable pub ended : Bool
  ended = ends s.position.interval site.times.start (times_now site s) s.position.age another moving counted

  -- the position after part 4
  unfoldable pub now : Position
  now = position_after ended site.times (next_demanded site s inputs) s.position

  -- a phase starts in this step
  unfoldable pub started : Bool
  started = starts ended s.position

  -- movement k after part 2, and its demand after part 1
  unfoldable pub moved : ℕ → Movement
  moved k = advanced may_end (movement s k).stage (walk_times site.times k) (movement s k).age

  unfoldable pub asked_now : ℕ → Bool
  asked_now k = asked s k || registers_button s.movements inputs k

  unfoldable pub locked_now : ℕ → Bool
  locked_now p = locked s p || registers_lock site s inputs p

  -- the walk of movement k begins in this step
  unfoldable pub begun : ℕ → Bool
  begun k =
      asked_now k && crosses site.crossings k now.phase && (started || (is_running now.interval && not another && is_idle (moved k).stage))

  pub position-of : (stepped site s inputs).position ≡ now
  unfolding stepped stepped_to stepped_into another counted moving ended now
  position-of = refl

  pub counts_of : (stepped site s inputs).counts ≡ counts_changed ended site.times s.position now counted
  unfolding stepped stepped_to stepped_into another counted moving ended now
  counts_of = refl

  pub moved_at : (k : ℕ) → k < 8 → get_or moving k idle ≡ moved k
  unfolding moving movements_after moved movement
  moved_at k h = list_at (λ (k : ℕ). advanced may_end (movement s k).stage (walk_times site.times k) (movement s k).age) 8 k idle h

  pub asked-at : (k : ℕ) → k < 8 → bit k (demands_after site s inputs).buttons ≡ asked_now k
  unfolding demands_after buttons_after asked asked_now
  asked-at k h = bit-set (λ (k : ℕ). asked s k || registers_button s.movements inputs k) k h

  pub locked-at : (p : ℕ) → p < 8 → bit p (demands_after site s inputs).locks ≡ locked_now p
  unfolding demands_after locks_after locked_now
  locked-at p h = bit-set (λ (p : ℕ). locked s p || registers_lock site s inputs p) p h

  -- what part 5 asks of index k
  begins-at : ℕ → Bool
  begins-at k = begins site.crossings started another now (demands_after site s inputs).buttons moving k

  begun-at : (k : ℕ) → k < 8 → begins-at k ≡ begun k
  unfolding begins begins-at begun
  begun-at k h = rw (asked-at k h, moved_at k h)

  pub locked-of : (p : ℕ) → p < 8 → locked (stepped site s inputs) p ≡ (locked_now p && not (clears_lock ended now p))
  unfolding stepped stepped_to stepped_into another counted moving ended now locked locks_left
  locked-of p h =
      bit-set (λ (p : ℕ). bit p (demands_after site s inputs).locks && not (clears_lock ended now p)) p h
      ∙ ap (λ (t : Bool). t && not (clears_lock ended now p)) (locked-at p h)

  pub asked_of : (k : ℕ) → k < 8 → asked (stepped site s inputs) k ≡ (asked_now k && not (begun k))
  unfolding stepped stepped_to stepped_into another counted moving ended now started asked buttons_left begins-at
  asked_of k h =
      bit-set (λ (k : ℕ). bit k (demands_after site s inputs).buttons && not (begins-at k)) k h
      ∙ rw (asked-at k h, begun-at k h)

  pub movement-of : (k : ℕ) → k < 8 → movement (stepped site s inputs) k ≡ (if begun k then record { stage = Walk; age = 1 } else moved k)
  unfolding stepped stepped_to stepped_into another counted moving ended now started movement walks_begun begins-at
  movement-of k h =
      list_at (λ (k : ℕ). if begins-at k then record { stage = Walk; age = 1 } else get_or moving k idle) 8 k idle h
      ∙ rw (moved_at k h, begun-at k h)
