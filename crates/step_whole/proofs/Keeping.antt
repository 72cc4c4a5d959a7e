-- The kept set after parts 4 and 5, from the demands that are gone and those that are left; and the whole step, by what its parts give.
use Rattle.std.specs.Prelude.{Option, Some, None, is_some}
use Prim.Native.Nat.{ℕ, ◌≤◌, ◌<◌}
use mathlib.Core.Bool.{Bool, true, false, not, ◌&&◌, ◌||◌, and-true}
use mathlib.Core.List.{List}
use mathlib.Core.Path.{◌≡◌, refl, sym, ap, ap₂}
use native.Mathlib.Omega.{arith}
use Rattle.rules.specs.declared.site.PhaseTimes.{PhaseTimes}
use Rattle.rules.specs.declared.site.Site.{Site}
use Rattle.rules.specs.declared.state.Counts.{Counts}
use Rattle.rules.specs.declared.state.Demands.{Demands}
use Rattle.rules.specs.declared.state.KeptState.{KeptState}
use Rattle.rules.specs.declared.state.Movement.{Movement}
use Rattle.rules.specs.declared.state.Position.{Position}
use Rattle.laws.specs.Bytes.{bit}
use Rattle.laws.specs.Folds.{set_of}
use Rattle.rules.specs.Site.{phase_times, crosses}
use Rattle.rules.specs.IntervalTable.{is_held}
use Rattle.rules.specs.Demands.{movement_demands, stands}
use Rattle.rules.specs.Movements.{walk_may_end, movements_after}
use Rattle.rules.specs.Counts.{counts_after}
use Rattle.rules.specs.Interval.{ends, position_after, counts_changed, locks_left, starts}
use Rattle.rules.specs.Walks.{begins}
use Rattle.rules.specs.Step.{stepped_into, stepped_to}
use Rattle.rules.specs.Kept.{kept_after, next_kept, gone, cleared, kept_left, kept_stepped}
use Rattle.laws.proofs.Booleans.{and-false-left, or-false-both}
use Rattle.laws.proofs.Folds.{any_none, any_same}
use Rattle.laws.proofs.ByteSets.{bit-set, set_same, set_told}
use Rattle.step_demands.specs.declared.Registered.{Registered}
use Rattle.step_demands.specs.Registered.{RegisteredBy}
use Rattle.step_walks.specs.declared.Begun.{Begun}
use Rattle.step_walks.specs.Begun.{begun_by}

-- ── What is left of the kept set ──

-- a phase stays unless it was cleared and does not stand
given-up : (kept cleared standing : Bool) → (kept && not (cleared && not standing)) ≡ (kept && (not cleared || standing))
given-up false cleared standing = refl
given-up true false standing = refl
given-up true true false = refl
given-up true true true = refl

-- what stays is not gone
none-gone : (a : Bool) → (a && not a) ≡ false
none-gone true = refl
none-gone false = refl

-- the demands that are gone
abbrev pub gone_ones : Demands → Demands → Demands
gone_ones old new = record { locks = set_of (gone old.locks new.locks); buttons = set_of (gone old.buttons new.buttons) }

module _ (crossings : List ℕ) (count : ℕ) (few : count ≤ 8) (old new : Demands) where
  -- the phases of these demands
  abbrev pub cleared_ones : ℕ → Bool
  cleared_ones = stands crossings count (gone_ones old new)

  -- a phase of which one is gone was cleared
  cleared-told : (p : ℕ) → p < 8 → cleared_ones p ≡ cleared crossings count old new p
  unfolding stands movement_demands cleared
  cleared-told p l =
      ap₂ (λ (s t : Bool). s || t) (bit-set (gone old.locks new.locks) p l)
      (any_same _ _ count
      (λ k m. ap (λ (t : Bool). t && crosses crossings k p) (bit-set (gone old.buttons new.buttons) k (omega arith))))

  module _ (kept : ℕ) where
    -- no demand is gone
    pub none-cleared :
        kept < 256 → old.locks ≡ new.locks → old.buttons ≡ new.buttons → kept ≡ set_of (kept_left crossings count old new (λ p. bit p kept))
    unfolding kept_left cleared gone
    none-cleared small locks buttons =
        set_told _ kept small
        (λ p l.
        let lock : gone old.locks new.locks p ≡ false = rw locks (none-gone (bit p new.locks)) in
        let button : (k : ℕ) → gone old.buttons new.buttons k ≡ false = λ k. rw buttons (none-gone (bit k new.buttons)) in
        let stays : cleared crossings count old new p ≡ false =
        or-false-both lock
        (any_none (λ k. gone old.buttons new.buttons k && crosses crossings k p) count
        (λ k m. and-false-left (crosses crossings k p) (button k))) in
        rw stays (sym (and-true (bit p kept))))

    pub some-cleared :
        (lost : ℕ) →
        lost ≡ set_of (λ p. bit p (set_of cleared_ones) && not (bit p (set_of (stands crossings count new)))) →
        set_of (λ p. bit p kept && not (bit p lost)) ≡ set_of (kept_left crossings count old new (λ p. bit p kept))
    unfolding kept_left
    some-cleared lost e =
        set_same _ _
        (λ p l.
        rw (e, bit-set (λ p. bit p (set_of cleared_ones) && not (bit p (set_of (stands crossings count new)))) p l, bit-set cleared_ones p l, bit-set (stands crossings count new) p l, cleared-told p l)
        (given-up (bit p kept) (cleared crossings count old new p) (stands crossings count new p)))

-- ── The step ──

-- another phase is demanded
pub held-some : (next : Option ℕ) → is_some next ≡ is_held next
unfolding is_held
held-some None = refl
held-some (Some p) = refl

module _ (site : Site) (s : KeptState) (inputs : ℕ) where
  -- the whole step, by what each of its parts gives
  pub whole-told :
      {own : PhaseTimes} {asked : Registered} {another : Bool} {may_end : Bool} {moved : List Movement} {counted : Counts} {ended : Bool} {now : Position} {started : Bool}
      {walked : Begun} {locks : ℕ} {counts : Counts} {kept : ℕ} →
      own ≡ phase_times site.times s.core.position.phase →
      RegisteredBy site s inputs asked →
      another ≡ is_held asked.next →
      may_end ≡ walk_may_end s.core.position.interval own another s.core.counts →
      moved ≡ movements_after site.times may_end s.core.movements →
      counted ≡ counts_after s.core.position.interval own asked.extended another s.core.counts →
      ended ≡ ends s.core.position.interval site.times.start own s.core.position.age another moved counted →
      now ≡ position_after ended site.times asked.next s.core.position →
      started ≡ starts ended s.core.position →
      walked ≡ begun_by (begins site.crossings started another now asked.demands.buttons moved) asked.demands.buttons moved →
      locks ≡ locks_left ended now asked.demands.locks →
      counts ≡ counts_changed ended site.times s.core.position now counted →
      kept
      ≡ set_of
      (kept_left site.crossings site.size.movements asked.demands (record { locks = locks; buttons = walked.buttons })
      (λ p. bit p asked.kept)) →
      ◌≡◌ {A = KeptState}
      (record {
        core = record { position = now; counts = counts; demands = record { locks = locks; buttons = walked.buttons }; movements = walked.movements };
        kept = kept;
      })
      (kept_stepped site s inputs)
  unfolding kept_stepped kept_left stepped_to stepped_into begun_by
  whole-told {asked = asked} e1 e2 e3 e4 e5 e6 e7 e8 e9 e10 e11 e12 e13 =
      let after = stepped_to (next_kept site s inputs) site s.core inputs in
      rw (e13, e12, e11, e10, e9, e8, e7, e6, e5, e4, e3, e2.next, e2.extended, e2.demands, e1)
      (ap (λ (set : ℕ). record { core = after; kept = set })
      (set_same _ _ (λ p l. rw (e2.kept, bit-set (kept_after site s inputs) p l))))
