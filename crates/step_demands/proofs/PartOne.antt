-- Part 1 put together: what its calls give from the sets of phases of which detectors are occupied is what the rules say, set by set.
use Rattle.std.specs.Prelude.{Option}
use Prim.Native.Nat.{ℕ, ◌<◌}
use mathlib.Core.Bool.{Bool, not, ◌&&◌, ◌||◌}
use mathlib.Core.Path.{◌≡◌, sym, ap, ◌∙◌}
use native.Mathlib.Omega.{arith}
use lib.Bits.{bit_or}
use lib.ListN.{length, take}
use mathlib.Core.List.{List}
use Rattle.rules.specs.declared.site.Detector.{Detector}
use Rattle.rules.specs.declared.site.Site.{Site}
use Rattle.rules.specs.declared.state.Demands.{Demands}
use Rattle.rules.specs.declared.state.KeptState.{KeptState}
use Rattle.laws.specs.Bytes.{bit}
use Rattle.laws.specs.Folds.{set_of}
use Rattle.rules.specs.Site.{ring}
use Rattle.rules.specs.State.{locked}
use Rattle.rules.specs.Demands.{calling, locking, extending, detected_among, detected, in_green, registers_lock, registers_button, calls, locks_after, buttons_after, demands_after, next_after}
use Rattle.rules.specs.Kept.{is_kept, press_keeps, kept_after, next_kept}
use Rattle.rules.specs.Laws.{Sound}
use Rattle.laws.proofs.ByteSets.{bit-set, set_same, self-told, union-told}
use Rattle.laws.proofs.Booleans.{and-false-right}
use Rattle.laws.proofs.Folds.{any-past}
use Rattle.step_demands_detectors.specs.declared.Sensed.{Sensed}
use Rattle.site_sound.proofs.Rows.{detected-taken}
use Rattle.step_demands_detectors.specs.Sensed.{SensedBy}
use Rattle.step_demands.specs.Registered.{RegisteredBy}
use Rattle.step_demands.proofs.Sites.{ring-same}

module _
    (site : Site) (s : KeptState) (inputs : ℕ) (own : List Detector) (sensed : Sensed) (green to_lock to_call : ℕ)
    (row : own ≡ take site.size.detectors site.detectors)
    (count : length own ≡ site.size.detectors)
    (scanned : SensedBy own inputs s.core.position.phase sensed)
    (greens : green ≡ set_of (in_green s.core.position))
    (locks : to_lock ≡ set_of (λ p. bit p sensed.locks && not (bit p green)))
    (called : to_call ≡ set_of (λ p. bit p sensed.calls && not (bit p green)))
  where
    -- of a set of phases those that may be demanded
    outside :
        (kind : ℕ → Bool) (set : ℕ) →
        ((p : ℕ) → p < 8 → bit p set ≡ detected_among own (length own) kind inputs p) →
        set_of (λ p. bit p set && not (bit p green)) ≡ set_of (λ p. detected kind site inputs p && not (in_green s.core.position p))
    unfolding detected
    outside kind set told =
        set_same _ _
        (λ p l. rw (told p l, detected-taken site.detectors site.size.detectors row count kind inputs p, greens, bit-set (in_green s.core.position) p l))

    lock-told : to_lock ≡ set_of (registers_lock site s.core inputs)
    unfolding registers_lock
    lock-told = locks ∙ outside locking sensed.locks scanned.locks

    call-told : to_call ≡ set_of (calls site s.core inputs)
    unfolding calls
    call-told = called ∙ outside calling sensed.calls scanned.calls

    module _
        (buttons pressing : ℕ) (next : Option ℕ)
        (pressed : buttons ≡ buttons_after s.core.demands.buttons s.core.movements inputs)
        (presses : pressing ≡ set_of (press_keeps s.core.movements site.crossings 8 inputs))
        (searched :
        next
        ≡ next_after (ring site.order site.size.phases) s.core.position.phase
        (λ p. bit p (bit_or (bit_or (bit_or s.kept to_lock) pressing) to_call)))
        (sound : Sound site) (locks_small : s.core.demands.locks < 256) (kept_small : s.kept < 256)
      where
        abbrev standing : Demands
        standing = record { locks = bit_or s.core.demands.locks to_lock; buttons = buttons }

        -- the demands that stand
        standing-told : standing ≡ demands_after site s.core inputs
        unfolding demands_after locks_after locked
        standing-told =
            rw (pressed, union-told _ _ _ _ (self-told s.core.demands.locks locks_small) lock-told)

        -- a movement that the site has not is of no phase
        press-told : pressing ≡ set_of (press_keeps s.core.movements site.crossings site.size.movements inputs)
        unfolding press_keeps
        press-told =
            presses
            ∙ set_same _ _
            (λ p l.
            sym
            (any-past _ site.size.movements 8 sound.movements
            (λ k past l. and-false-right (registers_button s.core.movements inputs k) (sound.no_crossing k p past))))

        -- the phases kept
        abbrev kept : ℕ
        kept = bit_or (bit_or s.kept to_lock) pressing

        kept-told : kept ≡ set_of (kept_after site s inputs)
        unfolding kept_after is_kept
        kept-told = union-told _ _ _ _ (union-told _ _ _ _ (self-told s.kept kept_small) lock-told) press-told

        -- a phase is demanded that is kept, or called by a detector
        next-told : next ≡ next_kept site s inputs
        unfolding next_kept
        next-told =
            searched
            ∙ ring-same site sound (λ p. bit p (bit_or kept to_call))
            (λ p. kept_after site s inputs p || calls site s.core inputs p) s.core.position.phase
            (λ p l. ap (bit p) (union-told _ _ _ _ kept-told call-told) ∙ bit-set _ p (omega arith))

        extended-told : sensed.extended ≡ detected extending site inputs s.core.position.phase
        unfolding detected
        extended-told =
            scanned.extended ∙ detected-taken site.detectors site.size.detectors row count extending inputs s.core.position.phase

        pub asked-told : RegisteredBy site s inputs (record { demands = standing; kept = kept; next = next; extended = sensed.extended })
        asked-told = record { demands = standing-told; kept = kept-told; next = next-told; extended = extended-told }
