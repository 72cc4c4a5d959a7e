-- The kept set and the scan. After part 1 a phase is kept where the scan of the demands that stand finds it: a registered lock or press is
-- the only thing that the scan finds and the old set has not. After parts 4 and 5 it is so again: where the scan of what is left no longer
-- finds a phase, a demand of it was cleared, and where it still does the phase stays kept.
use Prim.Native.Nat.{ℕ, ◌<◌}
use mathlib.Core.Bool.{Bool, true, false, not, ◌&&◌, ◌||◌}
use mathlib.Core.List.{List}
use mathlib.Core.Logic.{◌⊎◌, inl, inr, ⊎_elim}
use mathlib.Core.Path.{◌≡◌, refl, sym, ap, ◌∙◌}
use native.Mathlib.Omega.{arith}
use borrow.Author.Tests.{eqb-true}
use Rattle.rules.specs.declared.site.Site.{Site}
use Rattle.rules.specs.declared.state.Demands.{Demands}
use Rattle.rules.specs.declared.state.KeptState.{KeptState}
use Rattle.laws.specs.Bytes.{bit}
use Rattle.laws.specs.Folds.{any_of, set_of}
use Rattle.rules.specs.Site.{crosses}
use Rattle.rules.specs.State.{locked, asked, valid}
use Rattle.rules.specs.Demands.{registers_lock, registers_button, calls, demands_after, movement_demands, stands, demanded, next_after, next_demanded}
use Rattle.rules.specs.Kept.{is_kept, kept_valid, press_keeps, kept_after, next_kept, gone, cleared, kept_left}
use Rattle.rules.specs.Laws.{Sound}
use Rattle.rules.specs.Scanning.{KeptIsScan}
use Rattle.laws.proofs.Booleans.{and_left, and_right, and_both, or_left, or_right, or_cases, and-false-left, and-false-right, decided, never_both, not-true-false, same_tests}
use Rattle.laws.proofs.Folds.{any_found, any_at}
use Rattle.laws.proofs.ByteSets.{bit-set}
use Rattle.proof_ring.proofs.Turns.{turn}
use Rattle.proof_ring.proofs.Ring.{found-same}
use Rattle.proof_ring.proofs.RunningOrder.{ring_of}
use Rattle.proof_runs.proofs.Steps.{asked_now, locked_now, asked-at, locked-at}

-- in a valid state the kept set is the scan's, so it has the scan's bits
pub kept-is-scan : KeptIsScan
unfolding KeptIsScan kept_valid is_kept
kept-is-scan site s v p l =
    let scan = stands site.crossings site.size.movements s.core.demands in
    ap (bit p) (eqb-true s.kept (set_of scan) (and_right (valid site s.core) _ v)) ∙ bit-set scan p l

-- ── What the scan finds ──

module _ (crossings : List ℕ) (count : ℕ) (d : Demands) (p : ℕ) where
  -- a lock, or a demanded movement of the phase
  Found : Type 0
  Found =
      (bit p d.locks ≡ true)
      ⊎ ((k : ℕ) × (k < count) × (bit k d.buttons ≡ true) × (crosses crossings k p ≡ true))

  scan-finds : stands crossings count d p ≡ true → Found
  unfolding stands movement_demands Found
  scan-finds h =
      ⊎_elim
      (λ (l : bit p d.locks ≡ true). inl l)
      (λ (m : any_of (λ k. bit k d.buttons && crosses crossings k p) count ≡ true).
      let found = any_found (λ k. bit k d.buttons && crosses crossings k p) count m in
      let k = found.0 in
      inr (
        k,
        found.1,
        and_left (bit k d.buttons) (crosses crossings k p) found.2,
        and_right (bit k d.buttons) (crosses crossings k p) found.2,
      ))
      (or_cases (bit p d.locks) _ h)

  by-lock : bit p d.locks ≡ true → stands crossings count d p ≡ true
  unfolding stands
  by-lock h = or_left _ h

  by-button :
      (k : ℕ) → k < count → bit k d.buttons ≡ true → crosses crossings k p ≡ true → stands crossings count d p ≡ true
  unfolding stands movement_demands
  by-button k l h c =
      or_right (bit p d.locks)
      (any_at (λ k. bit k d.buttons && crosses crossings k p) count k l (and_both h c))

-- ── Part 1 ──

-- the demands that stand after part 1
abbrev pub standing_after : Site → KeptState → ℕ → Demands
standing_after site s inputs = demands_after site s.core inputs

module _ (site : Site) (sound : Sound site) (s : KeptState) (inputs : ℕ) (v : kept_valid site s ≡ true) where
  -- the phases that the scan of these demands finds
  abbrev standing : ℕ → Bool
  standing = stands site.crossings site.size.movements (standing_after site s inputs)

  lock-stands : (p : ℕ) → p < 8 → (locked s.core p || registers_lock site s.core inputs p) ≡ true → standing p ≡ true
  unfolding locked_now
  lock-stands p l h = by-lock site.crossings site.size.movements (standing_after site s inputs) p (locked-at site s.core inputs p l ∙ h)

  button-stands :
      (p k : ℕ) →
      k < site.size.movements →
      (asked s.core k || registers_button s.core.movements inputs k) ≡ true →
      crosses site.crossings k p ≡ true →
      standing p ≡ true
  unfolding asked_now
  button-stands p k l h c =
      by-button site.crossings site.size.movements (standing_after site s inputs) p k l (asked-at site s.core inputs k (omega (arith, sound.movements)) ∙ h) c

  from-kept : (p : ℕ) → p < 8 → is_kept s p ≡ true → standing p ≡ true
  unfolding KeptIsScan locked asked Found
  from-kept p l h =
      ⊎_elim
      (λ (lock : bit p s.core.demands.locks ≡ true). lock-stands p l (or_left _ lock))
      (λ (b : (k : ℕ) × (k < site.size.movements) × (bit k s.core.demands.buttons ≡ true) × (crosses site.crossings k p ≡ true)).
      button-stands p b.0 b.1 (or_left _ b.2) b.3)
      (scan-finds site.crossings site.size.movements s.core.demands p (sym (kept-is-scan site s v p l) ∙ h))

  to-kept : (p : ℕ) → p < 8 → stands site.crossings site.size.movements s.core.demands p ≡ true → is_kept s p ≡ true
  unfolding KeptIsScan
  to-kept p l h = kept-is-scan site s v p l ∙ h

  stands-kept : (p : ℕ) → p < 8 → kept_after site s inputs p ≡ true → standing p ≡ true
  unfolding kept_after press_keeps
  stands-kept p l h =
      ⊎_elim
      (λ (r : (is_kept s p || registers_lock site s.core inputs p) ≡ true).
      ⊎_elim
      (λ (k : is_kept s p ≡ true). from-kept p l k)
      (λ (lock : registers_lock site s.core inputs p ≡ true). lock-stands p l (or_right (locked s.core p) lock))
      (or_cases (is_kept s p) (registers_lock site s.core inputs p) r))
      (λ (m : any_of (λ k. registers_button s.core.movements inputs k && crosses site.crossings k p) site.size.movements ≡ true).
      let found = any_found (λ k. registers_button s.core.movements inputs k && crosses site.crossings k p) site.size.movements m in
      let k = found.0 in
      let press = registers_button s.core.movements inputs k in
      button-stands p k found.1
      (or_right (asked s.core k) (and_left press (crosses site.crossings k p) found.2))
      (and_right press (crosses site.crossings k p) found.2))
      (or_cases (is_kept s p || registers_lock site s.core inputs p) (press_keeps s.core.movements site.crossings site.size.movements inputs p) h)

  kept-stands : (p : ℕ) → p < 8 → standing p ≡ true → kept_after site s inputs p ≡ true
  unfolding kept_after press_keeps Found locked_now asked_now locked asked
  kept-stands p l h =
      ⊎_elim
      (λ (lock : bit p (standing_after site s inputs).locks ≡ true).
      ⊎_elim
      (λ (was : locked s.core p ≡ true). or_left _ (or_left _ (to-kept p l (by-lock site.crossings site.size.movements s.core.demands p was))))
      (λ (r : registers_lock site s.core inputs p ≡ true). or_left _ (or_right (is_kept s p) r))
      (or_cases (locked s.core p) (registers_lock site s.core inputs p) (sym (locked-at site s.core inputs p l) ∙ lock)))
      (λ (b : (k : ℕ) × (k < site.size.movements) × (bit k (standing_after site s inputs).buttons ≡ true) × (crosses site.crossings k p ≡ true)).
      let k = b.0 in
      ⊎_elim
      (λ (was : asked s.core k ≡ true). or_left _ (or_left _ (to-kept p l (by-button site.crossings site.size.movements s.core.demands p k b.1 was b.3))))
      (λ (r : registers_button s.core.movements inputs k ≡ true).
      or_right (is_kept s p || registers_lock site s.core inputs p)
      (any_at (λ k. registers_button s.core.movements inputs k && crosses site.crossings k p) site.size.movements k b.1
      (and_both r b.3)))
      (or_cases (asked s.core k) (registers_button s.core.movements inputs k)
      (sym (asked-at site s.core inputs k (omega (arith, sound.movements, b.1))) ∙ b.2)))
      (scan-finds site.crossings site.size.movements (standing_after site s inputs) p h)

  -- after part 1 a phase is kept where the scan finds it
  pub kept-after : (p : ℕ) → p < 8 → kept_after site s inputs p ≡ standing p
  kept-after p l = same_tests (kept_after site s inputs p) (standing p) (stands-kept p l) (kept-stands p l)

  -- so the search by the kept set finds what the search by the scan does
  pub next-kept : next_kept site s inputs ≡ next_demanded site s.core inputs
  unfolding next_kept next_demanded next_after demanded turn
  next-kept =
      found-same (ring_of site sound) (λ p. kept_after site s inputs p || calls site s.core inputs p) (demanded site s.core inputs)
      s.core.position.phase
      (λ p l. ap (λ (kept : Bool). kept || calls site s.core inputs p) (kept-after p (omega (arith, sound.phases))))

-- ── Parts 4 and 5 ──

module _
    (crossings : List ℕ) (count : ℕ) (old new : Demands)
    (lock-was : (p : ℕ) → p < 8 → bit p new.locks ≡ true → bit p old.locks ≡ true)
    (button-was : (k : ℕ) → k < count → bit k new.buttons ≡ true → bit k old.buttons ≡ true)
    (p : ℕ) (l : p < 8)
  where
    still-stood : stands crossings count new p ≡ true → stands crossings count old p ≡ true
    unfolding Found
    still-stood h =
        ⊎_elim
        (λ (lock : bit p new.locks ≡ true). by-lock crossings count old p (lock-was p l lock))
        (λ (b : (k : ℕ) × (k < count) × (bit k new.buttons ≡ true) × (crosses crossings k p ≡ true)).
        by-button crossings count old p b.0 b.1 (button-was b.0 b.1 b.2) b.3)
        (scan-finds crossings count new p h)

    -- what stood and stands no more was cleared
    left-cleared : stands crossings count old p ≡ true → stands crossings count new p ≡ false → cleared crossings count old new p ≡ true
    unfolding cleared gone Found
    left-cleared h none =
        ⊎_elim
        (λ (lock : bit p old.locks ≡ true).
        or_left _
        (and_both lock (ap not (not-true-false (bit p new.locks) (λ e. never_both (by-lock crossings count new p e) none)))))
        (λ (b : (k : ℕ) × (k < count) × (bit k old.buttons ≡ true) × (crosses crossings k p ≡ true)).
        let k = b.0 in
        or_right (gone old.locks new.locks p)
        (any_at (λ k. gone old.buttons new.buttons k && crosses crossings k p) count k b.1
        (and_both
        (and_both b.2
        (ap not (not-true-false (bit k new.buttons) (λ e. never_both (by-button crossings count new p k b.1 e b.3) none))))
        b.3)))
        (scan-finds crossings count old p h)

    pub kept-left : (kept : ℕ → Bool) → kept p ≡ stands crossings count old p → kept_left crossings count old new kept p ≡ stands crossings count new p
    unfolding kept_left
    kept-left kept e =
        ⊎_elim
        (λ (h : stands crossings count new p ≡ true).
        rw h (and_both (e ∙ still-stood h) (or_right (not (cleared crossings count old new p)) refl)))
        (λ (none : stands crossings count new p ≡ false).
        ⊎_elim
        (λ (h : stands crossings count old p ≡ true). rw (none, left-cleared h none) (and-false-right (kept p) refl))
        (λ (h : stands crossings count old p ≡ false). rw none (and-false-left _ (e ∙ h)))
        (decided (stands crossings count old p)))
        (decided (stands crossings count new p))
