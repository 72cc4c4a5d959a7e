-- No wait is more than the wait bound, which two bytes hold, and so is no sum on the way. The phase after q is found by a search for any phase.
use Prim.Native.Nat.{ℕ, ◌+◌, ◌≤◌, ◌<◌, max}
use mathlib.Core.Bool.{true, false, not, ◌&&◌}
use mathlib.Core.List.{List, [], ◌∷◌, ◌++◌}
use mathlib.Core.Path.{◌≡◌, refl, sym, ap, ◌∙◌}
use native.Mathlib.Nat.{le_trans, zero-add, suc-add}
use native.Mathlib.Omega.{arith}
use lib.Dec.{eqb}
use borrow.Author.Tests.{eq-eqb, ne_eqb, not-true, not-false}
use native.Mathlib.Numerals.{add-one}
use Rattle.std.specs.Option.{option_eq}
use lib.ListN.{length, get_or, get_or-append}
use Rattle.rules.specs.declared.site.Site.{Site}
use Rattle.laws.specs.Bytes.{bit}
use Rattle.std.specs.Prelude.{if◌then◌else◌, Option, None, Some, ◌≢◌}
use Rattle.laws.specs.Folds.{sum_of, greatest_of, list_of}
use Rattle.rules.specs.Site.{walk_times, crosses, ring}
use Rattle.rules.specs.IntervalTable.{is_held, phase_held}
use Rattle.rules.specs.Demands.{next_after}
use Rattle.rules.specs.WaitBound.{wait_bound}
use Rattle.rules.specs.Waits.{turn_of, rest_of, comes_after, clearing_of, phase_wait_by, phase_wait, movement_wait, phase_of_movement, waits_of}
use Rattle.rules.specs.Laws.{Sound}
use Rattle.laws.proofs.BitRanges.{full-each}
use Rattle.laws.proofs.Lists.{list_length, list_at}
use Rattle.laws.proofs.Sums.{sum-part}
use Rattle.rules.proofs.Settings.{walk-reached}
use Rattle.proof_ring.proofs.Turns.{turn}
use Rattle.proof_ring.proofs.Ring.{found-same}
use Rattle.proof_ring.proofs.RunningOrder.{ring_of}
use Rattle.proof_waits.proofs.WithinBound.{phase-wait-within, movement-wait-within, phase-of-movement}
use Rattle.wait_bound.proofs.Sums.{bound-fits}

-- the turn of phase p, unless it is q
abbrev pub other_turn : Site → ℕ → ℕ → ℕ
other_turn site q p = if eqb p q then 0 else turn_of site p

module _ (site : Site) (sound : Sound site) (q : ℕ) (below : q < site.size.phases) where
  pub wait-fits : phase_wait site q ≤ 65535
  unfolding wait_bound
  wait-fits =
      le_trans (phase-wait-within site sound q below)
      (bound-fits site.size site.times site.crossings sound.phases.1 sound.times)

  pub movement-fits : (m : ℕ) → m < site.size.movements → crosses site.crossings m q ≡ true → movement_wait site q m ≤ 65535
  unfolding wait_bound
  movement-fits m exists crossing =
      le_trans (movement-wait-within site sound q below m exists crossing)
      (bound-fits site.size site.times site.crossings sound.phases.1 sound.times)

  turns_fit : (p : ℕ) → p < site.size.phases → sum_of (other_turn site q) p + other_turn site q p ≤ 65535
  unfolding phase_wait_by rest_of
  turns_fit p l = omega (arith, wait-fits, sum-part (other_turn site q) p site.size.phases l)

  pub turn-fits : (p : ℕ) → p < site.size.phases → p ≢ q → sum_of (other_turn site q) p + turn_of site p ≤ 65535
  turn-fits p l apart =
      let fits = turns_fit p l in
      rw (ne_eqb p q apart) at fits

  -- one turn more, and none for q
  pub turn-more : (p : ℕ) → p ≢ q → sum_of (other_turn site q) p + turn_of site p ≡ sum_of (other_turn site q) (p + 1)
  unfolding sum_of
  turn-more p apart = rw (add-one p, ne_eqb p q apart) refl

  pub turn-past : (p : ℕ) → p ≡ q → sum_of (other_turn site q) p ≡ sum_of (other_turn site q) (p + 1)
  unfolding sum_of
  turn-past p same = rw (add-one p, eq-eqb p q same) (omega arith)

  -- any phase passes
  any-phase : (p : ℕ) → p < 8 → bit p 255 ≡ true
  any-phase p l = full-each 8 255 p refl l

  -- as the code asks it
  held-told : (next : Option ℕ) (r : ℕ) → not (option_eq eqb next (Some r)) ≡ not (is_held next && eqb (phase_held next) r)
  unfolding is_held phase_held
  held-told None r = refl
  held-told (Some p) r = refl

  pub comes-told :
      (r : ℕ) (next : Option ℕ) →
      next ≡ next_after (ring site.order site.size.phases) q (λ p. bit p 255) →
      not (option_eq eqb next (Some r)) ≡ not (comes_after site q r)
  unfolding comes_after next_after turn
  comes-told r next e =
      held-told next r
      ∙ ap (λ (next : Option ℕ). not (is_held next && eqb (phase_held next) r))
      (e ∙ found-same (ring_of site sound) (λ p. bit p 255) (λ p. true) q (λ p l. any-phase p (omega (arith, sound.phases))))

-- ── What comes first ──

-- the greatest of start red and of the first n phases
abbrev pub first_of : (site : Site) (q n : ℕ) → ℕ
first_of site q n = max site.times.start (greatest_of (λ r. if comes_after site q r then 0 else clearing_of site r) n)

module _ (site : Site) (q r : ℕ) where
  pub first-more : not (comes_after site q r) ≡ true → max (first_of site q r) (clearing_of site r) ≡ first_of site q (r + 1)
  unfolding greatest_of
  first-more counts = rw (add-one r, not-true (comes_after site q r) counts) (omega arith)

  pub first-past : not (comes_after site q r) ≡ false → first_of site q r ≡ first_of site q (r + 1)
  unfolding greatest_of
  first-past next = rw (add-one r, not-false (comes_after site q r) next) (omega arith)

pub walks-fit : (site : Site) → Sound site → (k : ℕ) → k < site.size.movements → (walk_times site.times k).walk + (walk_times site.times k).first ≤ 65535
walks-fit site sound k l = let reached = walk-reached site sound k l in omega (arith, reached.walk, reached.first)

-- ── The phase of a movement ──

abbrev pub phase_in : ℕ → ℕ → ℕ
phase_in set p = if bit p set then p else 0

module _ (set p : ℕ) where
  pub phase-more : bit p set ≡ true → max (greatest_of (phase_in set) p) p ≡ greatest_of (phase_in set) (p + 1)
  unfolding greatest_of
  phase-more has = rw (add-one p, has) refl

  pub phase-past : bit p set ≡ false → greatest_of (phase_in set) p ≡ greatest_of (phase_in set) (p + 1)
  unfolding greatest_of
  phase-past not = rw (add-one p, not) (omega arith)

pub all-phases :
    (site : Site) (m most p : ℕ) →
    most ≡ greatest_of (phase_in (get_or site.crossings m 0)) p →
    p ≡ site.size.phases →
    most ≡ phase_of_movement site m
unfolding phase_of_movement crosses
all-phases site m most p e same = e ∙ ap (greatest_of (phase_in (get_or site.crossings m 0))) same

-- it is a phase of the site, and the movement is of it
pub phase-fits :
    (site : Site) → Sound site → (m : ℕ) → m < site.size.movements →
    (phase_of_movement site m < site.size.phases) × (crosses site.crossings m (phase_of_movement site m) ≡ true)
phase-fits site sound m exists =
    let of = sound.crossing m exists in
    rw (phase-of-movement site sound of.0 m exists of.2) (of.1, of.2)

-- ── All of them ──

pub wait-of-phase : (site : Site) (i : ℕ) → i < site.size.phases → get_or (waits_of site) i 0 ≡ phase_wait site i
unfolding waits_of
wait-of-phase site i l =
    let waits : ℕ → ℕ = phase_wait site in
    get_or-append (list_of waits site.size.phases) (list_of (λ m. movement_wait site (phase_of_movement site m) m) site.size.movements) 0 i
    (omega (arith, list_length waits site.size.phases))
    ∙ list_at waits site.size.phases i 0 l

pub wait-of-movement :
    (site : Site) (m i : ℕ) →
    m < site.size.movements →
    i ≡ site.size.phases + m →
    get_or (waits_of site) i 0 ≡ movement_wait site (phase_of_movement site m) m
unfolding waits_of
wait-of-movement site m i l e =
    let waits : ℕ → ℕ = phase_wait site in
    let others : ℕ → ℕ = λ m. movement_wait site (phase_of_movement site m) m in
    rw e
    (ap (λ (n : ℕ). get_or (list_of waits site.size.phases ++ list_of others site.size.movements) (n + m) 0) (sym (list_length waits site.size.phases))
    ∙ behind (list_of waits site.size.phases) (list_of others site.size.movements) m
    ∙ list_at others site.size.movements m 0 l)
  where
    behind : (l more : List ℕ) (m : ℕ) → get_or (l ++ more) (length l + m) 0 ≡ get_or more m 0
    behind [] more m = ap (λ (n : ℕ). get_or more n 0) (zero-add m)
    behind (x ∷ l) more m = ap (λ (n : ℕ). get_or (x ∷ (l ++ more)) n 0) (suc-add (length l) m) ∙ behind l more m
