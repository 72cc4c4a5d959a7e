-- The way to a demanded phase along the ring: the sum of a weight over the phases that may start before it. The search for the next phase never
-- jumps over a demanded one, so each start leaves no more than the way that was left. The wait bound weighs a phase by its visit, the waits by its turn, a count
-- of starts by 1.
use Rattle.std.specs.Prelude.{Option, Some, None}
use Prim.Native.Nat.{ℕ, ◌+◌, ◌≤◌, ◌<◌}
use mathlib.Core.Bool.{true}
use mathlib.Core.List.{List}
use mathlib.Core.Path.{◌≡◌, refl, sym}
use native.Mathlib.Omega.{arith}
use Rattle.rules.specs.declared.site.Site.{Site}
use Rattle.rules.specs.declared.state.State.{State}
use Rattle.laws.specs.Folds.{sum_of}
use Rattle.rules.specs.Site.{ring}
use Rattle.rules.specs.IntervalTable.{is_held, phase_held}
use Rattle.rules.specs.Demands.{demanded, next_after, next_demanded}
use Rattle.rules.specs.Laws.{Sound}
use Rattle.laws.proofs.Booleans.{never_both}
use Rattle.proof_runs.proofs.Steps.{another}
use Rattle.proof_ring.proofs.Turns.{turn}
use Rattle.proof_ring.proofs.Ring.{rest, from, from-own, from-other, other-found, rest-own, rest-other, from-most, nearer, from_past}
use Rattle.proof_ring.proofs.RunningOrder.{ring_of}

-- the ring of a site
abbrev pub ring_in : Site → List ℕ
ring_in site = ring site.order site.size.phases

module _ (weight : ℕ → ℕ) (phases : List ℕ) (q tail : ℕ) where
  -- from the start of phase t until phase q starts, and the tail after that
  pub ahead : ℕ → ℕ
  ahead t = from weight phases q t + tail

  -- from the end of phase p on
  pub onward : ℕ → ℕ
  onward p = rest weight phases q p + tail

  pub onward-some : (p : ℕ) → tail ≤ onward p
  unfolding onward
  onward-some p = omega arith

  pub ahead-some : (t : ℕ) → tail ≤ ahead t
  unfolding ahead
  ahead-some t = omega arith

  pub ahead_own : ahead q ≡ tail
  unfolding ahead
  ahead_own = omega (arith, from-own weight phases q)

  pub ahead_apart : (t : ℕ) → (t ≡ q → ⊥) → weight t + onward t ≤ ahead t
  unfolding ahead onward
  ahead_apart t other = omega (arith, from-other weight phases other)

module _ (site : Site) (q : ℕ) (sound : Sound site) (below : q < site.size.phases) where
  module _ (weight : ℕ → ℕ) (tail : ℕ) where
    abbrev whole : ℕ
    whole = sum_of weight site.size.phases + tail

    pub ahead-most : (t : ℕ) → t < site.size.phases → ahead weight (ring_in site) q tail t + weight q ≤ whole
    unfolding ahead
    ahead-most t l = omega (arith, from-most (ring_of site sound) weight below l)

    pub onward-most : (p : ℕ) → p < site.size.phases → (p ≡ q → ⊥) → weight p + onward weight (ring_in site) q tail p + weight q ≤ whole
    unfolding onward
    onward-most p l other = omega (arith, rest-other (ring_of site sound) weight below l other)

    -- the way from another phase does not lead through the one that comes next after q
    pub ahead_past :
        (r t : ℕ) →
        next_after (ring_in site) q (λ p. true) ≡ Some r →
        t < site.size.phases →
        (t ≡ r → ⊥) →
        weight r + ahead weight (ring_in site) q tail t + weight q ≤ whole
    unfolding ahead next_after turn
    ahead_past r t e l other = omega (arith, from_past (ring_of site sound) weight below e l other)

    -- the ring once round
    pub onward-own : weight q + onward weight (ring_in site) q tail q ≤ whole
    unfolding onward
    onward-own = omega (arith, rest-own (ring_of site sound) weight below)

  module _ (s : State) (inputs : ℕ) (d : demanded site s inputs q ≡ true) where
    -- the demanded phase is another one
    pub demanded-another : (s.position.phase ≡ q → ⊥) → another site s inputs ≡ true
    unfolding another next_demanded next_after turn
    demanded-another other = other-found (ring_of site sound) (demanded site s inputs) below (λ e. other (sym e)) d

    module _ (weight : ℕ → ℕ) (tail : ℕ) (here : s.position.phase < site.size.phases) where
      near :
          (next : Option ℕ) →
          next_demanded site s inputs ≡ next →
          is_held next ≡ true →
          ahead weight (ring_in site) q tail (phase_held next) ≤ onward weight (ring_in site) q tail s.position.phase
      unfolding is_held phase_held ahead onward next_demanded next_after turn
      near None e h = absurd (never_both h refl)
      near (Some t) e h = omega (arith, nearer (ring_of site sound) weight below here (demanded site s inputs) d e)

      pub next-near :
          another site s inputs ≡ true →
          ahead weight (ring_in site) q tail (phase_held (next_demanded site s inputs)) ≤ onward weight (ring_in site) q tail s.position.phase
      unfolding another
      next-near a = near (next_demanded site s inputs) refl a
