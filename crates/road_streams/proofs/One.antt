-- The traffic of one stream by cases: whether the remainder reaches 36,000, and whether this is the 20th step that is counted.
use Prim.Native.Nat.{ℕ, ◌+◌, ◌-◌, ◌≤◌, ◌<◌}
use mathlib.Core.Bool.{Bool, true, false, ◌&&◌}
use mathlib.Core.Path.{◌≡◌, refl, sym, ◌∙◌}
use lib.Dec.{ltb, eqb}
use native.Mathlib.Omega.{arith}
use borrow.Author.Tests.{lt-ltb, le-ltb, ltb-true, eq-eqb, ne_eqb}
use Rattle.std.specs.Prelude.{if◌then◌else◌}
use Rattle.rules.specs.Colours.{green}
use Rattle.road_streams.specs.declared.Traffic.{Traffic}
use Rattle.road_streams.specs.Road.{queues, arrived, counted, released}

module _ (rate : ℕ) (t : Traffic) where
  pub nobody-joins :
      t.remainder + rate < 36000 →
      record { remainder = t.remainder + rate; queued = t.queued; gone = t.gone; count = t.count } ≡ arrived rate t
  unfolding arrived
  nobody-joins h = rw (lt-ltb (t.remainder + rate) 36000 h) refl

  pub one-joins :
      36000 ≤ t.remainder + rate →
      record { remainder = t.remainder + rate - 36000; queued = t.queued + 1; gone = t.gone; count = t.count } ≡ arrived rate t
  unfolding arrived
  one-joins h = rw (le-ltb (t.remainder + rate) 36000 h) refl

-- the count after a step in which the group shows green or not, and what the 20th count releases
module _ (t : Traffic) (shows : Bool) (count : ℕ) (is : count ≡ (if shows && queues t then t.count + 1 else 0)) where
  pub some-queue : count ≡ 20 → 1 ≤ t.queued
  unfolding queues
  some-queue h = by shows (sym is ∙ h)
    where
      within : (queue : Bool) → ltb 0 t.queued ≡ queue → (if queue then t.count + 1 else 0) ≡ 20 → 1 ≤ t.queued
      within true some e = ltb-true 0 t.queued some
      within false some e = absurd (omega (arith, e))

      by : (b : Bool) → (if b && ltb 0 t.queued then t.count + 1 else 0) ≡ 20 → 1 ≤ t.queued
      by true e = within (ltb 0 t.queued) refl e
      by false e = absurd (omega (arith, e))

  module _ (colour : ℕ) (e : eqb colour green ≡ shows) where
    pub one-leaves :
        count ≡ 20 → record { remainder = t.remainder; queued = t.queued - 1; gone = t.gone + 1; count = 0 } ≡ released colour t
    unfolding released counted
    one-leaves h = rw e (by (shows && queues t) (sym is ∙ h))
      where
        by :
            (counts : Bool) →
            (if counts then t.count + 1 else 0) ≡ 20 →
            record { remainder = t.remainder; queued = t.queued - 1; gone = t.gone + 1; count = 0 }
            ≡ (if counts then counted t else record { remainder = t.remainder; queued = t.queued; gone = t.gone; count = 0 })
        by true e = rw (eq-eqb (t.count + 1) 20 e) refl
        by false e = absurd (omega (arith, e))

    pub nobody-leaves :
        (count ≡ 20 → ⊥) → record { remainder = t.remainder; queued = t.queued; gone = t.gone; count = count } ≡ released colour t
    unfolding released counted
    nobody-leaves h = rw (e, is) (by (shows && queues t) (λ e. h (is ∙ e)))
      where
        by :
            (counts : Bool) →
            ((if counts then t.count + 1 else 0) ≡ 20 → ⊥) →
            record { remainder = t.remainder; queued = t.queued; gone = t.gone; count = if counts then t.count + 1 else 0 }
            ≡ (if counts then counted t else record { remainder = t.remainder; queued = t.queued; gone = t.gone; count = 0 })
        by true e = rw (ne_eqb (t.count + 1) 20 e) refl
        by false e = refl
