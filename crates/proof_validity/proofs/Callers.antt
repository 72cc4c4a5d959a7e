-- Every other phase can be called. A phase has a detector that calls it, with lock or without, or a movement; one input bit, that detector's or
-- that movement's button, demands the phase. The movement is not in walk, since in a valid state only movements of the phase on are.
use Prim.Native.Nat.{ℕ, ◌+◌, ◌%◌, ◌^◌, ◌<◌}
use mathlib.Core.Bool.{Bool, true, false, not}
use mathlib.Core.Logic.{⊎_elim}
use mathlib.Core.Path.{◌≡◌, refl, sym, ap, ◌∙◌}
use native.Mathlib.Omega.{arith}
use lib.Dec.{ltb, eqb}
use borrow.Author.Tests.{ltb-true, eqb-true, eqb-false, lt-ltb, le-leb, eq-eqb, ne_eqb}
use Rattle.rules.specs.declared.site.Site.{Site}
use Rattle.rules.specs.declared.state.Stage.{Stage}
use Rattle.rules.specs.declared.state.Stage.TheVariants.{Idle, Walk, ClearanceOne, ClearanceTwo}
use Rattle.rules.specs.declared.state.State.{State}
use Rattle.laws.specs.Bytes.{bit}
use Rattle.laws.specs.Folds.{all_of}
use Rattle.rules.specs.Personality.{known_mode}
use Rattle.rules.specs.Site.{detector_of, crosses}
use Rattle.rules.specs.IntervalTable.{is_idle, is_walk, is_green}
use Rattle.rules.specs.State.{locked, asked, movement, valid}
use Rattle.rules.specs.Demands.{occupied, pressed, calling, locking, detected_among, detected, in_green, registers_lock, registers_button, calls, demands_after, stands, demanded}
use Rattle.rules.specs.Call.{wired, stray_input}
use Rattle.rules.specs.Laws.{Sound}
use Rattle.laws.proofs.Booleans.{decided, and_left, and_both, and-false-left, and-false-right, or_left, or_right, not-true-false}
use Rattle.laws.proofs.Folds.{any_at, any_none}
use Rattle.laws.proofs.Tables.{table-holds}
use Rattle.laws.proofs.Bits.{bit-power}
use Rattle.proof_runs.proofs.Demanded.{lock-demands, button-demands}
use Rattle.proof_runs.proofs.Steps.{asked_now, locked_now}
use Rattle.proof_runs.proofs.ValidStates.{ValidState, state-told}

-- of the four rests of a mode the last that calls
last-left : (rest : ℕ) → rest < 3 → (rest ≡ 0 → ⊥) → (rest ≡ 1 → ⊥) → rest ≡ 2
last-left rest few some other = omega (arith, some, other)

walk-not-idle : (stage : Stage) → is_walk stage ≡ true → is_idle stage ≡ false
walk-not-idle Idle h = sym h
walk-not-idle Walk h = refl
walk-not-idle ClearanceOne h = refl
walk-not-idle ClearanceTwo h = refl

-- ── One input bit ──

-- as a number it fits 64 bits
bit-fits : (i : ℕ) → i < 56 → 2 ^ i < 2 ^ 64
unfolding all_of
bit-fits i l = ltb-true (2 ^ i) (2 ^ 64) (table-holds (λ i. ltb (2 ^ i) (2 ^ 64)) 56 refl i l)

own-bit : (i : ℕ) → bit i (2 ^ i) ≡ true
own-bit i = bit-power i i ∙ eq-eqb i i refl

module _ (site : Site) where
  none-stray : (i : ℕ) → wired site i ≡ true → stray_input site (2 ^ i) ≡ false
  unfolding stray_input
  none-stray i known =
      any_none _ 64
      (λ j m.
      ⊎_elim
      (λ (e : eqb i j ≡ true). and-false-right (bit j (2 ^ i)) (ap not (ap (wired site) (sym (eqb-true i j e)) ∙ known)))
      (λ (e : eqb i j ≡ false). and-false-left (not (wired site j)) (bit-power i j ∙ e))
      (decided (eqb i j)))

  -- ── Demands ──

  module _ (s : State) (p : ℕ) (other : p ≡ s.position.phase → ⊥) where
    -- detectors may demand the phase
    outside : not (in_green s.position p) ≡ true
    unfolding in_green
    outside = ap not (and-false-left (is_green s.position.interval) (ne_eqb p s.position.phase other))

    locking-demands : (inputs : ℕ) → p < 8 → detected locking site inputs p ≡ true → demanded site s inputs p ≡ true
    unfolding locked_now registers_lock
    locking-demands inputs l e = lock-demands site s inputs p l (or_right (locked s p) (and_both e outside))

    call-demands : (inputs : ℕ) → detected calling site inputs p ≡ true → demanded site s inputs p ≡ true
    unfolding demanded calls
    call-demands inputs e = or_right (stands site.crossings site.size.movements (demands_after site s inputs) p) (and_both e outside)

    -- ── The callers ──

    module _ (sound : Sound site) (v : ValidState site s) (here : p < site.size.phases) where
      -- by that input alone
      abbrev CalledBy : ℕ → Type 0
      CalledBy i = (2 ^ i < 2 ^ 64) × (stray_input site (2 ^ i) ≡ false) × (demanded site s (2 ^ i) p ≡ true)

      module _ (d : ℕ) (l : d < site.size.detectors) (own : (detector_of site.detectors d).phase ≡ p) where
        found : (kind : ℕ → Bool) → kind (detector_of site.detectors d).mode ≡ true → detected kind site (2 ^ d) p ≡ true
        unfolding detected detected_among occupied
        found kind e = any_at _ site.size.detectors d l (and_both (and_both (own-bit d) (eq-eqb _ p own)) e)

        by-detector : ((detector_of site.detectors d).mode % 4 ≡ 0 → ⊥) → CalledBy d
        unfolding known_mode calling locking wired
        by-detector some =
            let rest = (detector_of site.detectors d).mode % 4 in
            let few = ltb-true rest 3 (and_left (ltb rest 3) _ (sound.detector_mode d l)) in (
              bit-fits d (omega (arith, l, sound.detectors)),
              none-stray d (or_left _ (lt-ltb d site.size.detectors l)),
              ⊎_elim
                  (λ (e : eqb rest 1 ≡ true). call-demands (2 ^ d) (found calling e))
                  (λ (e : eqb rest 1 ≡ false).
                  locking-demands (2 ^ d) (omega (arith, here, sound.phases.1))
                  (found locking (eq-eqb rest 2 (last-left rest few some (eqb-false rest 1 e)))))
                  (decided (eqb rest 1)),
            )

      module _ (k : ℕ) (l : k < site.size.movements) (own : crosses site.crossings k p ≡ true) where
        room : k < 8
        room = omega (arith, sound.movements)

        -- in walk it would be of the phase on, and it is of p alone
        not-walking : is_walk (movement s k).stage ≡ false
        not-walking =
            not-true-false (is_walk (movement s k).stage)
            (λ walking.
            let on = ((v.movements k room).of_phase (walk-not-idle (movement s k).stage walking)).1 in
            let one = sound.crossing k l in
            other (one.3 p own ∙ sym (one.3 s.position.phase on)))

        by-button : CalledBy (48 + k)
        unfolding asked_now registers_button pressed movement wired
        by-button = (
          bit-fits (48 + k) (omega (arith, room)),
          none-stray (48 + k)
              (or_right (ltb (48 + k) site.size.detectors)
              (and_both (le-leb 48 (48 + k) (omega arith)) (lt-ltb (48 + k) (48 + site.size.movements) (omega arith)))),
          button-demands site s (2 ^ (48 + k)) k p room l own (or_right (asked s k) (and_both (own-bit (48 + k)) (ap not not-walking))),
        )

      called : (inputs : ℕ) × (inputs < 2 ^ 64) × (stray_input site inputs ≡ false) × (demanded site s inputs p ≡ true)
      called =
          ⊎_elim
          (λ w. let by = by-detector w.0 w.1 w.2 w.3 in (2 ^ w.0, by.0, by.1, by.2))
          (λ w. let by = by-button w.0 w.1 w.2 in (2 ^ (48 + w.0), by.0, by.1, by.2))
          (sound.caller p here)

pub phase-called :
    (site : Site) →
    Sound site →
    (s : State) →
    valid site s ≡ true →
    (p : ℕ) →
    p < site.size.phases →
    (p ≡ s.position.phase → ⊥) →
    (inputs : ℕ) × (inputs < 2 ^ 64) × (stray_input site inputs ≡ false) × (demanded site s inputs p ≡ true)
phase-called site sound s h p here other = called site s p other sound (state-told site s h) here
