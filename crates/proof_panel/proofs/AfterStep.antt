-- What the line says after a step. A step that ends in running keeps its phase, and clears no demand of another phase: no lock, since no minimum
-- green begins, and no button, since a walk that begins is of the phase itself. So of every other phase the new kept set says what the step
-- found, and so do the calls.
use Prim.Native.Nat.{ℕ, ◌<◌}
use mathlib.Core.Bool.{Bool, true, false, not, ◌&&◌, ◌||◌}
use mathlib.Core.List.{List, [], ◌∷◌}
use mathlib.Core.Logic.{⊎_elim}
use mathlib.Core.Path.{◌≡◌, refl, sym, ap, ap₂, ◌∙◌}
use native.Mathlib.Omega.{arith}
use lib.Dec.{eqb}
use borrow.Author.Tests.{ne_eqb}
use Rattle.rules.specs.declared.site.Site.{Site}
use Rattle.rules.specs.declared.site.Times.{Times}
use Rattle.rules.specs.declared.state.Demands.{Demands}
use Rattle.rules.specs.declared.state.Interval.{Interval}
use Rattle.rules.specs.declared.state.Interval.TheVariants.{StartRed, LateStart, MinimumGreen, Running, EarlyCutOff, Yellow, AllRed}
use Rattle.rules.specs.declared.state.KeptState.{KeptState}
use Rattle.rules.specs.declared.state.Movement.{Movement}
use Rattle.rules.specs.declared.state.Position.{Position}
use Rattle.laws.specs.Bytes.{bit}
use Rattle.std.specs.Prelude.{if◌then◌else◌, Option, Some}
use Rattle.laws.specs.Folds.{set_of}
use Rattle.rules.specs.Site.{phase_times, crosses, ring}
use Rattle.rules.specs.IntervalTable.{is_running, is_held, phase_held}
use Rattle.rules.specs.Demands.{calls, in_green, demands_after, first_in, next_after}
use Rattle.rules.specs.Interval.{entering, starting, leaving, following, staying, position_after, clears_lock, locks_left}
use Rattle.rules.specs.Walks.{begins, buttons_left}
use Rattle.rules.specs.Step.{stepped_into}
use Rattle.rules.specs.Kept.{is_kept, kept_after, next_kept, gone, cleared, kept_left, kept_stepped_into}
use Rattle.rules.specs.Laws.{Sound}
use Rattle.rules.proofs.IntervalTests.{running-only}
use Rattle.laws.proofs.Booleans.{and-false-left, and-false-right, or-false-both, decided, never_both, not-true-false, same_tests}
use Rattle.laws.proofs.Folds.{any_none}
use Rattle.laws.proofs.ByteSets.{bit-set}
use Rattle.proof_ring.proofs.Turns.{turn}
use Rattle.proof_ring.proofs.Ring.{RingOf, found-other, other-found}
use Rattle.proof_ring.proofs.RunningOrder.{ring_of}
use Rattle.panel_reasons.specs.PanelLine.{no_other}

-- ── The phase stays ──

not-started : (late : Bool) → is_running (if late then MinimumGreen else LateStart) ≡ true → ⊥
not-started true h = never_both h refl
not-started false h = never_both h refl

followed :
    (i : Interval) (times : Times) (next : Option ℕ) (old : Position) →
    is_running (following i times next old).interval ≡ true →
    (following i times next old).phase ≡ old.phase
unfolding following starting leaving entering
followed StartRed times next old h = absurd (not-started (eqb (phase_times times old.phase).late 0) h)
followed LateStart times next old h = refl
followed MinimumGreen times next old h = refl
followed Running times next old h = refl
followed EarlyCutOff times next old h = refl
followed Yellow times next old h = refl
followed AllRed times next old h = absurd (not-started (eqb (phase_times times (phase_held old.target)).late 0) h)

same-phase :
    (ended : Bool) (times : Times) (next : Option ℕ) (old : Position) →
    is_running (position_after ended times next old).interval ≡ true →
    (position_after ended times next old).phase ≡ old.phase
unfolding position_after staying
same-phase true times next old h = followed old.interval times next old h
same-phase false times next old h = refl

-- ── The search ──

pub found-passes : (d : ℕ → Bool) (l : List ℕ) → is_held (first_in d l) ≡ true → (t : ℕ) × (first_in d l ≡ Some t) × (d t ≡ true)
unfolding first_in is_held
found-passes d [] h = absurd (never_both h refl)
found-passes d (q ∷ l) h =
    ⊎_elim
    (λ (a : d q ≡ true). (q, rw a, a))
    (λ (a : d q ≡ false). let found = found-passes d l (rw a at h) in (found.0, rw a found.1, found.2))
    (decided (d q))

module _ {n : ℕ} {ring : List ℕ} (ofn : RingOf n ring) (p : ℕ) where
  -- two tests agree on every other phase
  abbrev Agree : (ℕ → Bool) → (ℕ → Bool) → Type 0
  Agree d e = (q : ℕ) → q < n → (q ≡ p → ⊥) → d q ≡ e q

  other-passes : (d e : ℕ → Bool) → Agree d e → is_held (first_in d (turn ring p)) ≡ true → is_held (first_in e (turn ring p)) ≡ true
  other-passes d e same h =
      let found = found-passes d (turn ring p) h in
      let other = found-other ofn d found.1 in
      other-found ofn e other.0 other.1 (sym (same found.0 other.0 other.1) ∙ found.2)

  -- then both find one, or neither does
  others_same : (d e : ℕ → Bool) → Agree d e → is_held (first_in d (turn ring p)) ≡ is_held (first_in e (turn ring p))
  others_same d e same = same_tests _ _ (other-passes d e same) (other-passes e d (λ q l ne. sym (same q l ne)))

-- ── What is cleared ──

gone-none : (set : ℕ) (f : ℕ → Bool) (i : ℕ) → i < 8 → f i ≡ false → gone set (set_of (λ k. bit k set && not (f k))) i ≡ false
unfolding gone
gone-none set f i l e = rw (bit-set (λ k. bit k set && not (f k)) i l, e) (either (bit i set))
  where
    either : (a : Bool) → (a && not (a && not false)) ≡ false
    either true = refl
    either false = refl

kept-all : (kept off stand : Bool) → off ≡ false → (kept && (not off || stand)) ≡ kept
kept-all true off stand e = rw e
kept-all false off stand e = refl

-- running has no minimum green that begins
clears-none : (ended : Bool) (now : Position) (q : ℕ) → is_running now.interval ≡ true → clears_lock ended now q ≡ false
unfolding clears_lock
clears-none ended now q running = rw (running-only now.interval running) (and-false-left _ (and-false-right ended refl))

module _ (site : Site) (sound : Sound site) (now : Position) (q : ℕ) (ne : q ≡ now.phase → ⊥) where
  -- a movement that crosses another phase does not begin its walk
  begins-none :
      (started another : Bool) (buttons : ℕ) (movements : List Movement) (k : ℕ) →
      k < site.size.movements →
      crosses site.crossings k q ≡ true →
      begins site.crossings started another now buttons movements k ≡ false
  unfolding begins
  begins-none started another buttons movements k l own =
      let only = (sound.crossing k l).3 in
      let apart : crosses site.crossings k now.phase ≡ false =
      not-true-false _ (λ c. ne (only q own ∙ sym (only now.phase c))) in
      and-false-left _ (and-false-right (bit k buttons) apart)

  -- so no demand of the other phase is cleared
  cleared-none :
      (ended started another : Bool) (movements : List Movement) (old : Demands) →
      q < 8 →
      is_running now.interval ≡ true →
      let begun = begins site.crossings started another now old.buttons movements in
      cleared site.crossings site.size.movements old
      (record { locks = locks_left ended now old.locks; buttons = buttons_left begun old.buttons })
      q
      ≡ false
  unfolding cleared locks_left buttons_left
  cleared-none ended started another movements old l running =
      let begun : ℕ → Bool = begins site.crossings started another now old.buttons movements in
      let left : ℕ = set_of (λ k. bit k old.buttons && not (begun k)) in
      or-false-both
      (gone-none old.locks (clears_lock ended now) q l (clears-none ended now q running))
      (any_none (λ k. gone old.buttons left k && crosses site.crossings k q) site.size.movements
      (λ k m.
      ⊎_elim
      (λ (c : crosses site.crossings k q ≡ true).
      and-false-left _
      (gone-none old.buttons begun k (omega (arith, sound.movements)) (begins-none started another old.buttons movements k m c)))
      (λ (c : crosses site.crossings k q ≡ false). and-false-right (gone old.buttons left k) c)
      (decided (crosses site.crossings k q))))

-- ── The step ──

module _ (ruling : Times) (site : Site) (sound : Sound site) (s : KeptState) (inputs : ℕ) where
  abbrev new : KeptState
  new = kept_stepped_into ruling site s inputs

  module _ (running : is_running new.core.position.interval ≡ true) where
    phase-kept : new.core.position.phase ≡ s.core.position.phase
    unfolding stepped_into
    phase-kept = same-phase _ ruling (next_kept site s inputs) s.core.position running

    module _ (q : ℕ) (ne : q ≡ s.core.position.phase → ⊥) where
      other : q ≡ new.core.position.phase → ⊥
      other e = ne (e ∙ phase-kept)

      still_kept : q < 8 → is_kept new q ≡ kept_after site s inputs q
      unfolding is_kept kept_left stepped_into
      still_kept l =
          bit-set _ q l
          ∙ kept-all (kept_after site s inputs q) _ _
          (cleared-none site sound new.core.position q other _ _ _ _ (demands_after site s.core inputs) l running)

      still-called : calls site new.core inputs q ≡ calls site s.core inputs q
      unfolding calls in_green
      still-called = rw (ne_eqb q new.core.position.phase other, ne_eqb q s.core.position.phase ne)

    -- the line tells what the step found
    pub told-by-kept : no_other site new inputs ≡ not (is_held (next_kept site s inputs))
    unfolding no_other next_kept next_after turn
    told-by-kept =
        let kept_on : ℕ → Bool = λ q. is_kept new q || calls site new.core inputs q in
        let found : ℕ → Bool = λ q. kept_after site s inputs q || calls site s.core inputs q in
        let phases = ring site.order site.size.phases in
        ap not
        (ap (λ (p : ℕ). is_held (first_in kept_on (turn phases p))) phase-kept
        ∙ others_same (ring_of site sound) s.core.position.phase kept_on found
        (λ q l ne. ap₂ (λ (kept called : Bool). kept || called) (still_kept q ne (omega (arith, sound.phases.1))) (still-called q ne)))
