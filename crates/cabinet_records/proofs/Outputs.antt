-- The outputs of a record: a part of the buffer, and the buffer with that part written.
use Rattle.std.specs.Prelude.{Ok, Err}
use Prim.Native.Nat.{ℕ, ◌+◌, ◌-◌, ◌≤◌, ◌<◌}
use mathlib.Core.Bool.{Bool, true, false, not}
use mathlib.Core.List.{List, [], ◌∷◌, ◌++◌}
use mathlib.Core.Logic.{◌⊎◌, ⊎_elim}
use mathlib.Core.Path.{◌≡◌, refl, sym, subst, ap, ◌∙◌}
use native.Mathlib.Nat.{add-zero}
use native.Mathlib.Omega.{arith}
use borrow.Author.Tests.{ltb-false}
use lib.Dec.{ltb}
use lib.ListN.{length, take, drop, replicate, length-append, length-take, length-drop, length-replicate, take-append-drop, get_or-append}
use lib.Seq.{get_or-append-add, get_or-take, get_or-drop, take_at, drop_at, drop-drop}
use Rattle.rules.specs.Verdicts.{Verdict}
use Rattle.rules.specs.Verdicts.{Accepted}
use Rattle.laws.specs.Bytes.{byte_at}
use Rattle.rules.specs.Verdicts.{◌or_else◌, refuse_if}
use Rattle.rules.specs.Personality.{verdict_of}
use Rattle.rules.specs.Site.{site_of}
use Rattle.rules.specs.Timed.{ruled_site}
use Rattle.rules.specs.Colours.{colours_of, shown_in}
use Rattle.rules.specs.Call.{stray_input, step_verdict, buffer_for}
use Rattle.laws.proofs.Lists.{list_length}
use Rattle.rules.proofs.Verdicts.{or_later, refuse-passed}
use Rattle.state_valid.specs.StateOf.{is_state_of}
use Rattle.board_step.specs.StepCall.{step_checks, stepped_in, colours_after}
use Rattle.cabinet_records.specs.Cabinet.{output_count, is_short, outputs_in, written_at}

-- ── A step keeps the length of its buffer ──

module _ (b old : List ℕ) (inputs : ℕ) (buffer : List ℕ) where
  room-enough : step_checks b old inputs (length buffer) ≡ Accepted → (site_of b).size.groups ≤ length buffer
  unfolding step_checks step_verdict
  room-enough e =
      let site = site_of b in
      let checks = or_later (verdict_of b) (step_verdict site (is_state_of b old) inputs (length buffer)) e in
      let first = refuse_if (not (is_state_of b old)) 13 0 in
      let second = refuse_if (stray_input site inputs) 15 0 in
      let test = ltb (length buffer) site.size.groups in
      let third = refuse_if test 14 0 in
      ltb-false _ _ (refuse-passed test 14 0 (or_later second third (or_later first (second or_else third) checks)))

  buffer-length-for :
      (v : Verdict) →
      step_checks b old inputs (length buffer) ≡ v →
      let next = stepped_in b old inputs in
      length (buffer_for v (ruled_site (site_of b) next) next.core buffer) ≡ length buffer
  unfolding buffer_for colours_of
  buffer-length-for (Ok _) e =
      let next = stepped_in b old inputs in
      let site = ruled_site (site_of b) next in
      let count = site.size.groups in
      let colours = colours_of site next.core in
      let rest = drop count buffer in
      omega (arith, room-enough e, length-append colours rest, list_length (shown_in site next.core) count, length-drop count buffer)
  buffer-length-for (Err r) e = refl

  pub colours-length : length (colours_after b old inputs buffer) ≡ length buffer
  unfolding colours_after
  colours-length = buffer-length-for (step_checks b old inputs (length buffer)) refl

-- ── Bytes written from a place on ──

pub written_none : (out : List ℕ) (first : ℕ) → written_at out first [] ≡ out
unfolding written_at
written_none out first = rw (add-zero first) (take-append-drop first out)

-- `after` is `out` except for the bytes from the first on
pub record SameOutside (first count : ℕ) (out after : List ℕ) : Type 0 where
  pub outside : (i : ℕ) → (i < first) ⊎ (first + count ≤ i) → byte_at after i ≡ byte_at out i
  pub long : length after ≡ length out

pub same-all : {first count : ℕ} {out : List ℕ} → SameOutside first count out out
same-all = record { outside = λ i w. refl; long = refl }

module _ (out : List ℕ) (first : ℕ) (new : List ℕ) (fits : first + length new ≤ length out) where
  front_length : length (take first out) ≡ first
  front_length = simp length-take (omega arith)

  pub written-length : length (written_at out first new) ≡ length out
  unfolding written_at
  written-length = simp (length-append, length-take, length-drop) (omega arith)

  pub written-part : take (length new) (drop first (written_at out first new)) ≡ new
  unfolding written_at
  written-part =
      let rest = drop (first + length new) out in
      ap (take (length new)) (drop_at (take first out) (new ++ rest) first front_length) ∙ take_at new rest (length new) refl

  before-part : (i : ℕ) → i < first → byte_at (written_at out first new) i ≡ byte_at out i
  unfolding written_at byte_at
  before-part i l = get_or-append (take first out) _ 0 i (omega (arith, front_length)) ∙ get_or-take first out i 0 l

  behind-part : (i : ℕ) → first + length new ≤ i → byte_at (written_at out first new) i ≡ byte_at out i
  unfolding written_at byte_at
  behind-part i l =
      let rest = drop (first + length new) out in
      let m = i - (first + length new) in
      let at : i ≡ length (take first out) + (length new + m) = omega (arith, front_length) in
      let back : first + length new + m ≡ i = omega arith in
      ap (byte_at (take first out ++ (new ++ rest))) at
      ∙ get_or-append-add (take first out) (new ++ rest) (length new + m) 0
      ∙ get_or-append-add new rest m 0
      ∙ get_or-drop (first + length new) out m 0
      ∙ ap (byte_at out) back

  pub written-outside : SameOutside first (length new) out (written_at out first new)
  written-outside = record { outside = λ i w. ⊎_elim (before-part i) (behind-part i) w; long = written-length }

-- one colour in all outputs of a record
pub painted : (out : List ℕ) (first count colour : ℕ) → first + count ≤ output_count → output_count ≤ length out → SameOutside first count out (written_at out first (replicate count colour))
painted out first count colour within long =
    let known = length-replicate count colour in
    subst (λ (n : ℕ). SameOutside first n out (written_at out first (replicate count colour))) known
    (written-outside out first (replicate count colour) (omega (arith, known)))

-- ── A record's own outputs, written with the same length ──

nil-of : (l : List ℕ) → length l ≡ 0 → l ≡ []
nil-of [] e = refl
nil-of (x ∷ l) e = absurd (omega (arith, e))

module _ (out : List ℕ) (first count : ℕ) (within : first + count ≤ output_count) where
  long-part : output_count ≤ length out → length (take count (drop first out)) ≡ count
  long-part long = omega (arith, length-take count (drop first out), length-drop first out)

  -- written as they are
  own-for : (t : Bool) → is_short out ≡ t → written_at out first (outputs_in out first count) ≡ out
  unfolding outputs_in is_short written_at
  own-for true e = rw e (written_none out first)
  own-for false e =
      let known = long-part (ltb-false (length out) output_count e) in
      rw e
      (ap (λ (n : ℕ). take first out ++ (take count (drop first out) ++ drop (first + n) out)) known
      ∙ ap (λ (l : List ℕ). take first out ++ (take count (drop first out) ++ l)) (sym (drop-drop count first out))
      ∙ ap (λ (l : List ℕ). take first out ++ l) (take-append-drop count (drop first out))
      ∙ take-append-drop first out)

  pub written-own : written_at out first (outputs_in out first count) ≡ out
  written-own = own-for (is_short out) refl

  module _ (new : List ℕ) (same : length new ≡ length (outputs_in out first count)) where
    -- nothing of a short buffer is written, of another all outputs are
    none_written : is_short out ≡ true → new ≡ []
    unfolding outputs_in
    none_written e = nil-of new (rw e at same)

    all-written : is_short out ≡ false → (length new ≡ count) × (first + length new ≤ length out)
    unfolding outputs_in is_short
    all-written e =
        let long = ltb-false (length out) output_count e in
        let known : length new ≡ count = rw e at same ∙ long-part long in
        (known, omega (arith, known))

    shown-for : (t : Bool) → is_short out ≡ t → outputs_in (written_at out first new) first count ≡ new
    unfolding outputs_in is_short
    shown-for true e =
        let none = none_written e in
        ap (λ (l : List ℕ). outputs_in (written_at out first l) first count) none
        ∙ ap (λ (l : List ℕ). outputs_in l first count) (written_none out first)
        ∙ rw e (sym none)
    shown-for false e =
        let all = all-written e in
        rw (written-length out first new all.1, e)
        (ap (λ (n : ℕ). take n (drop first (written_at out first new))) (sym all.0) ∙ written-part out first new all.1)

    -- they are then what was written
    pub shown-written : outputs_in (written_at out first new) first count ≡ new
    shown-written = shown-for (is_short out) refl

    outside-for : (t : Bool) → is_short out ≡ t → SameOutside first count out (written_at out first new)
    outside-for true e =
        subst (SameOutside first count out) (sym (ap (written_at out first) (none_written e) ∙ written_none out first)) same-all
    outside-for false e =
        let all = all-written e in
        subst (λ (n : ℕ). SameOutside first n out (written_at out first new)) all.0 (written-outside out first new all.1)

    pub own-outside : SameOutside first count out (written_at out first new)
    own-outside = outside-for (is_short out) refl
