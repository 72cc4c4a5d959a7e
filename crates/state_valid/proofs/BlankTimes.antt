-- Times are all 0 exactly if each of their bytes is: read from zeros each setting is 0, and settings that are 0 are written as zeros.
use Prim.Native.Nat.{ℕ, ◌+◌, ◌*◌, ◌≤◌, ◌<◌}
use mathlib.Core.Bool.{Bool, true, ◌&&◌}
use mathlib.Core.List.{List, []}
use mathlib.Core.Path.{◌≡◌, refl, sym, ap, ◌∙◌}
use native.Mathlib.Omega.{arith}
use lib.Dec.{eqb}
use lib.ListN.{length, get_or, drop, replicate, get_or-replicate}
use lib.Seq.{get_or-take, get_or-drop}
use borrow.Author.Tests.{eqb-true, eq-eqb, le-ltb}
use Rattle.rules.specs.declared.site.PhaseTimes.{PhaseTimes}
use Rattle.rules.specs.declared.site.Site.{Site}
use Rattle.rules.specs.declared.site.Times.{Times}
use Rattle.rules.specs.declared.site.WalkTimes.{WalkTimes}
use Rattle.laws.specs.Bytes.{byte_at, two_at}
use Rattle.laws.specs.Folds.{all_of, list_of}
use Rattle.rules.specs.Site.{no_phase_times, no_walk_times, phase_times, walk_times}
use Rattle.rules.specs.Limits.{limits}
use Rattle.rules.specs.SiteTimes.{no_times, record_limits, phase_within, walk_within, blank}
use Rattle.rules.specs.Timed.{none_waiting, waiting_valid}
use Rattle.laws.proofs.Booleans.{and_left, and_right, same_tests}
use Rattle.laws.proofs.Bytes.{part}
use Rattle.laws.proofs.Folds.{all-at, all-each}
use Rattle.laws.proofs.Lists.{list_length, list-told}
use Rattle.proof_change.proofs.Timed.{none-valid}
use Rattle.state_forms.specs.Forms.{parts_of, AreBytes}
use Rattle.state_times.specs.TimesLayout.{times}
use Rattle.state_times.specs.TimeRows.{phases_at, walks_at, earlies_at, phase_in, walk_in}
use Rattle.state_times.proofs.TimesLaws.{times-law, times-known}
use Rattle.state_times.proofs.TimesRead.{phase-read, walk-read}
use Rattle.state_valid.proofs.Records.{phase-absent, walk-absent, blank-tested}

-- ── A record that is all 0 ──

-- the last of a row of tests, and those before it
last : {a b : Bool} (x : ℕ) → b ≡ eqb x 0 → (a && b) ≡ true → (a ≡ true) × (x ≡ 0)
last {a} {b} x e t = (and_left a b t, eqb-true x 0 (sym e ∙ and_right a b t))

phase-none : (early : Bool) (t : PhaseTimes) → phase_within [] early t ≡ true → t ≡ no_phase_times
phase-none early t ok =
    let seventh = last t.early refl (phase-absent early t ∙ ok) in
    let sixth = last t.red refl seventh.0 in
    let fifth = last t.yellow refl sixth.0 in
    let fourth = last t.gap refl fifth.0 in
    let third = last t.maximum refl fourth.0 in
    let second = last t.minimum refl third.0 in
    rw (seventh.1, sixth.1, fifth.1, fourth.1, third.1, second.1, eqb-true t.late 0 second.0)

walk_none : (t : WalkTimes) → walk_within [] t ≡ true → t ≡ no_walk_times
walk_none t ok =
    let third = last t.second refl (walk-absent t ∙ ok) in
    let second = last t.first refl third.0 in
    rw (third.1, second.1, eqb-true t.walk 0 second.0)

module _ (b : List ℕ) (at : ℕ) where
  -- ── From bytes to times ──

  module _ (zero : (i : ℕ) → i < 148 → byte_at b (at + i) ≡ 0) where
    two_none : (i : ℕ) → i + 1 < 148 → two_at b (at + i) ≡ 0
    unfolding two_at
    two_none i l =
        let next : at + i + 1 ≡ at + (i + 1) = omega arith in
        rw (zero i (omega arith), next, zero (i + 1) l)

    two-zeros : (place i : ℕ) → place ≡ at + i → i + 1 < 148 → two_at b place ≡ 0
    two-zeros place i e l = ap (two_at b) e ∙ two_none i l

    phase-zeros : (p : ℕ) → p < 7 → phase_in b (at + phases_at) (at + earlies_at) true p ≡ no_phase_times
    phase-zeros p l =
        rw (
          two-zeros (at + phases_at + p * 12) (2 + p * 12) (omega arith) (omega arith),
          two-zeros (at + phases_at + p * 12 + 2) (4 + p * 12) (omega arith) (omega arith),
          two-zeros (at + phases_at + p * 12 + 4) (6 + p * 12) (omega arith) (omega arith),
          two-zeros (at + phases_at + p * 12 + 6) (8 + p * 12) (omega arith) (omega arith),
          two-zeros (at + phases_at + p * 12 + 8) (10 + p * 12) (omega arith) (omega arith),
          two-zeros (at + phases_at + p * 12 + 10) (12 + p * 12) (omega arith) (omega arith),
          two-zeros (at + earlies_at + p * 2) (134 + p * 2) (omega arith) (omega arith),
        )

    walk-zeros : (k : ℕ) → k < 8 → walk_in b (at + walks_at) k ≡ no_walk_times
    walk-zeros k l =
        rw (
          two-zeros (at + walks_at + k * 6) (86 + k * 6) (omega arith) (omega arith),
          two-zeros (at + walks_at + k * 6 + 2) (88 + k * 6) (omega arith) (omega arith),
          two-zeros (at + walks_at + k * 6 + 4) (90 + k * 6) (omega arith) (omega arith),
        )

  -- the records one by one
  seven : length (times.read b at).phases ≡ 7
  seven = list_length _ 7

  eight : length (times.read b at).walks ≡ 8
  eight = list_length _ 8

  none_read :
      (times.read b at).start ≡ 0 →
      ((p : ℕ) → p < 7 → phase_times (times.read b at) p ≡ no_phase_times) →
      ((k : ℕ) → k < 8 → walk_times (times.read b at) k ≡ no_walk_times) →
      times.read b at ≡ no_times
  unfolding no_times phase_times walk_times list_of
  none_read start phase walk =
      rw (
        start,
        list-told (λ p. no_phase_times) (times.read b at).phases 7 no_phase_times seven phase,
        list-told (λ k. no_walk_times) (times.read b at).walks 8 no_walk_times eight walk,
      )

  -- ── From times to bytes ──

  none_written : AreBytes b → at + times.width ≤ length b → times.read b at ≡ no_times → (i : ℕ) → i < 148 → byte_at b (at + i) ≡ 0
  unfolding byte_at no_times parts_of
  none_written bytes room none i l =
      let written : times.written no_times ≡ replicate 148 0 = refl in
      let same : part b at 148 ≡ replicate 148 0 =
      sym (times-law.same b at bytes room (times-known b at)) ∙ ap times.written none ∙ written in
      sym (get_or-take 148 (drop at b) i 0 l ∙ get_or-drop at b i 0)
      ∙ ap (λ (l : List ℕ). get_or l i 0) same
      ∙ get_or-replicate 148 i 0 0 l

  -- ── Both ways ──

  module _ (site : Site) where
    abbrev phase_test : Times → ℕ → Bool
    phase_test t p = phase_within (record_limits (limits site.edition) 0 p) site.early (get_or t.phases p no_phase_times)

    abbrev walk_test : Times → ℕ → Bool
    walk_test t k = walk_within (record_limits (limits site.edition) 0 k) (get_or t.walks k no_walk_times)

    blank-told : blank site (times.read b at) ≡ true → times.read b at ≡ no_times
    unfolding phase_times walk_times
    blank-told ok =
        let t = times.read b at in
        let parts = blank-tested site t ∙ ok in
        let front = and_left (eqb t.start 0 && all_of (phase_test t) 7) _ parts in
        none_read (eqb-true _ 0 (and_left _ (all_of (phase_test t) 7) front))
        (λ p l.
        phase-none site.early (phase_times t p)
        (rw (le-ltb p 0 (omega arith)) at (all-at (phase_test t) 7 p (and_right (eqb t.start 0) _ front) l)))
        (λ k l.
        walk_none (walk_times t k)
        (rw (le-ltb k 0 (omega arith)) at (all-at (walk_test t) 8 k (and_right (eqb t.start 0 && all_of (phase_test t) 7) _ parts) l)))

    blank_none : blank site no_times ≡ true
    unfolding waiting_valid none_waiting
    blank_none = none-valid site

    pub blank-zeros : AreBytes b → at + times.width ≤ length b → all_of (λ i. eqb (byte_at b (at + i)) 0) 148 ≡ blank site (times.read b at)
    blank-zeros bytes room =
        same_tests _ _
        (λ all.
        let zero : (i : ℕ) → i < 148 → byte_at b (at + i) ≡ 0 = λ i l. eqb-true _ 0 (all-at (λ k. eqb (byte_at b (at + k)) 0) 148 i all l) in
        ap (blank site)
        (none_read (two-zeros zero at 0 (omega arith) (omega arith)) (λ p l. phase-read b at p l ∙ phase-zeros zero p l)
        (λ k l. walk-read b at k l ∙ walk-zeros zero k l))
        ∙ blank_none)
        (λ ok. all-each (λ k. eqb (byte_at b (at + k)) 0) 148 (λ i l. eq-eqb _ 0 (none_written bytes room (blank-told ok) i l)))
