-- Number 26: a new personality that differs nowhere else has the same bytes outside the time settings. So an accepted one has the old site with
-- its own times, and these are admitted.
use Prim.Native.Nat.{ℕ, ◌≤◌, ◌<◌}
use mathlib.Core.Bool.{Bool, true, false, not, ◌&&◌, ◌||◌}
use mathlib.Core.List.{List}
use mathlib.Core.Logic.{◌⊎◌, ⊎_elim}
use mathlib.Core.Path.{◌≡◌, sym, ap, subst, ◌∙◌}
use native.Mathlib.Omega.{arith}
use lib.Dec.{leb, ltb, eqb}
use lib.ListN.{length}
use borrow.Author.Tests.{not-false, eqb-true, leb-true, ltb-true, lt-leb, le-ltb, eq-eqb, le-leb, lt-ltb}
use Rattle.rules.specs.declared.site.Site.{Site}
use Rattle.laws.specs.Bytes.{byte_at}
use Rattle.laws.specs.Folds.{any_of}
use Rattle.rules.specs.Personality.{body_at, phases_head, groups_head, pedestrians_head, early_head, has_early, order_head}
use Rattle.rules.specs.Site.{times_in, site_of}
use Rattle.rules.specs.SiteTimes.{times_within, admitted}
use Rattle.rules.specs.TimedCall.{between, time_byte, differs_elsewhere}
use Rattle.rules.specs.Laws.{AcceptedIsSound, AcceptedIsInTable}
use Rattle.rules.specs.TimedLaws.{AcceptedIsAdmitted, RetimedIsAdmitted}
use Rattle.laws.proofs.Booleans.{and_left, and_right, and_both, and-false-left, and-false-right, or-false-left, or-false-right, or-false-both, decided}
use Rattle.laws.proofs.Folds.{any_false, any_none}
use Rattle.laws.proofs.Indices.{below-or-past}
use Rattle.laws.proofs.Bytes.{byte_past}
use Rattle.proof_acceptance.proofs.Entries.{phase-times-past, walk-times-past}
use Rattle.proof_acceptance.proofs.Acceptance.{accepted-is-in-table, accepted-is-sound}
use Rattle.proof_change.proofs.Admitted.{admitted-holds}
use Rattle.proof_time_bytes.proofs.Same.{Outside, site-same}

-- ── Between two places ──

pub between-told : (from past i : ℕ) → between from past i ≡ true → (from ≤ i) × (i < past)
unfolding between
between-told from past i h = (leb-true from i (and_left (leb from i) (ltb i past) h), ltb-true i past (and_right (leb from i) (ltb i past) h))

pub between-holds : (from past i : ℕ) → from ≤ i → i < past → between from past i ≡ true
unfolding between
between-holds from past i h l = and_both (le-leb from i h) (lt-ltb i past l)

pub between-not : (from past i : ℕ) → (i < from) ⊎ (past ≤ i) → between from past i ≡ false
unfolding between
between-not from past i out =
    ⊎_elim (λ (h : i < from). and-false-left (ltb i past) (lt-leb from i h)) (λ (h : past ≤ i). and-false-right (leb from i) (le-ltb i past h)) out

-- ── Bytes that are not part of a time setting ──

module _ (b : List ℕ) (i : ℕ) where
  abbrev in_start : Bool
  in_start = between 6 8 i

  abbrev pub in_phases : Bool
  in_phases = between (body_at phases_head) (groups_head b) i

  abbrev pub in_walks : Bool
  in_walks = between (body_at (pedestrians_head b)) (early_head b) i

  abbrev pub in_early : Bool
  in_early = has_early b && between (body_at (early_head b)) (order_head b) i

  pub record NoTime : Type 0 where
    pub start : in_start ≡ false
    pub phases : in_phases ≡ false
    pub walks : in_walks ≡ false
    pub early : in_early ≡ false

  pub no-time : time_byte b i ≡ false → NoTime
  unfolding time_byte
  no-time h =
      let h1 = or-false-left (in_start || in_phases || in_walks) in_early h in
      let h2 = or-false-left (in_start || in_phases) in_walks h1 in
      record {
        start = or-false-left in_start in_phases h2;
        phases = or-false-right in_start in_phases h2;
        walks = or-false-right (in_start || in_phases) in_walks h1;
        early = or-false-right (in_start || in_phases || in_walks) in_early h;
      }

  pub outside-no-time : Outside b i → time_byte b i ≡ false
  unfolding time_byte body_at
  outside-no-time out =
      or-false-both
      (or-false-both
      (or-false-both (between-not 6 8 i out.start) (between-not 12 (groups_head b) i out.phases))
      (between-not (body_at (pedestrians_head b)) (early_head b) i out.walks))
      (⊎_elim
      (λ (yes : has_early b ≡ true). and-false-right (has_early b) (between-not (body_at (early_head b)) (order_head b) i (out.early yes)))
      (λ (no : has_early b ≡ false). and-false-left (between (body_at (early_head b)) (order_head b) i) no)
      (decided (has_early b)))

-- ── A new personality that differs nowhere else ──

module _ (b new : List ℕ) where
  abbrev differs_at : ℕ → Bool
  differs_at i = not (time_byte b i) && not (eqb (byte_at new i) (byte_at b i))

  module _ (none : differs_elsewhere b new ≡ false) where
    pub same_length : length new ≡ length b
    unfolding differs_elsewhere
    same_length = eqb-true _ _ (not-false (eqb (length new) (length b)) (or-false-left (not (eqb (length new) (length b))) (any_of differs_at (length b)) none))

    pub same_byte : (i : ℕ) → time_byte b i ≡ false → byte_at new i ≡ byte_at b i
    unfolding differs_elsewhere
    same_byte i out =
        ⊎_elim
        (λ (l : i < length b).
        let here = any_false differs_at (length b) i (or-false-right (not (eqb (length new) (length b))) (any_of differs_at (length b)) none) l in
        eqb-true _ _ (not-false (eqb (byte_at new i) (byte_at b i)) (rw out at here)))
        (λ (l : length b ≤ i). byte_past new i (omega (arith, same_length)) ∙ sym (byte_past b i l))
        (below-or-past i (length b))

    pub same-outside : (i : ℕ) → Outside b i → byte_at new i ≡ byte_at b i
    same-outside i out = same_byte i (outside-no-time b i out)

  -- and the other way round
  pub no_difference : length new ≡ length b → ((i : ℕ) → time_byte b i ≡ false → byte_at new i ≡ byte_at b i) → differs_elsewhere b new ≡ false
  unfolding differs_elsewhere
  no_difference e same =
      or-false-both (ap not (eq-eqb _ _ e))
      (any_none differs_at (length b)
      (λ i l.
      ⊎_elim
      (λ (yes : time_byte b i ≡ true). and-false-left (not (eqb (byte_at new i) (byte_at b i))) (ap not yes))
      (λ (no : time_byte b i ≡ false). and-false-right (not (time_byte b i)) (ap not (eq-eqb _ _ (same i no))))
      (decided (time_byte b i))))

-- ── Admitted times ──

pub accepted-is-admitted : AcceptedIsAdmitted
unfolding AcceptedIsAdmitted AcceptedIsSound AcceptedIsInTable site_of
accepted-is-admitted b known =
    admitted-holds (site_of b) (site_of b).times
    (record {
      in_table = accepted-is-in-table b known;
      no_early = (accepted-is-sound b known).no_early_time;
      no_phase = λ p l m. phase-times-past b p l;
      no_walk = λ k l m. walk-times-past b k l;
    })

pub retimed-is-admitted : RetimedIsAdmitted
unfolding RetimedIsAdmitted AcceptedIsAdmitted admitted times_within site_of
retimed-is-admitted b new known none =
    let same = site-same b new (same_length b new none) (same-outside b new none) in (
      subst (λ (site : Site). admitted site (times_in new) ≡ true) same (accepted-is-admitted new known),
      same,
    )
