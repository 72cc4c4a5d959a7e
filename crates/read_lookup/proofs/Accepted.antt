-- In an accepted personality every section that is held lies within the bytes.
use Prim.Native.Nat.{ℕ, zero, suc, ◌+◌, ◌≤◌, ◌<◌}
use mathlib.Core.Bool.{Bool, true, ◌&&◌, ◌||◌}
use mathlib.Core.List.{List}
use mathlib.Core.Logic.{⊎_elim}
use mathlib.Core.Path.{◌≡◌, refl, sym, subst}
use native.Mathlib.Omega.{arith}
use lib.Dec.{leb, eqb}
use lib.ListN.{length}
use borrow.Author.Tests.{leb-true, eqb-true}
use Rattle.rules.specs.Verdicts.{Accepted}
use Rattle.rules.specs.declared.site.Edition.{Edition}
use Rattle.rules.specs.declared.site.Edition.TheVariants.{One, Two}
use Rattle.rules.specs.Personality.{body_at, body_length, edition_of, site_kind, site_head, phases_head, groups_head, conflicts_head, detectors_head, pedestrians_head, has_early, has_order, site_section, timed_section, phases_section, groups_section, conflicts_section, detectors_section, pedestrians_section, verdict_of}
use Rattle.rules.specs.Lookup.{held_kind, head_of}
use Rattle.laws.proofs.Booleans.{and_left, and_right, or_cases}
use Rattle.rules.proofs.Verdicts.{or-first, or_later}
use Rattle.proof_acceptance.proofs.Sections.{body-held, sections-accepted}

-- the section with this head ends within the bytes
abbrev pub BodyWithin : List ℕ → ℕ → Type 0
BodyWithin b head = body_at head + body_length b head ≤ length b

module _ (b : List ℕ) (h : verdict_of b ≡ Accepted) where
  -- kinds 2 to 6
  kind-within : (i : ℕ) → i < 5 → BodyWithin b (head_of b (suc (suc i)))
  unfolding verdict_of timed_section phases_section groups_section conflicts_section detectors_section pedestrians_section head_of
  kind-within zero l = (body-held b phases_head 2 _ (or-first _ _ (or-first _ _ (or_later _ _ h)))).1
  kind-within (suc zero) l = (body-held b (groups_head b) 3 _ (or-first _ _ (or-first _ _ (or_later _ _ (or_later _ _ h))))).1
  kind-within (suc (suc zero)) l =
      (body-held b (conflicts_head b) 4 _ (or-first _ _ (or-first _ _ (or_later _ _ (or_later _ _ (or_later _ _ h)))))).1
  kind-within (suc (suc (suc zero))) l =
      (body-held b (detectors_head b) 5 _
      (or-first _ _ (or-first _ _ (or_later _ _ (or_later _ _ (or_later _ _ (or_later _ _ h))))))).1
  kind-within (suc (suc (suc (suc zero)))) l =
      (body-held b (pedestrians_head b) 6 _
      (or-first _ _ (or-first _ _ (or_later _ _ (or_later _ _ (or_later _ _ (or_later _ _ (or_later _ _ h)))))))).1
  kind-within (suc (suc (suc (suc (suc i))))) l = absurd (omega arith)

  second-to-sixth : (kind : ℕ) → 2 ≤ kind → kind ≤ 6 → BodyWithin b (head_of b kind)
  second-to-sixth zero l m = absurd (omega arith)
  second-to-sixth (suc zero) l m = absurd (omega arith)
  second-to-sixth (suc (suc i)) l m = kind-within i (omega arith)

  -- the site section has the same place in both editions
  site-head : (edition : Edition) → head_of b (site_kind edition) ≡ site_head
  unfolding head_of
  site-head One = refl
  site-head Two = refl

  first : BodyWithin b (head_of b (site_kind (edition_of b)))
  unfolding verdict_of site_section
  first = rw (site-head (edition_of b)) (body-held b site_head _ _ (or-first _ _ (or-first _ _ h))).1

  seventh : has_early b ≡ true → BodyWithin b (head_of b 7)
  unfolding head_of
  seventh there = let told = (sections-accepted b h).early there in rw told.body told.next

  ninth : has_order b ≡ true → BodyWithin b (head_of b 9)
  unfolding head_of
  ninth there = let told = (sections-accepted b h).order there in rw told.body told.next

  -- an optional kind is held where it is there
  optional :
      (kind own : ℕ) (there : Bool) →
      (there ≡ true → BodyWithin b (head_of b own)) →
      (eqb kind own && there) ≡ true →
      BodyWithin b (head_of b kind)
  optional kind own there within held =
      let same = eqb-true kind own (and_left _ _ held) in
      subst (λ (k : ℕ). BodyWithin b (head_of b k)) (sym same) (within (and_right (eqb kind own) _ held))

  pub section-within : (kind : ℕ) → held_kind b kind ≡ true → BodyWithin b (head_of b kind)
  unfolding held_kind
  section-within kind held =
      ⊎_elim
      (λ (up_to_seven : (eqb kind (site_kind (edition_of b)) || (leb 2 kind && leb kind 6) || (eqb kind 7 && has_early b)) ≡ true).
      ⊎_elim
      (λ (up_to_six : (eqb kind (site_kind (edition_of b)) || (leb 2 kind && leb kind 6)) ≡ true).
      ⊎_elim
      (λ (site : eqb kind (site_kind (edition_of b)) ≡ true).
      subst (λ (k : ℕ). BodyWithin b (head_of b k)) (sym (eqb-true _ _ site)) first)
      (λ (later : (leb 2 kind && leb kind 6) ≡ true).
      second-to-sixth kind (leb-true _ _ (and_left _ _ later)) (leb-true _ _ (and_right (leb 2 kind) _ later)))
      (or_cases _ _ up_to_six))
      (optional kind 7 (has_early b) seventh)
      (or_cases _ _ up_to_seven))
      (optional kind 9 (has_order b) ninth)
      (or_cases _ _ held)
