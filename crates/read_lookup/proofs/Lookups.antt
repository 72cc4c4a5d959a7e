-- The lookup by cases: a refused personality refuses every kind, an accepted one those that are not held.
use Prim.Native.Nat.{ℕ, ◌+◌, ◌-◌, ◌≤◌}
use mathlib.Core.Bool.{Bool, true, false, ◌||◌}
use mathlib.Core.List.{List, []}
use mathlib.Core.Path.{◌≡◌, refl, ap, ◌∙◌}
use native.Mathlib.Omega.{arith}
use lib.Dec.{eqb}
use lib.ListN.{length, take, drop}
use borrow.Author.Tests.{not-false}
use Rattle.std.specs.Prelude.{Err}
use Rattle.rules.specs.declared.answer.Refusal.{Refusal}
use Rattle.rules.specs.declared.site.Edition.{Edition}
use Rattle.rules.specs.declared.site.Edition.TheVariants.{One, Two}
use Rattle.rules.specs.Verdicts.{Accepted}
use Rattle.laws.specs.Bytes.{two_at}
use Rattle.rules.specs.Personality.{body_at, body_length, edition_of, site_kind, has_early, verdict_of}
use Rattle.rules.specs.Lookup.{held_kind, head_of, lookup_verdict, section_part, part_for, section_of}
use Rattle.rules.proofs.Verdicts.{or-first, or_later, refuse-passed}
use Rattle.read_lookup.proofs.Accepted.{section-within}

-- ── Verdicts ──

-- where the section is found, the personality is accepted and the kind is held
lookup-told : (b : List ℕ) (kind : ℕ) → lookup_verdict b kind ≡ Accepted → (verdict_of b ≡ Accepted) × (held_kind b kind ≡ true)
unfolding lookup_verdict
lookup-told b kind h = (or-first _ _ h, not-false (held_kind b kind) (refuse-passed _ _ _ (or_later _ _ h)))

seventh : (edition : Edition) (there : Bool) → (eqb 7 (site_kind edition) || false || there || false) ≡ there
seventh One true = refl
seventh One false = refl
seventh Two true = refl
seventh Two false = refl

-- kind 7 is held where it is there: no site section is of kind 7
pub seventh_held : (b : List ℕ) → held_kind b 7 ≡ has_early b
unfolding held_kind
seventh_held b = seventh (edition_of b) (has_early b)

-- ── The part ──

module _ (b : List ℕ) (kind : ℕ) where
  pub part_none : {r : Refusal} → lookup_verdict b kind ≡ Err r → [] ≡ section_of b kind
  unfolding section_of part_for
  part_none e = rw e

  module _ {head size : ℕ} (found : lookup_verdict b kind ≡ Accepted) (h : head ≡ head_of b kind) (s : size ≡ two_at b head) where
    pub part_end : head + 4 + size ≤ length b
    unfolding body_at body_length
    part_end =
        let told = lookup-told b kind found in
        omega (arith, section-within b told.0 kind told.1, s ∙ ap (two_at b) h)

    pub part_held : take (head + 4 + size - (head + 4)) (drop (head + 4) b) ≡ section_of b kind
    unfolding section_of part_for section_part body_at body_length
    part_held = let length : head + 4 + size - (head + 4) ≡ size = omega arith in rw (found, length, s, h)
