-- The laws of the layout of times: each follows from the laws of its parts. The kind 7 times stand apart from the other times of a phase, so
-- the records of the phases are put together from two lists.
use Prim.Native.Nat.{ℕ}
use mathlib.Core.Bool.{true}
use mathlib.Core.List.{List, map}
use mathlib.Core.Path.{◌≡◌, refl, sym, ap, ◌∙◌}
use lib.ListN.{length, get_or, length-map, get_or-map}
use Rattle.rules.specs.declared.site.PhaseTimes.{PhaseTimes}
use Rattle.rules.specs.declared.site.Times.{Times}
use Rattle.rules.specs.declared.site.WalkTimes.{WalkTimes}
use Rattle.laws.specs.Folds.{list_of, all_of}
use Rattle.rules.specs.Site.{no_phase_times, no_walk_times}
use Rattle.laws.proofs.Lists.{list_length, list_at, list-told, listed}
use Rattle.state_forms.specs.Forms.{two, ◌⊗◌}
use Rattle.state_forms.proofs.Lawful.{Lawful, two-law, row-law, both-law, made-law, made-fitting}
use Rattle.state_times.specs.TimesLayout.{Six, six, six_of, phase_of, walk, phases, walks, earlies, times}

pub six-law : Lawful six
six-law = both-law (both-law (both-law (both-law (both-law two-law two-law) two-law) two-law) two-law) two-law

pub walk-law : Lawful walk
walk-law = made-law _ _ (λ w. refl) (λ a. refl) (both-law (both-law two-law two-law) two-law)

-- ── The phases, from their two lists ──

abbrev pub early_of : PhaseTimes → ℕ
early_of t = t.early

abbrev pub joined : List Six → List ℕ → List PhaseTimes
joined l early = list_of (λ p. phase_of (get_or l p (six_of no_phase_times)) (get_or early p 0)) 7

joined_back : (l : List PhaseTimes) → length l ≡ 7 → joined (map six_of l) (map early_of l) ≡ l
joined_back l e =
    sym (list-told (λ p. phase_of (get_or (map six_of l) p (six_of no_phase_times)) (get_or (map early_of l) p 0)) l 7 no_phase_times e
    (λ p h. rw (get_or-map six_of l p no_phase_times, get_or-map early_of l p no_phase_times)))

-- a field of the joined records is the list that it came from
module _ {A : Type 0} (f : PhaseTimes → A) (l : List A) (v : ℕ → PhaseTimes) where
  field_back : length l ≡ 7 → ((p : ℕ) → f (v p) ≡ get_or l p (f no_phase_times)) → map f (list_of v 7) ≡ l
  field_back e same =
      list-told (λ p. get_or l p (f no_phase_times)) (map f (list_of v 7)) 7 (f no_phase_times) (length-map (list_of v 7) f ∙ list_length v 7)
      (λ p h. get_or-map f (list_of v 7) p no_phase_times ∙ ap f (list_at v 7 p no_phase_times h) ∙ same p)
      ∙ listed l 7 (f no_phase_times) e

-- ── All times ──

-- the fields of times, in the order of the layout
abbrev parts_in : Times → ((ℕ × List Six) × List WalkTimes) × List ℕ
parts_in t = (((t.start, map six_of t.phases), t.walks), map early_of t.phases)

abbrev times_in : ((ℕ × List Six) × List WalkTimes) × List ℕ → Times
times_in = λ (((start, l), walks), early). record { start = start; phases = joined l early; walks = walks }

pub times-law : Lawful times
times-law =
    made-fitting parts_in times_in whole again
    (both-law (both-law (both-law two-law (row-law six six-law 7 (six_of no_phase_times))) (row-law walk walk-law 8 no_walk_times)) (row-law two two-law 7 0))
  where
    whole : (t : Times) → times.fits t → times_in (parts_in t) ≡ t
    whole t fits =
        let e : length t.phases ≡ 7 = sym (length-map t.phases six_of) ∙ fits.0.0.1.0 in
        ap (λ (l : List PhaseTimes). record { start = t.start; phases = l; walks = t.walks }) (joined_back t.phases e)

    again : (a : ((ℕ × List Six) × List WalkTimes) × List ℕ) → (two ⊗ phases ⊗ walks ⊗ earlies).fits a → parts_in (times_in a) ≡ a
    again (((start, l), walks), early) fits =
        let v : ℕ → PhaseTimes = λ p. phase_of (get_or l p (six_of no_phase_times)) (get_or early p 0) in
        rw (
          field_back six_of l v fits.0.0.1.0 (λ p. refl),
          field_back early_of early v fits.1.0 (λ p. refl),
        )

-- any bytes are times
pub times-known : (b : List ℕ) (at : ℕ) → times.known b at ≡ true
unfolding all_of
times-known b at = refl
