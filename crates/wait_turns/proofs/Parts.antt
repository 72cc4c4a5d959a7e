-- The walks of a phase that count, one by one: the greatest of them and of what ends without a walk is the ending.
use Rattle.std.proofs.Common.{ℕ, ◌+◌, ◌≤◌, ◌<◌, ◌≡◌, max, true, false, not, ◌&&◌, Option, None, Some, eqb, get_or, refl, sym, ◌∙◌, add-one, arith}
use Rattle.std.proofs.Math.Bool.{and-false}
use Rattle.std.specs.Option.{option_eq}
use Rattle.laws.specs.Bytes.{bit}
use Rattle.std.specs.Prelude.{if◌then◌else◌}
use Rattle.rules.specs.declared.site.Site.{Site}
use Rattle.laws.specs.Folds.{greatest_of}
use Rattle.rules.specs.Site.{no_walk_times, phase_times, walk_times, crosses}
use Rattle.rules.specs.State.{highest_age}
use Rattle.rules.specs.Waits.{leaving_of, green_of, walk_ending, ending}
use Rattle.rules.specs.Laws.{Sound}
use Rattle.rules.proofs.Settings.{phase-timed, walk-reached}
use Rattle.wait_turns.specs.Others.{all_but}

-- the step of `ending` over the first n movements
abbrev pub most_of : (site : Site) (p : ℕ) (without : Option ℕ) (leaving z b n : ℕ) → ℕ
most_of site p without leaving z b n =
    max (z + leaving)
    (greatest_of (λ k. if crosses site.crossings k p && all_but without k then walk_ending leaving (walk_times site.times k) z b else 0) n)

-- as the code asks it
others-told : (without : Option ℕ) (k : ℕ) → not (option_eq eqb (Some k) without) ≡ all_but without k
others-told None k = refl
others-told (Some m) k = refl

module _ (site : Site) (p : ℕ) (without : Option ℕ) (leaving z b k : ℕ) where
  -- movement k is not of phase p
  pub most-past :
      bit p (get_or site.crossings k 0) ≡ false →
      most_of site p without leaving z b (k + 1) ≡ most_of site p without leaving z b k
  unfolding greatest_of crosses
  most-past not = rw (add-one k, not) (omega arith)

  -- it is left out
  pub most-but :
      not (option_eq eqb (Some k) without) ≡ false →
      most_of site p without leaving z b (k + 1) ≡ most_of site p without leaving z b k
  unfolding greatest_of
  most-but out = rw (add-one k, sym (others-told without k) ∙ out, and-false) (omega arith)

  -- it counts
  pub most-more :
      bit p (get_or site.crossings k 0) ≡ true →
      not (option_eq eqb (Some k) without) ≡ true →
      max (most_of site p without leaving z b k) (walk_ending leaving (get_or site.times.walks k no_walk_times) z b)
      ≡ most_of site p without leaving z b (k + 1)
  unfolding greatest_of crosses walk_times
  most-more has other = rw (add-one k, has, sym (others-told without k) ∙ other) (omega arith)

module _ (site : Site) (sound : Sound site) where
  pub leaving-fits : (p : ℕ) → p < site.size.phases → leaving_of (phase_times site.times p) ≤ 6000
  leaving-fits p l =
      let timed = phase-timed site sound p l in
      omega (arith, timed.early, timed.yellow, timed.red)

  pub green-fits : (p : ℕ) → p < site.size.phases → green_of (phase_times site.times p) ≤ 6000
  green-fits p l =
      let timed = phase-timed site sound p l in
      omega (arith, timed.late, timed.minimum, timed.maximum)

  pub walk-fits :
      (k : ℕ) →
      k < site.size.movements →
      ((walk_times site.times k).walk ≤ highest_age)
      × ((walk_times site.times k).first ≤ highest_age)
      × ((walk_times site.times k).second ≤ highest_age)
  walk-fits k l = let reached = walk-reached site sound k l in (reached.walk.1, reached.first.1, reached.second.1)

-- the greatest of all movements is the ending
pub all-parts :
    (site : Site) (p : ℕ) (without : Option ℕ) (leaving z b most k : ℕ) →
    leaving ≡ leaving_of (phase_times site.times p) →
    most ≡ most_of site p without leaving z b k →
    k ≡ site.size.movements →
    most ≡ ending site p (all_but without) z b
unfolding ending
all-parts site p without leaving z b most k own e all = e ∙ rw (own, all)
