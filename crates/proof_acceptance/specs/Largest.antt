-- The greatest length and the greatest wait bound are reached: in each edition one accepted personality has both.
use Rattle.std.specs.Prelude.{ℕ, zero, suc, List, [], ◌∷◌, ◌++◌, ◌≡◌, length, replicate}
use Rattle.rules.specs.Verdicts.{Accepted}
use Rattle.rules.specs.declared.site.Edition.{Edition}
use Rattle.rules.specs.Personality.{site_kind, verdict_of}
use Rattle.rules.specs.Site.{site_of}
use Rattle.rules.specs.WaitBound.{wait_bound}
use Rattle.rules.specs.Laws.{greatest_length, greatest_bound}
use Rattle.rules.specs.Junctions.{two, twos, fours, sections, put_kind, cut_offs, ordered}

-- so many copies, one behind the other
unfoldable pub copies : ℕ → List ℕ → List ℕ
copies zero bytes = []
copies (suc n) bytes = bytes ++ copies n bytes

-- 7 phases, 24 vehicle groups and a pedestrian group for each phase and one more for A, no conflict, 48 locking detectors of A, and sections of
-- kinds 7 and 9; every time is the highest, and the site section is of the edition's kind
unfoldable pub largest : Edition → List ℕ
largest edition =
    put_kind
    (sections
    (7 ∷ 32 ∷ two 150)
    (copies 7 (twos (200 ∷ 400 ∷ 1500 ∷ 100 ∷ 100 ∷ 150 ∷ [])))
    (1 ∷ 2 ∷ 2 ∷ 2 ∷ 4 ∷ 2 ∷ 8 ∷ 2 ∷ 16 ∷ 2 ∷ 32 ∷ 2 ∷ 64 ∷ 2 ∷ 1 ∷ 2 ∷ copies 24 (1 ∷ 0 ∷ []))
    (fours (replicate 32 0))
    (copies 48 (0 ∷ 2 ∷ []))
    (copies 8 (twos (400 ∷ 400 ∷ 400 ∷ []))))
    0 (site_kind edition)
    ++ cut_offs (replicate 7 200)
    ++ ordered (0 ∷ 1 ∷ 2 ∷ 3 ∷ 4 ∷ 5 ∷ 6 ∷ [])

pub record GreatestIsReachedIn (edition : Edition) : Type 0 where
  pub accepted : verdict_of (largest edition) ≡ Accepted
  pub own : (site_of (largest edition)).edition ≡ edition
  pub long : length (largest edition) ≡ greatest_length
  pub wait : wait_bound (site_of (largest edition)) ≡ greatest_bound

unfoldable pub GreatestIsReached : Type 0
GreatestIsReached = (edition : Edition) → GreatestIsReachedIn edition
