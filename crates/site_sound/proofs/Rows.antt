-- A site's own entries of a row, cut from it, say what the row says of them: the rules take the whole row and the count, the code takes the part.
use Rattle.std.proofs.Common.{◌≡◌, ℕ, ◌<◌, Bool, ◌||◌, List, length, take, ap}
use Rattle.std.proofs.lemmas.List.{get_or-take}
use Rattle.rules.specs.declared.site.Detector.{Detector}
use Rattle.rules.specs.declared.site.Group.{Group}
use Rattle.rules.specs.declared.state.Demands.{Demands}
use Rattle.laws.specs.Bytes.{bit}
use Rattle.rules.specs.Site.{no_group, no_detector, group_of, detector_of, crosses}
use Rattle.rules.specs.Demands.{detected_among, movement_demands, stands}
use Rattle.rules.specs.Kept.{gone, cleared, kept_left}
use Rattle.laws.proofs.Folds.{any_same}

pub group-taken : (groups : List Group) (n g : ℕ) → g < n → group_of (take n groups) g ≡ group_of groups g
unfolding group_of
group-taken groups n g l = get_or-take n groups g no_group l

pub detector-taken : (detectors : List Detector) (n d : ℕ) → d < n → detector_of (take n detectors) d ≡ detector_of detectors d
unfolding detector_of
detector-taken detectors n d l = get_or-take n detectors d no_detector l

pub crosses-taken : (crossings : List ℕ) (n k p : ℕ) → k < n → crosses (take n crossings) k p ≡ crosses crossings k p
unfolding crosses
crosses-taken crossings n k p l = ap (bit p) (get_or-take n crossings k 0 l)

pub detected-taken :
    (detectors : List Detector) (n : ℕ) {own : List Detector} →
    own ≡ take n detectors →
    length own ≡ n →
    (kind : ℕ → Bool) (inputs p : ℕ) →
    detected_among own (length own) kind inputs p ≡ detected_among detectors n kind inputs p
unfolding detected_among
detected-taken detectors n row count kind inputs p =
    rw (count, row) (any_same _ _ n (λ d l. rw (detector-taken detectors n d l)))

module _ (crossings : List ℕ) (n : ℕ) {own : List ℕ} (row : own ≡ take n crossings) (count : length own ≡ n) where
  pub stands-taken : (demands : Demands) (p : ℕ) → stands own (length own) demands p ≡ stands crossings n demands p
  unfolding stands movement_demands
  stands-taken demands p =
      ap (λ (t : Bool). bit p demands.locks || t)
      (rw (count, row) (any_same _ _ n (λ k l. rw (crosses-taken crossings n k p l))))

  cleared-taken : (old new : Demands) (p : ℕ) → cleared own (length own) old new p ≡ cleared crossings n old new p
  unfolding cleared
  cleared-taken old new p =
      ap (λ (t : Bool). gone old.locks new.locks p || t)
      (rw (count, row) (any_same _ _ n (λ k l. rw (crosses-taken crossings n k p l))))

  pub kept_left-taken :
      (old new : Demands) (kept : ℕ → Bool) (p : ℕ) →
      kept_left own (length own) old new kept p ≡ kept_left crossings n old new kept p
  unfolding kept_left
  kept_left-taken old new kept p = rw (stands-taken new p, cleared-taken old new p)
