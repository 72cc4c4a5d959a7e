-- The times of an accepted personality are within the limits of its edition, record by record.
use Prim.Native.Nat.{ℕ, ◌<◌}
use mathlib.Core.Bool.{true}
use mathlib.Core.List.{List}
use mathlib.Core.Path.{◌≡◌}
use native.Mathlib.Omega.{arith}
use borrow.Author.Tests.{lt-ltb}
use Rattle.rules.specs.Verdicts.{Accepted}
use Rattle.rules.specs.Limits.{limits}
use Rattle.rules.specs.Personality.{phase_count, movement_count, has_early, edition_of, verdict_of}
use Rattle.rules.specs.Site.{no_phase_times, no_walk_times, phase_times_at, walk_times_at, times_in, site_of, phase_times, walk_times}
use Rattle.rules.specs.SiteTimes.{record_limits, phase_within, walk_within, admitted}
use Rattle.rules.specs.TimedLaws.{AcceptedIsAdmitted}
use Rattle.laws.proofs.Folds.{all-at}
use Rattle.laws.proofs.Lists.{row_at}
use Rattle.proof_acceptance.proofs.Sections.{sections-accepted}
use Rattle.proof_change.proofs.Admitted.{within-parts}
use Rattle.proof_time_bytes.proofs.Elsewhere.{accepted-is-admitted}

module _ (b : List ℕ) (known : verdict_of b ≡ Accepted) where
  pub own-phase : (p : ℕ) → p < phase_count b → phase_within (limits (edition_of b)) (has_early b) (phase_times_at b p) ≡ true
  unfolding AcceptedIsAdmitted admitted site_of times_in phase_times
  own-phase p l =
      rw (lt-ltb p (phase_count b) l, row_at (phase_times_at b) (phase_count b) 7 p no_phase_times l) at
      (all-at (λ q. phase_within (record_limits (limits (edition_of b)) (phase_count b) q) (has_early b) (phase_times (times_in b) q)) 7 p
      (within-parts (site_of b) (times_in b) (limits (edition_of b)) (accepted-is-admitted b known)).1
      (omega (arith, (sections-accepted b known).site.phases.1)))

  pub own-walk : (k : ℕ) → k < movement_count b → walk_within (limits (edition_of b)) (walk_times_at b k) ≡ true
  unfolding AcceptedIsAdmitted admitted site_of times_in walk_times
  own-walk k l =
      rw (lt-ltb k (movement_count b) l, row_at (walk_times_at b) (movement_count b) 8 k no_walk_times l) at
      (all-at (λ q. walk_within (record_limits (limits (edition_of b)) (movement_count b) q) (walk_times (times_in b) q)) 8 k
      (within-parts (site_of b) (times_in b) (limits (edition_of b)) (accepted-is-admitted b known)).2
      (omega (arith, (sections-accepted b known).groups.movements)))
