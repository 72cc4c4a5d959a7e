-- No more than the wait bound is ever left. The bound counts for each phase its whole visit, and its walk, the timers by which it is left
-- and its clearance once more; every phase is visited at most once on the way, and the second part pays for the rest of the phase that
-- the state has.
use Prim.Native.Nat.{ℕ, ◌+◌, ◌≤◌, ◌<◌}
use mathlib.Core.Path.{◌≡◌}
use native.Mathlib.Omega.{arith}
use Rattle.rules.specs.declared.site.Site.{Site}
use Rattle.laws.specs.Folds.{sum_of}
use Rattle.rules.specs.Site.{phase_times}
use Rattle.rules.specs.WaitBound.{phase_share, wait_bound}
use Rattle.rules.specs.Waits.{leaving_of}
use Rattle.laws.proofs.Sums.{sum-at, sum_both}
use Rattle.proof_waits.proofs.Stages.{longest_walk, longest_clearance}
use Rattle.proof_waits.proofs.Left.{visit}

-- ── The bound's two parts ──

-- what the bound counts a second time
unfoldable pub again : Site → ℕ → ℕ
again site p = longest_walk site p + leaving_of (phase_times site.times p) + longest_clearance site p

-- all visits
abbrev pub visits : Site → ℕ
visits site = sum_of (visit site) site.size.phases

-- a phase's share
abbrev share_of : Site → ℕ → ℕ
share_of site p = phase_share (phase_times site.times p) (longest_walk site p) (longest_clearance site p)

share : (site : Site) (p : ℕ) → share_of site p ≡ visit site p + again site p
unfolding phase_share visit again
share site p = omega arith

pub bound-parts : (site : Site) (p : ℕ) → p < site.size.phases → site.times.start + visits site + again site p ≤ wait_bound site
unfolding wait_bound
bound-parts site p h =
    omega (
      arith,
      sum_both (visit site) (again site) (share_of site) site.size.phases (share site),
      sum-at (again site) site.size.phases p h,
    )
