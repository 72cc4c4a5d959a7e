-- The length of kind 5's body is how far the next head is from where the body starts.
use Prim.Native.Nat.{ℕ, ◌+◌, ◌-◌, ◌≤◌}
use mathlib.Core.List.{List}
use mathlib.Core.Path.{◌≡◌}
use native.Mathlib.Omega.{arith}
use Rattle.rules.specs.Personality.{body_at, body_length, detectors_head, pedestrians_head}
use Rattle.read_layout.specs.declared.Layout.{Layout}
use Rattle.read_layout.specs.LayoutOf.{LayoutOf}

module _ {b : List ℕ} {w : Layout} (laid : LayoutOf b w) where
  pub detectors-apart : w.detectors + 4 ≤ w.pedestrians
  unfolding pedestrians_head body_at
  detectors-apart = omega (arith, laid.detectors, laid.pedestrians)

  pub detectors-length : w.pedestrians - w.detectors - 4 ≡ body_length b (detectors_head b)
  unfolding pedestrians_head body_at
  detectors-length = omega (arith, laid.detectors, laid.pedestrians)
