-- The records of kind 3, once it has been accepted: each is in the bytes, and its second byte is the group's mark.
use Prim.Native.Nat.{ℕ, ◌+◌, ◌≤◌, ◌<◌}
use mathlib.Core.List.{List}
use mathlib.Core.Path.{◌≡◌}
use native.Mathlib.Omega.{arith}
use lib.ListN.{length}
use Rattle.rules.specs.Verdicts.{Accepted}
use Rattle.laws.specs.Bytes.{byte_at}
use Rattle.rules.specs.Personality.{body_at, record_at, conflicts_head, group_mark, groups_section}
use Rattle.proof_acceptance.proofs.Sections.{groups-accepted, record-within}
use Rattle.read_layout.specs.declared.Layout.{Layout}
use Rattle.read_layout.specs.LayoutOf.{LayoutOf}

module _ {b : List ℕ} {w : Layout} (laid : LayoutOf b w) where
  pub group-held : groups_section b ≡ Accepted → (g : ℕ) → g < w.groupcount → record_at w.groups 2 g + 2 ≤ length b
  unfolding conflicts_head body_at
  group-held passed g l =
      omega (arith, (groups-accepted b passed).next, record-within w.groups 2 w.groupcount g l, laid.groupcount, laid.groups)

  pub mark-read : (g : ℕ) {mark : ℕ} → mark ≡ byte_at b (record_at w.groups 2 g + 1) → mark ≡ group_mark b g
  unfolding group_mark
  mark-read g e = rw laid.groups at e
