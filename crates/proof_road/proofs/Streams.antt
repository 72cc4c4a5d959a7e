-- What is known of streams that are not refused with 22: the bytes are whole streams, and each has a rate, a detector and a vehicle group of the site.
use Prim.Native.Nat.{ℕ, ◌*◌, ◌%◌, ◌≤◌, ◌<◌}
use mathlib.Core.Bool.{Bool, false, not, ◌||◌}
use mathlib.Core.List.{List}
use mathlib.Core.Path.{◌≡◌}
use lib.Dec.{ltb, eqb}
use lib.ListN.{length}
use native.Mathlib.Nat.{div-add-mod'}
use native.Mathlib.Omega.{arith}
use borrow.Author.Tests.{ltb-true, ltb-false, eqb-true, not-true, not-false}
use Rattle.rules.specs.declared.site.Site.{Site}
use Rattle.rules.specs.Site.{is_pedestrian}
use Rattle.laws.specs.Folds.{any_of}
use Rattle.laws.proofs.Booleans.{or-false-left, or-false-right, and_left, and_right}
use Rattle.laws.proofs.Folds.{any_false}
use Rattle.road_streams.specs.declared.Stream.{Stream}
use Rattle.road_streams.specs.Road.{stream_count, stream_at, vehicle_group, bad_stream, bad_streams}

pub record Known (site : Site) (stream : Stream) : Type 0 where
  pub rate : stream.rate ≤ 1800
  pub detector : stream.detector < site.size.detectors
  pub group : stream.group < site.size.groups
  pub vehicle : is_pedestrian site.groups stream.group ≡ false

known-stream : (site : Site) (stream : Stream) → bad_stream site stream ≡ false → Known site stream
unfolding bad_stream vehicle_group
known-stream site stream h =
    let fast = ltb 1800 stream.rate in
    let unseen = not (ltb stream.detector site.size.detectors) in
    let unlit = not (vehicle_group site stream.group) in
    let first = or-false-left (fast || unseen) unlit h in
    let group = not-false (vehicle_group site stream.group) (or-false-right (fast || unseen) unlit h) in
    record {
      rate = ltb-false 1800 stream.rate (or-false-left fast unseen first);
      detector = ltb-true stream.detector site.size.detectors (not-false _ (or-false-right fast unseen first));
      group = ltb-true stream.group site.size.groups (and_left (ltb stream.group site.size.groups) _ group);
      vehicle = not-true _ (and_right (ltb stream.group site.size.groups) _ group);
    }

pub record KnownStreams (site : Site) (streams : List ℕ) (steps : ℕ) : Type 0 where
  pub whole : stream_count streams * 4 ≡ length streams
  pub most : stream_count streams ≤ 48
  pub few : steps ≤ 180000
  pub each : (i : ℕ) → i < stream_count streams → Known site (stream_at streams i)

pub known-streams : (site : Site) (streams : List ℕ) (steps : ℕ) → bad_streams site streams steps ≡ false → KnownStreams site streams steps
unfolding bad_streams stream_count
known-streams site streams steps h =
    let cut = not (eqb (length streams % 4) 0) in
    let many = ltb 48 (stream_count streams) in
    let long = ltb 180000 steps in
    let bad : ℕ → Bool = λ i. bad_stream site (stream_at streams i) in
    let some = any_of bad (stream_count streams) in
    let third = or-false-left (cut || many || long) some h in
    let second = or-false-left (cut || many) long third in
    let multiple = eqb-true (length streams % 4) 0 (not-false _ (or-false-left cut many second)) in
    record {
      whole = omega (arith, div-add-mod' (length streams) 4);
      most = ltb-false 48 (stream_count streams) (or-false-right cut many second);
      few = ltb-false 180000 steps (or-false-right (cut || many) long third);
      each = λ i l. known-stream site (stream_at streams i) (any_false bad (stream_count streams) i (or-false-right (cut || many || long) some h) l);
    }
