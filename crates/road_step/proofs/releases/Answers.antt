-- A turn: the stream is one of those, and its traffic is as handed in.
use Rattle.std.proofs.Common.{refl, sym, ap, ◌∙◌, arith}
use Rattle.laws.specs.Bytes.{bit}
use Rattle.road_streams.specs.declared.Stream.{Stream}
use Rattle.road_streams.specs.Road.{stream_count, stream_at, no_traffic, traffic_of}
use Rattle.road_step.proofs.Cells.{passed-more}
use Rattle.road_step.proofs.Passes.{coloured, coloured-green, may-release-at, released-all}
use Rattle.road_step.proofs.releases.Goals as goal

pub bounds-cells-i : goal.bounds-cells-i
unfolding stream_count
bounds-cells-i c = omega (arith, c.requires.room, c.loop-i.invariant.same)

pub is_green-requires : goal.is_green-requires
is_green-requires c =
    rw c.stream_at-stream.ensures (omega (arith, (may-release-at c.args.greens c.requires c.loop-i.invariant c.loop-i-test.true).group))

pub release-requires : goal.release-requires
unfolding traffic_of no_traffic
release-requires c =
    let ok = may-release-at c.args.greens c.requires c.loop-i.invariant c.loop-i-test.true in (ok.fits, ok.counting)

pub loop-i-preserved : goal.loop-i-preserved
unfolding traffic_of no_traffic stream_count
loop-i-preserved c =
    let group = (stream_at c.args.streams.now c.loop-i.i).group in
    passed-more c.release.new.traffic c.loop-i.invariant
    (omega (arith, c.requires.room, c.loop-i.invariant.same))
    refl
    (c.release.ensures (coloured c.args.greens group)
    (coloured-green c.args.greens group
    ∙ sym (c.is_green.ensures ∙ ap (λ (s : Stream). bit s.group c.args.greens) c.stream_at-stream.ensures)))

pub returns : goal.returns
unfolding stream_count
returns c = released-all c.loop-i.invariant (omega arith) c.loop-i-test.false
