-- A turn: the stream is one of those, and its traffic is as handed in.
use Rattle.std.proofs.Common.{refl, ap, ◌∙◌}
use Rattle.road_streams.specs.declared.Stream.{Stream}
use Rattle.road_streams.specs.Road.{stream_count, no_traffic, traffic_of, queues, arrived}
use Rattle.road_step.proofs.Passes.{arrived-none, arrived-more, arrived-room, may-arrive-at, arrived-all}
use Rattle.road_step.proofs.arrivals.Goals as goal

pub loop-i-init : goal.loop-i-init
loop-i-init c = arrived-none

pub slice_copy_out-arrived : goal.slice_copy_out-arrived
slice_copy_out-arrived c = arrived-room c.requires c.loop-i.invariant c.loop-i-test.true

pub arrived-traffic-requires : goal.arrived-traffic-requires
unfolding traffic_of no_traffic
arrived-traffic-requires c =
    let ok = may-arrive-at c.requires c.loop-i.invariant c.loop-i-test.true in
    rw c.stream_at-stream.ensures (ok.rate, ok.below, ok.fits)

pub bounds-cells-i : goal.bounds-cells-i
bounds-cells-i c = arrived-room c.requires c.loop-i.invariant c.loop-i-test.true

pub with_bit-inputs-requires : goal.with_bit-inputs-requires
with_bit-inputs-requires c = rw c.stream_at-stream.ensures (may-arrive-at c.requires c.loop-i.invariant c.loop-i-test.true).detector

pub loop-i-preserved : goal.loop-i-preserved
unfolding traffic_of no_traffic queues
loop-i-preserved c =
    arrived-more c.arrived-traffic.result c.loop-i.invariant c.loop-i-test.true
    (arrived-room c.requires c.loop-i.invariant c.loop-i-test.true)
    refl
    (c.arrived-traffic.ensures ∙ ap (λ (s : Stream). arrived s.rate (traffic_of c.loop-i.cells c.loop-i.i)) c.stream_at-stream.ensures)
    (ap (λ (s : Stream). s.detector) c.stream_at-stream.ensures)
    refl
    c.with_bit-inputs.ensures

pub returns : goal.returns
unfolding stream_count
returns c = arrived-all c.loop-i.invariant c.loop-i-test.false
