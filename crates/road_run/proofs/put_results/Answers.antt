-- A turn stores one result.
use Rattle.std.proofs.Common.{◌*◌, refl, arith}
use Rattle.state_forms.specs.Forms.{parts_of}
use Rattle.laws.proofs.Arrays.{stored-none, stored-length, stored-all}
use Rattle.state_forms.proofs.Parts.{stored-record}
use Rattle.road_streams.specs.Road.{no_traffic, traffic_of, result_of}
use Rattle.road_run.proofs.put_results.Goals as goal

pub loop-i-init : goal.loop-i-init
unfolding parts_of
loop-i-init c = stored-none refl

pub put_result-requires : goal.put_result-requires
put_result-requires c = omega (arith, stored-length c.loop-i.invariant)

pub loop-i-preserved : goal.loop-i-preserved
unfolding result_of traffic_of no_traffic
loop-i-preserved c =
    rw c.put_result.ensures
    (stored-record (λ i. result_of (traffic_of c.args.cells.now i)) 4 (λ i. refl) (c.loop-i.i * 4) (result_of (traffic_of c.args.cells.now c.loop-i.i))
    c.loop-i.invariant
    c.loop-i-test.true
    (omega arith)
    refl)

pub returns : goal.returns
returns c = stored-all c.loop-i.invariant c.loop-i-test.false
