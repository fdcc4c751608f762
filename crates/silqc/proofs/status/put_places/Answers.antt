use Rattle.std.proofs.Common.{arith}
use Rattle.silq_io.proofs.Added.{on_err_from}
use Rattle.flat_compile.specs.declared.cycle.CyclePlace.TheVariants.{Forward}
use Rattle.qasm_write.proofs.Parts.{put_more, put_broke}
use Rattle.silqc.proofs.Cycles.{next_place}
use Rattle.silqc.proofs.status.put_places.Goals as goal

pub returns-in_err-put_place-clause-broken : goal.returns-in_err-put_place-clause-broken
returns-in_err-put_place-clause-broken g c =
    let part = rw (next_place c.args.cycle.now c.loop-place.place-index (Forward 0 0) c.loop-place-test.true) at c.loop-place.invariant.part in
    on_err_from c.from_residual.result (put_broke _ _ _ _ _ _ part c.in_err-put_place.ensures.broken)

pub loop-place-preserved : goal.loop-place-preserved
loop-place-preserved g c =
    let part = rw (next_place c.args.cycle.now c.loop-place.place-index (Forward 0 0) c.loop-place-test.true) at c.loop-place.invariant.part in
    record {
      part = put_more _ _ _ _ _ _ part c.in_ok-put_place.ensures.ok;
      counted = omega (arith, c.loop-place.invariant.counted, c.put_place.ensures.count);
    }
