use Rattle.std.proofs.Common.{arith}
use Rattle.std.proofs.lemmas.Grind.{common_steps}
use Rattle.silq_io.proofs.Added.{adds_front}
use Rattle.silq_io.proofs.sink.put_all.Goals as goal

pub loop-done-preserved : goal.loop-done-preserved
loop-done-preserved g c = record {
  within = grind (arith, common_steps, c.in_ok-done.ensures.within);
  put = adds_front _ _ _ c.args.bytes.now c.loop-done.done c.in_ok-done.field-0 c.loop-done.invariant.within c.loop-done.invariant.put c.in_ok-done.ensures.added;
  counted = omega (arith, c.loop-done.invariant.counted, c.put.ensures.count);
}
