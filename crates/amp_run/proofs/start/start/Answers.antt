use Rattle.std.proofs.Common.{arith}
use Rattle.amp_run.proofs.Begin.{below_at}
use Rattle.amp_run.proofs.start.start.Goals as goal

pub set-requires : goal.set-requires
set-requires c =
    let below = below_at c.args.n c.args.qubits.now c.loop-i.i c.requires.in_range c.loop-i-test.true in
    let width = c.loop-i.invariant.width in
    omega arith
