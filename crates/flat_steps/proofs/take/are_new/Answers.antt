use Rattle.std.proofs.Common.{length}
use Rattle.bit_arith.specs.Calls.{no_target}
use Rattle.bit_arith.proofs.Safe.{safe_at}
use Rattle.flat_steps.proofs.take.are_new.Goals as goal

pub is_new-requires : goal.is_new-requires
is_new-requires c = safe_at (length c.args.builder.now.draft.wires) no_target c.args.operands.now c.loop-p.p-index _ c.loop-p-test.true c.requires
