use Rattle.flat_core.proofs.RowsKept.{rows_wire}
use Rattle.flat_core.proofs.draft.Draft.wire.Goals as goal
use Rattle.std.proofs.Common.{arith}

pub invariant_of-self-2 : goal.invariant_of-self-2
invariant_of-self-2 c = rw c.in_ok-push.ensures.items (rows_wire c.self.inside.wires.items c.self.inside.steps.items c.self.inside.outcomes c.args.input c.self.invariant (omega arith))
