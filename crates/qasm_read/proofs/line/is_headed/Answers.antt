use Rattle.std.proofs.Common.{◌∙◌}
use Rattle.qasm_read.proofs.Headed.{both_true, headed_long}
use Rattle.qasm_read.proofs.line.is_headed.Goals as goal

pub returns-then-is_marked : goal.returns-then-is_marked
returns-then-is_marked c =
    both_true _ _ _ _ c.is_marked.ensures c.if-is_marked.true c.is_numbered.ensures
    ∙ headed_long c.args.kind.now c.args.number c.args.words.now _ _ _ _ c.in-len5-up.len_at_least
