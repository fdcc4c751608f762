use Rattle.std.proofs.Common.{sym, ◌∙◌}
use Rattle.qasm_read.specs.Read.{tokens_of}
use Rattle.qasm_read.proofs.Stepped.{may_apply}
use Rattle.qasm_read.proofs.state.State.read_item.Goals as goal

pub apply-requires-clause-allowed : goal.apply-requires-clause-allowed
apply-requires-clause-allowed c =
    rw c.deref-2.ensures.value
    (may_apply c.args.taken.now.ending c.lines.new.self (tokens_of c.args.taken.now.tokens.items) (sym c.in_default.is ∙ c.in_ok-refusal.ensures))
