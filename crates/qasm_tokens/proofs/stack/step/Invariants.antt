use Rattle.std.proofs.Common.{◌≡◌, vec_len, reverse}
use Rattle.grammar_core.specs.Table.{advance}
use Rattle.qasm_tokens.specs.Table.{table}
use Rattle.qasm_tokens.proofs.stack.step.Given as goal

abbrev pub invariant-loop-symbol : goal.invariant-loop-symbol
invariant-loop-symbol l = advance table (reverse l.fn.stack.items) l.kind ≡ advance table (reverse l.stack.items) l.kind

abbrev pub decreases-loop-symbol : goal.decreases-loop-symbol
decreases-loop-symbol l = vec_len l.stack
