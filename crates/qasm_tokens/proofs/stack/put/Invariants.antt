use Rattle.std.proofs.Common.{◌≡◌, ◌++◌, length, reverse}
use Rattle.qasm_tokens.proofs.stack.put.Given as goal

abbrev pub invariant-loop-last : goal.invariant-loop-last
invariant-loop-last l = l.left ++ reverse l.stack.items ≡ l.fn.symbols ++ reverse l.fn.stack.items

abbrev pub decreases-loop-last : goal.decreases-loop-last
decreases-loop-last l = length l.left
