use Rattle.std.proofs.Common.{◌≡◌, length}
use Rattle.qasm_tokens.specs.Spelling.{found, written}
use Rattle.qasm_tokens.proofs.words.find.Given as goal

abbrev pub decreases-loop-left : goal.decreases-loop-left
decreases-loop-left l = length l.left

abbrev pub invariant-loop-left : goal.invariant-loop-left
invariant-loop-left l = found (written l.left) l.fn.text ≡ found (written l.fn.words) l.fn.text
