use Rattle.std.proofs.Common.{length}
use Rattle.qasm_read.proofs.Spaces.{HaveRead}
use Rattle.qasm_read.proofs.line.between_spaces.Given as goal

abbrev pub decreases-loop-word : goal.decreases-loop-word
decreases-loop-word l = length l.left

abbrev pub invariant-loop-word : goal.invariant-loop-word
invariant-loop-word l = HaveRead l.fn.text l.words.items l.left
