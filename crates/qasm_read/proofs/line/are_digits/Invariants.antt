use Rattle.std.proofs.Common.{◌≡◌, length}
use Rattle.std.specs.List.{list_all}
use Rattle.silq_lex.specs.Characters.{is_digit}
use Rattle.qasm_read.proofs.line.are_digits.Given as goal

abbrev pub decreases-loop-left : goal.decreases-loop-left
decreases-loop-left l = length l.left

abbrev pub invariant-loop-left : goal.invariant-loop-left
invariant-loop-left l = list_all is_digit l.left ≡ list_all is_digit l.fn.bytes
