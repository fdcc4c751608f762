use Rattle.std.proofs.Common.{◌≡◌, length}
use Rattle.silq_parse.specs.Spelling.{found, written}
use Rattle.silq_parse.proofs.terminal.find.Given as goal

abbrev pub decreases-loop-left : goal.decreases-loop-left
decreases-loop-left l = length l.left

abbrev pub invariant-loop-left : goal.invariant-loop-left
invariant-loop-left l = found (written l.left) l.fn.text ≡ found (written l.fn.spellings) l.fn.text
