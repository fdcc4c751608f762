use Rattle.std.proofs.Common.{◌≡◌, ◌++◌, take}
use Rattle.flat_steps.proofs.gates.append.Given as goal

abbrev pub invariant-loop-p : goal.invariant-loop-p
invariant-loop-p l = l.list ≡ l.fn.list ++ take l.p-index l.operands
