use Rattle.std.proofs.Common.{◌≡◌, map, take}
use Rattle.bit_arith.specs.Built.{negated}
use Rattle.flat_steps.proofs.operators.all_negated.Given as goal

abbrev pub invariant-loop-p : goal.invariant-loop-p
invariant-loop-p l = l.list ≡ map negated (take l.p-index l.operands)
