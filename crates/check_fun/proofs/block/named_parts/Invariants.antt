use Rattle.std.proofs.Common.{◌≡◌, take}
use Rattle.check_scope.specs.Uses.{parts_of}
use Rattle.check_fun.proofs.block.named_parts.Given as goal

abbrev pub invariant-loop-one : goal.invariant-loop-one
invariant-loop-one l = l.parts ≡ parts_of (take l.one-index l.one-items)
