use Rattle.std.proofs.Common.{◌≡◌, None, drop}
use Rattle.static_num.specs.Static.{value_of_name}
use Rattle.check_scope.proofs.reach.value_of.Given as goal

-- what is left to look at, behind what was found, gives the answer
abbrev pub invariant-loop-key : goal.invariant-loop-key
invariant-loop-key l = value_of_name (drop l.key-index l.pairs) l.fn.name l.found ≡ value_of_name l.fn.pairs l.fn.name None
