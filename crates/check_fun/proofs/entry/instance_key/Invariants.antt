use Rattle.std.proofs.Common.{◌≡◌, take}
use Rattle.check_fun.proofs.entry.instance_key.Given as goal

-- those so far
abbrev pub invariant-loop-value : goal.invariant-loop-value
invariant-loop-value l = l.list ≡ take l.value-index l.statics
