use Rattle.std.proofs.Common.{◌≡◌, drop}
use Rattle.check_fun.specs.Program.{has_negative as one_negative}
use Rattle.check_fun.proofs.entry.has_negative.Given as goal

-- the rest tells
abbrev pub invariant-loop-value : goal.invariant-loop-value
invariant-loop-value l = one_negative l.values ≡ one_negative (drop l.value-index l.values)
