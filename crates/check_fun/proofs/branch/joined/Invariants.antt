use Rattle.std.proofs.Common.{◌≡◌, ◌++◌, drop}
use Rattle.check_fun.specs.Statement.{joined as joined_of}
use Rattle.check_fun.proofs.branch.joined.Given as goal

abbrev pub invariant-loop-i : goal.invariant-loop-i
invariant-loop-i l = l.vars.items ++ joined_of (drop l.i l.one) (drop l.i l.other) ≡ joined_of l.one l.other
