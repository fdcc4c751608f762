use Rattle.std.proofs.Common.{drop}
use Rattle.check_scope.specs.State.{State}
use Rattle.check_fun.specs.Statement.{none_left as none_left_of}
use Rattle.check_scope.specs.Walk.{Checker, Counts}
use Rattle.check_fun.proofs.BlockSteps.{Ahead}
use Rattle.check_fun.proofs.ends.none_left.Given as goal

abbrev pub invariant-loop-var : goal.invariant-loop-var
invariant-loop-var l = (check : Checker) (s : State) (c : Counts) → Ahead check (none_left_of (drop l.var-index l.vars) l.at) (none_left_of l.vars l.at) s c s c
