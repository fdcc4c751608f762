use Rattle.std.proofs.Common.{drop}
use Rattle.check_scope.specs.State.{State}
use Rattle.check_fun.specs.Statement.{none_changed as none_changed_of}
use Rattle.check_scope.specs.Walk.{Checker, Counts}
use Rattle.check_fun.proofs.BlockSteps.{Ahead}
use Rattle.check_fun.proofs.branch.none_changed.Given as goal

abbrev pub invariant-loop-i : goal.invariant-loop-i
invariant-loop-i l = (check : Checker) (s : State) (c : Counts) → Ahead check (none_changed_of (drop l.i l.before) (drop l.i l.after) l.at) (none_changed_of l.before l.after l.at) s c s c
