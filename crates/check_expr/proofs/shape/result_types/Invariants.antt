use Rattle.std.proofs.Common.{◌≡◌, ◌++◌, drop}
use Rattle.check_expr.specs.Shapes.{result_types}
use Rattle.check_expr.proofs.shape.result_types.Given as goal

-- the types of the results that are left stand behind
abbrev pub invariant-loop-returned : goal.invariant-loop-returned
invariant-loop-returned l = l.types ++ result_types (drop l.returned-index l.results) ≡ result_types l.results
