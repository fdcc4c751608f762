use Rattle.std.proofs.Common.{drop}
use Rattle.silq_types.specs.Known.{Signatures}
use Rattle.check_expr.specs.Expression.{result_values}
use Rattle.check_expr.proofs.Called.{Going}
use Rattle.check_expr.proofs.own.result_values.Given as goal

-- the results that are left tell the rest
abbrev pub invariant-loop-returned : goal.invariant-loop-returned
invariant-loop-returned l = (met : Signatures) → Going met (result_values l.lifts l.values (drop l.returned-index l.results)) (result_values l.lifts l.values l.results) l.fn.cx l.cx l.given
