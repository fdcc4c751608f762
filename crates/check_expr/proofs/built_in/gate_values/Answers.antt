use Rattle.std.proofs.Common.{subst, sym, arith, IfOk, IfErr}
use Rattle.check_expr.specs.Expression.{gate_values}
use Rattle.check_scope.specs.Steps.{Reads, Stops}
use Rattle.check_expr.proofs.Called.{lone}
use Rattle.check_expr.proofs.built_in.gate_values.Goals as goal

pub returns-in-len1-clause-reads : goal.returns-in-len1-clause-reads
returns-in-len1-clause-reads c = λ met.
    subst (λ xs. IfOk c.gate_value.result (λ vs. Reads met (gate_values c.args.gate c.args.at c.args.need xs) c.args.cx.now vs c.gate_value.new.cx))
    (sym (lone c.args.values.now _ (omega arith))) (c.gate_value.ensures.reads met)

pub returns-in-len1-clause-stops : goal.returns-in-len1-clause-stops
returns-in-len1-clause-stops c = λ met.
    subst (λ xs. IfErr c.gate_value.result (λ f. Stops met (gate_values c.args.gate c.args.at c.args.need xs) c.args.cx.now f c.gate_value.new.cx))
    (sym (lone c.args.values.now _ (omega arith))) (c.gate_value.ensures.stops met)
