use Rattle.std.proofs.lemmas.Result.{IfOk-weaker, IfErr-weaker}
use Rattle.check_expr.proofs.Scopes.{if_err}
use Rattle.check_scope.proofs.Sequence.{reads_then, stops_then, stops_after}
use Rattle.check_expr.proofs.built_in.flip_value.Goals as goal

pub returns-clause-reads : goal.returns-clause-reads
returns-clause-reads c = λ met s. IfOk-weaker c.alone.result _ _
    (λ vs r. reads_then met _ _ _ _ _ _ _ (c.in_ok-bit_rule.ensures.reads met s)
    (reads_then met _ _ _ _ _ _ _ (rw (c.is_linear.ensures, c.gate_origin-origin.ensures) at (c.in_ok-unnamed_rule.ensures.reads met s)) (rw c.gate_origin-origin.ensures at r)))
    (c.alone.ensures.reads met s)

pub returns-clause-stops : goal.returns-clause-stops
returns-clause-stops c = λ met s. IfErr-weaker c.alone.result _ _
    (λ vs r. stops_after met _ _ _ _ _ _ _ (c.in_ok-bit_rule.ensures.reads met s)
    (stops_after met _ _ _ _ _ _ _ (rw (c.is_linear.ensures, c.gate_origin-origin.ensures) at (c.in_ok-unnamed_rule.ensures.reads met s)) (rw c.gate_origin-origin.ensures at r)))
    (c.alone.ensures.stops met s)

pub returns-in_err-bit_rule-clause-stops : goal.returns-in_err-bit_rule-clause-stops
returns-in_err-bit_rule-clause-stops c = λ met s. if_err _ _ _ c.from_residual.ensures.1 (stops_then met _ _ _ _ _ (c.in_err-bit_rule.ensures.stops met s))

pub returns-in_err-unnamed_rule-clause-stops : goal.returns-in_err-unnamed_rule-clause-stops
returns-in_err-unnamed_rule-clause-stops c = λ met s. if_err _ _ _ c.from_residual-in_err-unnamed_rule.ensures.1
    (stops_after met _ _ _ _ _ _ _ (c.in_ok-bit_rule.ensures.reads met s) (stops_then met _ _ _ _ _ (rw (c.is_linear.ensures, c.gate_origin-origin.ensures) at (c.in_err-unnamed_rule.ensures.stops met s))))
