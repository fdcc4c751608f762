use Rattle.check_expr.specs.Owners.{ProperFor}
use Rattle.check_expr.proofs.Owners.{o_expr}
use Rattle.check_expr.proofs.laws.one_owner_by_expression.Goals as goal

pub returns : goal.returns
returns c = λ e low others sc need wants. o_expr (ProperFor sc.before) low e others sc (λ k s h. h) need wants
