use Rattle.check_expr.specs.Owners.{ProperFor}
use Rattle.check_fun.proofs.Blocks.{s_stmt}
use Rattle.check_fun.proofs.laws.one_owner_by_statement.Goals as goal

pub returns : goal.returns
returns c = λ st low sc. s_stmt st (ProperFor sc.before) low sc (λ k s h. h)
