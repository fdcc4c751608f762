use Rattle.check_scope.proofs.Sequence.{reads_bind, reads_back}
use Rattle.check_expr.proofs.values.new_value.Goals as goal

pub returns-clause-reads : goal.returns-clause-reads
returns-clause-reads c = λ met. reads_bind met _ _ _ _ _ _ _ (c.in_ok-place.ensures.reads met) (reads_back met _ _)
