use Rattle.check_scope.proofs.Sequence.{reads_bind, reads_back}
use Rattle.check_scope.proofs.part_uses.leave.Goals as goal

pub returns-in_ok-place-in-Consumed-clause-reads : goal.returns-in_ok-place-in-Consumed-clause-reads
returns-in_ok-place-in-Consumed-clause-reads c = λ met. rw c.in-Consumed.is (reads_bind met _ _ _ _ _ _ _ (c.in_ok-place-in-Consumed.ensures.reads met) (reads_back met _ _))
