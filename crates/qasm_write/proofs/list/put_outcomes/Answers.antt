use Rattle.std.proofs.Common.{arith}
use Rattle.silq_io.proofs.Added.{on_err_from}
use Rattle.qasm_write.specs.Written.{outcome_line}
use Rattle.qasm_write.proofs.Parts.{next_outcome, put_more, put_broke}
use Rattle.qasm_write.proofs.list.put_outcomes.Goals as goal

pub returns-in_err-put_pieces-clause-broken : goal.returns-in_err-put_pieces-clause-broken
returns-in_err-put_pieces-clause-broken g c =
    on_err_from c.from_residual.result
    (put_broke _ _ _ (outcome_line c.loop-outcome.outcome) _ _
    (next_outcome _ _ _ c.loop-outcome.outcome c.args.outcomes c.loop-outcome-test.true c.loop-outcome.invariant.part)
    (rw c.from.ensures at c.in_err-put_pieces.ensures.broken))

pub loop-outcome-preserved : goal.loop-outcome-preserved
loop-outcome-preserved g c = record {
  part = put_more _ _ _ (outcome_line c.loop-outcome.outcome) _ _
      (next_outcome _ _ _ c.loop-outcome.outcome c.args.outcomes c.loop-outcome-test.true c.loop-outcome.invariant.part)
      (rw c.from.ensures at c.in_ok-put_pieces.ensures.ok);
  counted = omega (arith, c.loop-outcome.invariant.counted, c.put_pieces.ensures.count);
}
