use Rattle.std.proofs.Common.{arith, ◌∙◌}
use Rattle.silq_io.proofs.Added.{on_err_from}
use Rattle.gate_core.specs.declared.gate.OneKind.TheVariants.{Id}
use Rattle.gate_core.specs.declared.gate.Gate.TheVariants.{One}
use Rattle.qasm_write.proofs.Parts.{put_more, put_broke}
use Rattle.plan_write.proofs.Lines.{next_line}
use Rattle.plan_write.proofs.gates.write_gates.Goals as goal

pub returns-in_err-gate-clause-broken : goal.returns-in_err-gate-clause-broken
returns-in_err-gate-clause-broken g c =
    let part = rw (next_line c.args.gates.now c.loop-next.next-index (One Id 0) c.loop-next-test.true) at c.loop-next.invariant.part in
    on_err_from c.from_residual.result (put_broke _ _ _ _ _ _ part c.in_err-gate.ensures.broken)

pub loop-next-preserved : goal.loop-next-preserved
loop-next-preserved g c =
    let part = rw (next_line c.args.gates.now c.loop-next.next-index (One Id 0) c.loop-next-test.true) at c.loop-next.invariant.part in
    record {
      same = c.gate.ensures.same_sink ∙ c.loop-next.invariant.same;
      part = put_more _ _ _ _ _ _ part c.in_ok-gate.ensures.ok;
      counted = omega (arith, c.loop-next.invariant.counted, c.gate.ensures.count);
    }
