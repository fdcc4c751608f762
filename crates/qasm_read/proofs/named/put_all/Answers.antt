use Rattle.std.proofs.Common.{get_or, refl, arith}
use Rattle.gate_core.proofs.Added.{AddsAll-insert}
use Rattle.qasm_read.proofs.News.{AddsAll-next}
use Rattle.qasm_read.proofs.named.put_all.Goals as goal

pub loop-qubit-preserved : goal.loop-qubit-preserved
loop-qubit-preserved c =
    let q = get_or c.args.qubits.now c.loop-qubit.qubit-index 0 in
    AddsAll-next c.args.set.now.keys c.loop-qubit.set.keys c.insert.new.self.keys c.args.qubits.now c.loop-qubit.qubit-index 0 q (omega arith) refl
    c.loop-qubit.invariant
    (AddsAll-insert c.loop-qubit.set c.insert.new.self q c.in_ok-insert.ensures.updates)
