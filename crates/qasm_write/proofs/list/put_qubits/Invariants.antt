use Rattle.std.proofs.Common.{◌≤◌, drop}
use Rattle.qasm_write.specs.Written.{qubit_texts}
use Rattle.qasm_write.proofs.Parts.{IsPartPut}
use Rattle.qasm_write.proofs.list.put_qubits.Given as goal

-- what comes behind is the qubits that are left
abbrev pub invariant-loop-qubit : goal.invariant-loop-qubit
invariant-loop-qubit g l =
    let told = g.S.Sink.put_so_far in
    let count = g.S.Sink.faults in
    record { part : IsPartPut (told l.fn.out) (told l.out) (qubit_texts (drop l.qubit-index l.qubits)) (qubit_texts l.qubits); counted : count l.fn.out ≤ count l.out }
