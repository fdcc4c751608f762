use Rattle.qasm_read.proofs.Seen.{measured_before}
use Rattle.qasm_read.proofs.refused.is_remeasured.Goals as goal

pub returns-in-Some : goal.returns-in-Some
returns-in-Some c = rw c.in-Some.is (measured_before c.args.state.now.gates c.in-Some.bit c.is_measured.result c.is_measured.ensures)
