use Rattle.gate_core.proofs.Added.{IsKept-push}
use Rattle.gate_core.proofs.circuit.Circuit.push.Goals as goal

pub invariant_of-self-2 : goal.invariant_of-self-2
invariant_of-self-2 c =
    let accepted = rw (← c.self.view_is) at c.requires in
    let pushed = rw c.unwrap.ensures at c.push.ensures.items in
    rw (pushed, c.reserve.ensures.items)
    (IsKept-push c.self.inside.qubits c.self.inside.bits c.self.inside.gates.items c.args.gate c.self.inside.measured.keys c.add_measured.new.measured.keys c.self.invariant accepted.fits accepted.measures_new c.in_ok-add_measured.ensures.ok)
