use Rattle.qasm_read.proofs.Lists.{read_sound}
use Rattle.qasm_read.proofs.text.read.Goals as goal

pub returns-clause-ins : goal.returns-clause-ins
returns-clause-ins c =
    let sound = read_sound c.args.text.now c.in_ok-circuit.circuit c.in_ok-circuit.ensures.circuit in
    (sound.ins.differ, sound.ins.below)

pub returns-clause-outs : goal.returns-clause-outs
returns-clause-outs c =
    let sound = read_sound c.args.text.now c.in_ok-circuit.circuit c.in_ok-circuit.ensures.circuit in
    (sound.outs.differ, sound.outs.below)
