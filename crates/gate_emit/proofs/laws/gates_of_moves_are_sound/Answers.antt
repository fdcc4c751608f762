use Rattle.gate_emit.proofs.Circuits.{gates_are_sound}
use Rattle.gate_emit.proofs.laws.gates_of_moves_are_sound.Goals as goal

pub returns : goal.returns
returns c = gates_are_sound
