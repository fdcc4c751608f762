use Rattle.bit_arith.proofs.Published.{turn_turns}
use Rattle.bit_arith.proofs.laws.turn_turns.Goals as goal

pub returns : goal.returns
returns c = turn_turns
