use Rattle.std.proofs.Common.{length}
use Rattle.flat_steps.proofs.Joining.{two_bits}
use Rattle.flat_steps.proofs.operators.by_two.Goals as goal

pub either-requires : goal.either-requires
either-requires c = record {
  safe = two_bits (length c.args.builder.now.draft.wires) c.args.builder.now.setting c.args.first.now c.args.second.now _ _ c.only_operand.ensures c.only_operand-in-Or.ensures c.requires.safe;
}

pub both-requires : goal.both-requires
both-requires c = record {
  safe = two_bits (length c.args.builder.now.draft.wires) c.args.builder.now.setting c.args.first.now c.args.second.now _ _ c.only_operand-in-And.ensures c.only_operand-in-And-2.ensures c.requires.safe;
}
