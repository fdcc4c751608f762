use Rattle.std.proofs.Common.{length}
use Rattle.bit_arith.specs.Calls.{no_target}
use Rattle.flat_steps.proofs.Joining.{swap_safe}
use Rattle.flat_steps.proofs.operators.compared.Goals as goal

pub less-requires-in-Gt-clause-safe : goal.less-requires-in-Gt-clause-safe
less-requires-in-Gt-clause-safe c = swap_safe (length c.args.builder.now.draft.wires) no_target c.args.builder.now.setting c.args.first.now c.args.second.now c.requires.safe

pub less-requires-in-Le-clause-safe : goal.less-requires-in-Le-clause-safe
less-requires-in-Le-clause-safe c = swap_safe (length c.args.builder.now.draft.wires) no_target c.args.builder.now.setting c.args.first.now c.args.second.now c.requires.safe
