use Rattle.std.proofs.Common.{length}
use Rattle.bit_arith.specs.Rows.{sum}
use Rattle.bit_arith.specs.Calls.{no_target}
use Rattle.bit_arith.proofs.Safe.{front_safe}
use Rattle.bit_arith.proofs.builder.Builder.sum.Goals as goal

pub sum_by-requires-clause-safe : goal.sum_by-requires-clause-safe
sum_by-requires-clause-safe c =
    front_safe (length c.args.self.now.draft.wires) no_target c.args.self.now.setting c.args.a.now c.args.a.now c.args.b.now (λ s. s) c.requires.safe

pub returns-clause-answer : goal.returns-clause-answer
unfolding sum
returns-clause-answer c = c.sum_by.ensures.answer

pub returns-clause-ok : goal.returns-clause-ok
unfolding sum
returns-clause-ok c = c.sum_by.ensures.ok

pub returns-clause-refused : goal.returns-clause-refused
unfolding sum
returns-clause-refused c = c.sum_by.ensures.refused
