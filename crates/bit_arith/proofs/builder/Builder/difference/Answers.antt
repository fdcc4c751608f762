use Rattle.std.proofs.Common.{List, length, sym, ◌∙◌, subst}
use Rattle.bit_arith.specs.declared.operand.Operand.{Operand}
use Rattle.bit_arith.specs.Rows.{difference}
use Rattle.bit_arith.specs.Calls.{AllSafe, no_target}
use Rattle.bit_arith.proofs.Safe.{front_safe, all_negated_safe}
use Rattle.bit_arith.proofs.builder.Builder.difference.Goals as goal

pub sum_by-requires-clause-safe : goal.sum_by-requires-clause-safe
sum_by-requires-clause-safe c =
    front_safe (length c.args.self.now.draft.wires) no_target c.args.self.now.setting c.as_slice.result.now c.args.a.now c.args.b.now
    (λ s. subst (λ (ps : List Operand). AllSafe (length c.args.self.now.draft.wires) no_target ps) (sym (c.as_slice.ensures.value ∙ c.in_ok-carriers.ensures)) (all_negated_safe _ no_target c.args.a.now s))
    c.requires.safe

pub returns-clause-answer : goal.returns-clause-answer
unfolding difference
returns-clause-answer c = c.sum_by.ensures.answer

pub returns-clause-ok : goal.returns-clause-ok
unfolding difference
returns-clause-ok c = rw (c.as_slice.ensures.value, c.in_ok-carriers.ensures) at c.sum_by.ensures.ok

pub returns-clause-refused : goal.returns-clause-refused
unfolding difference
returns-clause-refused c = rw (c.as_slice.ensures.value, c.in_ok-carriers.ensures) at c.sum_by.ensures.refused
