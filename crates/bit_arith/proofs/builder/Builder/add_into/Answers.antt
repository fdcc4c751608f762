use Rattle.std.proofs.Common.{List, length, sym, ◌∙◌, subst}
use Rattle.bit_arith.specs.declared.operand.Operand.{Operand}
use Rattle.bit_arith.specs.Rows.{add_into}
use Rattle.bit_arith.specs.Calls.{AllSafe, no_target}
use Rattle.bit_arith.proofs.Safe.{all_made_safe}
use Rattle.bit_arith.proofs.builder.Builder.add_into.Goals as goal

pub into_by-requires-clause-carriers_safe : goal.into_by-requires-clause-carriers_safe
into_by-requires-clause-carriers_safe c =
    subst (λ (ps : List Operand). AllSafe (length c.args.self.now.draft.wires) no_target ps) (sym (c.as_slice.ensures.value ∙ c.in_ok-carriers.ensures))
    (all_made_safe c.args.self.now.draft c.args.x.now c.requires.targets)

pub returns-clause-ok : goal.returns-clause-ok
unfolding add_into
returns-clause-ok c = rw (c.as_slice.ensures.value, c.in_ok-carriers.ensures) at c.into_by.ensures.ok

pub returns-clause-refused : goal.returns-clause-refused
unfolding add_into
returns-clause-refused c = rw (c.as_slice.ensures.value, c.in_ok-carriers.ensures) at c.into_by.ensures.refused
