use Rattle.std.proofs.Common.{List, length, sym, ap, ◌∙◌, subst}
use Rattle.bit_arith.specs.declared.operand.Operand.{Operand}
use Rattle.bit_arith.specs.Built.{all_made, all_negated}
use Rattle.bit_arith.specs.Rows.{sub_into}
use Rattle.bit_arith.specs.Calls.{AllSafe, no_target}
use Rattle.bit_arith.proofs.Safe.{all_made_safe, all_negated_safe}
use Rattle.bit_arith.proofs.builder.Builder.sub_into.Goals as goal

pub into_by-requires-clause-carriers_safe : goal.into_by-requires-clause-carriers_safe
into_by-requires-clause-carriers_safe c =
    subst (λ (ps : List Operand). AllSafe (length c.args.self.now.draft.wires) no_target ps)
    (sym (c.as_slice-2.ensures.value ∙ c.in_ok-carriers.ensures ∙ ap all_negated (c.as_slice.ensures.value ∙ c.in_ok-bits.ensures)))
    (all_negated_safe _ no_target (all_made c.args.x.now) (all_made_safe c.args.self.now.draft c.args.x.now c.requires.targets))

pub returns-clause-ok : goal.returns-clause-ok
unfolding sub_into
returns-clause-ok c = rw (c.as_slice-2.ensures.value, c.in_ok-carriers.ensures, c.as_slice.ensures.value, c.in_ok-bits.ensures) at c.into_by.ensures.ok

pub returns-clause-refused : goal.returns-clause-refused
unfolding sub_into
returns-clause-refused c = rw (c.as_slice-2.ensures.value, c.in_ok-carriers.ensures, c.as_slice.ensures.value, c.in_ok-bits.ensures) at c.into_by.ensures.refused
