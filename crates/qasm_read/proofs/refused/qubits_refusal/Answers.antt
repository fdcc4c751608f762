use Rattle.std.proofs.Common.{◌∙◌, ap}
use Rattle.std.specs.Prelude.{Option}
use Rattle.qasm_read.specs.declared.refusal.Refusal.{Refusal}
use Rattle.qasm_read.specs.Earlier.{earlier}
use Rattle.qasm_read.specs.Refusals.{first_refusal, where_}
use Rattle.qasm_read.proofs.Twice.{one_more}
use Rattle.qasm_read.proofs.refused.qubits_refusal.Goals as goal

pub loop-operand-preserved : goal.loop-operand-preserved
loop-operand-preserved c =
    one_more c.args.registers.now c.args.operands.now c.loop-operand.first c.operand_refusal-here.result c.where_-repeated.result c.earlier-first.result
    c.bit_named.result c.in_ok-is_repeated.is_repeated c.loop-operand.seen c.see.new.seen c.loop-operand.operand-index _ c.loop-operand-test.true
    c.bit_named.ensures c.in_ok-is_repeated.ensures c.operand_refusal-here.ensures
    (c.where_-repeated.ensures ∙ ap (λ (f : Refusal). first_refusal (where_ c.in_ok-is_repeated.is_repeated f)) c.bad.ensures)
    (c.earlier-first.ensures ∙ ap (λ (r : Option Refusal). earlier r c.where_-repeated.result) c.earlier.ensures) c.loop-operand.invariant
