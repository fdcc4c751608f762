use Rattle.std.proofs.Common.{refl, arith}
use Rattle.std.proofs.lemmas.Grind.{common_steps}
use Rattle.expr_parse.proofs.Exits.{stops_behind, behind}
use Rattle.silq_parse.proofs.HeaderReads.{result_part, no_result}
use Rattle.silq_parse.proofs.Opened.{results_open}
use Rattle.silq_parse.proofs.header.result_part.Goals as goal

pub returns-in_err-types-in-Fixed-clause-machine : goal.returns-in_err-types-in-Fixed-clause-machine
returns-in_err-types-in-Fixed-clause-machine c = λ k h.
    stops_behind _ _ _ _ _ _ c.from_residual.ensures.1 (refl) (c.in_err-types-in-Fixed.ensures.machine (k) (omega arith)) (results_open k _ _ c.in-Fixed._colon (grind (arith, common_steps)) (omega arith))

pub returns-in_ok-types-in-Fixed-clause-machine : goal.returns-in_ok-types-in-Fixed-clause-machine
returns-in_ok-types-in-Fixed-clause-machine c = λ k h.
    behind ((c.in_ok-types-in-Fixed.ensures.machine (k) (omega arith))) (results_open k _ _ c.in-Fixed._colon (grind (arith, common_steps)) (omega arith))

pub returns-in_ok-types-in-Fixed-clause-reads : goal.returns-in_ok-types-in-Fixed-clause-reads
returns-in_ok-types-in-Fixed-clause-reads c = result_part c.in-Fixed._colon (grind (arith, common_steps)) c.in_ok-types-in-Fixed.ensures.reads

pub returns-in_default-clause-reads : goal.returns-in_default-clause-reads
returns-in_default-clause-reads c = no_result _ _ _ c.new-types.ensures
