use Rattle.std.proofs.Common.{refl, arith}
use Rattle.std.proofs.lemmas.Grind.{common_steps}
use Rattle.expr_parse.proofs.Exits.{stops_behind, behind}
use Rattle.silq_parse.proofs.BlockReads.{part_of}
use Rattle.silq_parse.proofs.Opened.{params_open}
use Rattle.silq_parse.proofs.header.param_part.Goals as goal

pub returns-in_err-params-clause-machine : goal.returns-in_err-params-clause-machine
returns-in_err-params-clause-machine c = λ k h.
    stops_behind _ _ _ _ _ _ c.from_residual-in_err-params.ensures.1 (refl) (c.in_err-params.ensures.machine (k) (omega arith)) (params_open k _ _ c.in-Fixed.open (grind (arith, common_steps)) (omega arith))

pub returns-clause-machine : goal.returns-clause-machine
returns-clause-machine c = λ k h.
    behind ((c.in_ok-params.ensures.machine (k) (omega arith))) (params_open k _ _ c.in-Fixed.open (grind (arith, common_steps)) (omega arith))

pub returns-clause-reads : goal.returns-clause-reads
returns-clause-reads c = part_of c.in_ok-params.ensures.reads (grind (arith, common_steps))
