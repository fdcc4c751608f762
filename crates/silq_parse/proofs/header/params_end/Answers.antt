use Rattle.std.proofs.Common.{◌∷◌, refl, ◌∙◌, arith}
use Rattle.silq_grammar.specs.Machine.{Closing}
use Rattle.silq_grammar.specs.declared.token.Terminal.TheVariants as t
use Rattle.expr_parse.proofs.Exits.{stops_behind, behind}
use Rattle.silq_parse.proofs.HeaderReads.{param_part, no_params}
use Rattle.silq_parse.proofs.Opened.{params_end}
use Rattle.silq_parse.proofs.Skips.{params_there}
use Rattle.silq_parse.proofs.header.params_end.Goals as goal

pub returns-in-Some-clause-machine : goal.returns-in-Some-clause-machine
returns-in-Some-clause-machine c = λ k h. params_end k _ _ c.in-Some._end c.in-Some.ensures (omega arith)

pub returns-in-Some-clause-reads : goal.returns-in-Some-clause-reads
returns-in-Some-clause-reads c = no_params _ _ c.args.open_at c.in-Some._end c.new-params.ensures refl c.in-Some.ensures

pub returns-in_err-params-in-None-clause-machine : goal.returns-in_err-params-in-None-clause-machine
returns-in_err-params-in-None-clause-machine c = λ k h.
    stops_behind _ _ _ _ _ _ c.from_residual.ensures.1 (refl) (c.in_err-params-in-None.ensures.machine (Closing t.RightParen ∷ k) (omega arith)) (params_there k _ c.in-None.ensures)

pub returns-in_err-rest-in-None-clause-machine : goal.returns-in_err-rest-in-None-clause-machine
returns-in_err-rest-in-None-clause-machine c = λ k h.
    stops_behind _ _ _ _ _ _ c.from_residual-in_err-rest-in-None.ensures.1 ((c.in_ok-params-in-None.ensures.machine (Closing t.RightParen ∷ k) (omega arith))) (c.in_err-rest-in-None.ensures.closing (k) (omega arith)) (params_there k _ c.in-None.ensures)

pub returns-in_ok-rest-in-None-clause-machine : goal.returns-in_ok-rest-in-None-clause-machine
returns-in_ok-rest-in-None-clause-machine c = λ k h.
    behind ((c.in_ok-params-in-None.ensures.machine (Closing t.RightParen ∷ k) (omega arith)) ∙ (c.in_ok-rest-in-None.ensures.closing (k) (omega arith))) (params_there k _ c.in-None.ensures)

pub returns-in_ok-rest-in-None-clause-reads : goal.returns-in_ok-rest-in-None-clause-reads
returns-in_ok-rest-in-None-clause-reads c = param_part c.args.open_at _ refl c.in_ok-params-in-None.ensures.reads c.in_ok-rest-in-None.ensures.token
