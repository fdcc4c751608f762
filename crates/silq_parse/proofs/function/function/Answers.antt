use Rattle.std.proofs.Common.{◌∷◌, refl, ◌∙◌, arith}
use Rattle.silq_grammar.specs.Machine.{StaticPart, ParamPart, MarkPart, ResultPart, ABlock}
use Rattle.expr_parse.proofs.Exits.{stops}
use Rattle.silq_parse.proofs.FunctionReads.{function_free, function_reads}
use Rattle.silq_parse.proofs.function.function.Goals as goal

pub returns-in_err-name-clause-machine : goal.returns-in_err-name-clause-machine
returns-in_err-name-clause-machine c = λ k h.
    stops _ _ _ _ _ c.from_residual.ensures.1 (refl) (c.in_err-name.ensures.machine (StaticPart ∷ ParamPart ∷ MarkPart ∷ ResultPart ∷ ABlock ∷ k) (omega arith))

pub returns-in_err-statics-clause-machine : goal.returns-in_err-statics-clause-machine
returns-in_err-statics-clause-machine c = λ k h.
    stops _ _ _ _ _ c.from_residual-in_err-statics.ensures.1 ((c.in_ok-name.ensures.machine (StaticPart ∷ ParamPart ∷ MarkPart ∷ ResultPart ∷ ABlock ∷ k) (omega arith))) (c.in_err-statics.ensures.machine (ParamPart ∷ MarkPart ∷ ResultPart ∷ ABlock ∷ k) (omega arith))

pub returns-in_err-params-clause-machine : goal.returns-in_err-params-clause-machine
returns-in_err-params-clause-machine c = λ k h.
    stops _ _ _ _ _ c.from_residual-in_err-params.ensures.1 ((c.in_ok-name.ensures.machine (StaticPart ∷ ParamPart ∷ MarkPart ∷ ResultPart ∷ ABlock ∷ k) (omega arith)) ∙ (c.in_ok-statics.ensures.machine (ParamPart ∷ MarkPart ∷ ResultPart ∷ ABlock ∷ k) (omega arith))) (c.in_err-params.ensures.machine (MarkPart ∷ ResultPart ∷ ABlock ∷ k) (omega arith))

pub returns-in_err-results-clause-machine : goal.returns-in_err-results-clause-machine
returns-in_err-results-clause-machine c = λ k h.
    stops _ _ _ _ _ c.from_residual-in_err-results.ensures.1 ((c.in_ok-name.ensures.machine (StaticPart ∷ ParamPart ∷ MarkPart ∷ ResultPart ∷ ABlock ∷ k) (omega arith)) ∙ (c.in_ok-statics.ensures.machine (ParamPart ∷ MarkPart ∷ ResultPart ∷ ABlock ∷ k) (omega arith)) ∙ (c.in_ok-params.ensures.machine (MarkPart ∷ ResultPart ∷ ABlock ∷ k) (omega arith)) ∙ (c.mark-mark.ensures.machine (ResultPart ∷ ABlock ∷ k) (omega arith))) (c.in_err-results.ensures.machine (ABlock ∷ k) (omega arith))

pub returns-in_err-body-clause-machine : goal.returns-in_err-body-clause-machine
returns-in_err-body-clause-machine c = λ k h.
    stops _ _ _ _ _ c.from_residual-in_err-body.ensures.1 ((c.in_ok-name.ensures.machine (StaticPart ∷ ParamPart ∷ MarkPart ∷ ResultPart ∷ ABlock ∷ k) (omega arith)) ∙ (c.in_ok-statics.ensures.machine (ParamPart ∷ MarkPart ∷ ResultPart ∷ ABlock ∷ k) (omega arith)) ∙ (c.in_ok-params.ensures.machine (MarkPart ∷ ResultPart ∷ ABlock ∷ k) (omega arith)) ∙ (c.mark-mark.ensures.machine (ResultPart ∷ ABlock ∷ k) (omega arith)) ∙ (c.in_ok-results.ensures.machine (ABlock ∷ k) (omega arith))) (c.in_err-body.ensures.machine (k) (omega arith))

pub returns-clause-machine : goal.returns-clause-machine
returns-clause-machine c = λ k h.
    (c.in_ok-name.ensures.machine (StaticPart ∷ ParamPart ∷ MarkPart ∷ ResultPart ∷ ABlock ∷ k) (omega arith)) ∙ (c.in_ok-statics.ensures.machine (ParamPart ∷ MarkPart ∷ ResultPart ∷ ABlock ∷ k) (omega arith)) ∙ (c.in_ok-params.ensures.machine (MarkPart ∷ ResultPart ∷ ABlock ∷ k) (omega arith)) ∙ (c.mark-mark.ensures.machine (ResultPart ∷ ABlock ∷ k) (omega arith)) ∙ (c.in_ok-results.ensures.machine (ABlock ∷ k) (omega arith)) ∙ (c.in_ok-body.ensures.machine (k) (omega arith))

pub returns-clause-reads : goal.returns-clause-reads
returns-clause-reads c =
    function_reads c.args.at _ c.in_ok-name.ensures.token c.in_ok-statics.ensures.reads c.in_ok-params.ensures.reads c.mark-mark.ensures.reads c.in_ok-results.ensures.reads c.in_ok-body.ensures.reads c.in_ok-id.ensures.added

pub add_function-requires-clause-exprs : goal.add_function-requires-clause-exprs
add_function-requires-clause-exprs c =
    (function_free c.in_ok-body.ensures.arena c.in_ok-params.ensures.reads.grew c.in_ok-results.ensures.reads.grew c.in_ok-body.ensures.reads.grew).0

pub add_function-requires-clause-stmts : goal.add_function-requires-clause-stmts
add_function-requires-clause-stmts c =
    (function_free c.in_ok-body.ensures.arena c.in_ok-params.ensures.reads.grew c.in_ok-results.ensures.reads.grew c.in_ok-body.ensures.reads.grew).1
