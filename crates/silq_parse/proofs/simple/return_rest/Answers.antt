use Rattle.std.proofs.Common.{refl, ◌∙◌, arith}
use Rattle.expr_parse.proofs.Exits.{stops}
use Rattle.silq_parse.proofs.SimpleReads.{return_reads}
use Rattle.silq_parse.proofs.AddedStatements.{free, free_stmts}
use Rattle.silq_parse.proofs.simple.return_rest.Goals as goal

pub returns-in_err-value-clause-machine : goal.returns-in_err-value-clause-machine
returns-in_err-value-clause-machine c = λ k h.
    stops _ _ _ _ _ c.from_residual.ensures.1 (refl) (c.in_err-value.ensures.machine (k) (omega arith))

pub returns-in_err-rest-clause-machine : goal.returns-in_err-rest-clause-machine
returns-in_err-rest-clause-machine c = λ k h.
    stops _ _ _ _ _ c.from_residual-in_err-rest.ensures.1 ((c.in_ok-value.ensures.machine (k) (omega arith))) (c.in_err-rest.ensures.machine (k) (omega arith))

pub returns-clause-machine : goal.returns-clause-machine
returns-clause-machine c = λ k h.
    (c.in_ok-value.ensures.machine (k) (omega arith)) ∙ (c.in_ok-rest.ensures.machine (k) (omega arith))

pub returns-clause-reads : goal.returns-clause-reads
returns-clause-reads c = return_reads c.args.at _ c.in_ok-value.ensures.reads c.in_ok-id.ensures.added c.in_ok-rest.ensures.token

pub add_statement-requires-clause-exprs : goal.add_statement-requires-clause-exprs
add_statement-requires-clause-exprs c = free c.in_ok-value.ensures.arena c.in_ok-value.ensures.reads.grew

pub add_statement-requires-clause-stmts : goal.add_statement-requires-clause-stmts
add_statement-requires-clause-stmts c = free_stmts c.in_ok-value.ensures.arena c.in_ok-value.ensures.reads.grew
