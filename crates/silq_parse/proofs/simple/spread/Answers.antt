use Rattle.std.proofs.Common.{◌∷◌, refl, ◌∙◌, arith}
use Rattle.silq_grammar.specs.Machine.{Expect, value}
use Rattle.silq_grammar.specs.declared.token.Terminal.TheVariants as t
use Rattle.expr_parse.proofs.Exits.{stops}
use Rattle.silq_parse.proofs.SimpleReads.{spread_reads}
use Rattle.silq_parse.proofs.AddedStatements.{free, free_stmts}
use Rattle.silq_parse.proofs.simple.spread.Goals as goal

pub returns-in_err-names-clause-machine : goal.returns-in_err-names-clause-machine
returns-in_err-names-clause-machine c = λ k h.
    stops _ _ _ _ _ c.from_residual.ensures.1 (refl) (c.in_err-names.ensures.machine (Expect t.Becomes ∷ value k) (omega arith))

pub returns-in_err-rest-clause-machine : goal.returns-in_err-rest-clause-machine
returns-in_err-rest-clause-machine c = λ k h.
    stops _ _ _ _ _ c.from_residual-in_err-rest.ensures.1 ((c.in_ok-names.ensures.machine (Expect t.Becomes ∷ value k) (omega arith))) (c.in_err-rest.ensures.machine (value k) (omega arith))

pub returns-in_err-value-clause-machine : goal.returns-in_err-value-clause-machine
returns-in_err-value-clause-machine c = λ k h.
    stops _ _ _ _ _ c.from_residual-in_err-value.ensures.1 ((c.in_ok-names.ensures.machine (Expect t.Becomes ∷ value k) (omega arith)) ∙ (c.in_ok-rest.ensures.machine (value k) (omega arith))) (c.in_err-value.ensures.machine (Expect t.Semicolon ∷ k) (omega arith))

pub returns-in_err-rest-2-clause-machine : goal.returns-in_err-rest-2-clause-machine
returns-in_err-rest-2-clause-machine c = λ k h.
    stops _ _ _ _ _ c.from_residual-in_err-rest-2.ensures.1 ((c.in_ok-names.ensures.machine (Expect t.Becomes ∷ value k) (omega arith)) ∙ (c.in_ok-rest.ensures.machine (value k) (omega arith)) ∙ (c.in_ok-value.ensures.machine (Expect t.Semicolon ∷ k) (omega arith))) (c.in_err-rest-2.ensures.machine (k) (omega arith))

pub returns-clause-machine : goal.returns-clause-machine
returns-clause-machine c = λ k h.
    (c.in_ok-names.ensures.machine (Expect t.Becomes ∷ value k) (omega arith)) ∙ (c.in_ok-rest.ensures.machine (value k) (omega arith)) ∙ (c.in_ok-value.ensures.machine (Expect t.Semicolon ∷ k) (omega arith)) ∙ (c.in_ok-rest-2.ensures.machine (k) (omega arith))

pub returns-clause-reads : goal.returns-clause-reads
returns-clause-reads c = spread_reads c.args.at _ _ c.in_ok-names.ensures.reads c.in_ok-rest.ensures.token c.in_ok-value.ensures.reads c.in_ok-rest-2.ensures.token c.in_ok-id.ensures.added

pub add_statement-requires-clause-exprs : goal.add_statement-requires-clause-exprs
add_statement-requires-clause-exprs c = free c.in_ok-value.ensures.arena c.in_ok-value.ensures.reads.grew

pub add_statement-requires-clause-stmts : goal.add_statement-requires-clause-stmts
add_statement-requires-clause-stmts c = free_stmts c.in_ok-value.ensures.arena c.in_ok-value.ensures.reads.grew
