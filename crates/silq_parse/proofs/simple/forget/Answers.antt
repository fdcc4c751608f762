use Rattle.std.proofs.Common.{◌∷◌, refl, ◌∙◌, arith}
use Rattle.std.proofs.lemmas.Grind.{common_steps}
use Rattle.silq_grammar.specs.Outcome.{outcome}
use Rattle.silq_grammar.specs.Machine.{Expect, Closing, ForgetValue}
use Rattle.silq_grammar.specs.declared.token.Terminal.TheVariants as t
use Rattle.expr_parse.proofs.Exits.{stops_behind, behind}
use Rattle.silq_parse.proofs.SimpleReads.{forget_reads}
use Rattle.silq_parse.proofs.AddedStatements.{free, free_stmts}
use Rattle.silq_parse.proofs.simple.forget.Goals as goal

pub returns-in_err-name-clause-machine : goal.returns-in_err-name-clause-machine
unfolding outcome
returns-in_err-name-clause-machine c = λ k h.
    stops_behind _ _ _ _ _ _ c.from_residual-in_err-name.ensures.1 (refl) (c.in_err-name.ensures.machine (ForgetValue ∷ Closing t.RightParen ∷ Expect t.Semicolon ∷ k) (omega arith)) (grind (arith, common_steps))

pub returns-in_err-value-clause-machine : goal.returns-in_err-value-clause-machine
unfolding outcome
returns-in_err-value-clause-machine c = λ k h.
    stops_behind _ _ _ _ _ _ c.from_residual-in_err-value.ensures.1 ((c.in_ok-name.ensures.machine (ForgetValue ∷ Closing t.RightParen ∷ Expect t.Semicolon ∷ k) (omega arith))) (c.in_err-value.ensures.machine (Closing t.RightParen ∷ Expect t.Semicolon ∷ k) (omega arith)) (grind (arith, common_steps))

pub returns-in_err-rest-clause-machine : goal.returns-in_err-rest-clause-machine
unfolding outcome
returns-in_err-rest-clause-machine c = λ k h.
    stops_behind _ _ _ _ _ _ c.from_residual-in_err-rest.ensures.1 ((c.in_ok-name.ensures.machine (ForgetValue ∷ Closing t.RightParen ∷ Expect t.Semicolon ∷ k) (omega arith)) ∙ (c.in_ok-value.ensures.machine (Closing t.RightParen ∷ Expect t.Semicolon ∷ k) (omega arith))) (c.in_err-rest.ensures.closing (Expect t.Semicolon ∷ k) (omega arith)) (grind (arith, common_steps))

pub returns-in_err-rest-2-clause-machine : goal.returns-in_err-rest-2-clause-machine
unfolding outcome
returns-in_err-rest-2-clause-machine c = λ k h.
    stops_behind _ _ _ _ _ _ c.from_residual-in_err-rest-2.ensures.1 ((c.in_ok-name.ensures.machine (ForgetValue ∷ Closing t.RightParen ∷ Expect t.Semicolon ∷ k) (omega arith)) ∙ (c.in_ok-value.ensures.machine (Closing t.RightParen ∷ Expect t.Semicolon ∷ k) (omega arith)) ∙ (c.in_ok-rest.ensures.closing (Expect t.Semicolon ∷ k) (omega arith))) (c.in_err-rest-2.ensures.machine (k) (omega arith)) (grind (arith, common_steps))

pub returns-clause-machine : goal.returns-clause-machine
unfolding outcome
returns-clause-machine c = λ k h.
    behind ((c.in_ok-name.ensures.machine (ForgetValue ∷ Closing t.RightParen ∷ Expect t.Semicolon ∷ k) (omega arith)) ∙ (c.in_ok-value.ensures.machine (Closing t.RightParen ∷ Expect t.Semicolon ∷ k) (omega arith)) ∙ (c.in_ok-rest.ensures.closing (Expect t.Semicolon ∷ k) (omega arith)) ∙ (c.in_ok-rest-2.ensures.machine (k) (omega arith))) (grind (arith, common_steps))

pub returns-clause-reads : goal.returns-clause-reads
returns-clause-reads c = forget_reads c.args.at c.in-Fixed._open _ _ _ c.in_ok-name.ensures.token c.in_ok-value.ensures.reads c.in_ok-id.ensures.added c.in_ok-rest.ensures.token c.in_ok-rest-2.ensures.token (grind (arith, common_steps))

pub add_statement-requires-clause-exprs : goal.add_statement-requires-clause-exprs
add_statement-requires-clause-exprs c = free c.in_ok-value.ensures.arena c.in_ok-value.ensures.reads.grew

pub add_statement-requires-clause-stmts : goal.add_statement-requires-clause-stmts
add_statement-requires-clause-stmts c = free_stmts c.in_ok-value.ensures.arena c.in_ok-value.ensures.reads.grew
