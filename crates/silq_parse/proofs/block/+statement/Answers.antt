use Rattle.std.proofs.Common.{◌∷◌, refl, ◌∙◌, arith}
use Rattle.std.proofs.lemmas.Grind.{common_steps}
use Rattle.silq_grammar.specs.Outcome.{outcome}
use Rattle.silq_grammar.specs.Machine.{Expect, Closing, Ends, ABlock, Statements, Bounds, ElseRest}
use Rattle.silq_grammar.specs.declared.token.Terminal.TheVariants as t
use Rattle.expr_parse.proofs.Exits.{stops, stops_behind, behind}
use Rattle.silq_parse.proofs.BlockReads.{no_items, next_statement, closed_block, part_of, stmt_of, else_block, else_choice, chosen, choice_free, choice_reads, loop_reads}
use Rattle.silq_parse.proofs.Opened.{else_choice_open, name_begins, spread_begins, forget_begins, phase_begins, choice_begins, loop_begins, return_begins}
use Rattle.silq_parse.proofs.AddedStatements.{free, free_stmts}
use Rattle.expr_parse.proofs.Growing.{grew_then}
use Rattle.expr_parse.proofs.Passed.{ends_passed}
use Rattle.silq_parse.proofs.block.+statement.Goals as goal

pub inner-returns-in_err-items-clause-machine : goal.inner-returns-in_err-items-clause-machine
inner-returns-in_err-items-clause-machine n c = λ k h.
    stops _ _ _ _ _ c.from_residual.ensures.1 (refl) (c.in_err-items.ensures.machine (Closing t.RightBrace ∷ k) (omega arith))

pub inner-returns-in_err-end-clause-machine : goal.inner-returns-in_err-end-clause-machine
inner-returns-in_err-end-clause-machine n c = λ k h.
    stops _ _ _ _ _ c.from_residual-in_err-end.ensures.1 ((c.in_ok-items.ensures.machine (Closing t.RightBrace ∷ k) (omega arith))) (c.in_err-end.ensures.closing (k) (omega arith))

pub inner-returns-clause-machine : goal.inner-returns-clause-machine
inner-returns-clause-machine n c = λ k h.
    (c.in_ok-items.ensures.machine (Closing t.RightBrace ∷ k) (omega arith)) ∙ (c.in_ok-end.ensures.closing (k) (omega arith))

pub inner-returns-clause-reads : goal.inner-returns-clause-reads
inner-returns-clause-reads n c = λ l. closed_block _ l c.in_ok-items.ensures.reads c.in_ok-end.ensures.token

pub choice-returns-in_err-cond-clause-machine : goal.choice-returns-in_err-cond-clause-machine
choice-returns-in_err-cond-clause-machine n c = λ k h.
    stops _ _ _ _ _ c.from_residual.ensures.1 (refl) (c.in_err-cond.ensures.machine (ABlock ∷ ElseRest ∷ k) (omega arith))

pub choice-returns-in_err-then-clause-machine : goal.choice-returns-in_err-then-clause-machine
choice-returns-in_err-then-clause-machine n c = λ k h.
    stops _ _ _ _ _ c.from_residual-in_err-then.ensures.1 ((c.in_ok-cond.ensures.machine (ABlock ∷ ElseRest ∷ k) (omega arith))) (c.in_err-then.ensures.machine (ElseRest ∷ k) (omega arith))

pub choice-returns-in_err-other-clause-machine : goal.choice-returns-in_err-other-clause-machine
choice-returns-in_err-other-clause-machine n c = λ k h.
    stops _ _ _ _ _ c.from_residual-in_err-other.ensures.1 ((c.in_ok-cond.ensures.machine (ABlock ∷ ElseRest ∷ k) (omega arith)) ∙ (c.in_ok-then.ensures.machine (ElseRest ∷ k) (omega arith))) (c.in_err-other.ensures.machine (k) (omega arith))

pub choice-returns-clause-machine : goal.choice-returns-clause-machine
choice-returns-clause-machine n c = λ k h.
    (c.in_ok-cond.ensures.machine (ABlock ∷ ElseRest ∷ k) (omega arith)) ∙ (c.in_ok-then.ensures.machine (ElseRest ∷ k) (omega arith)) ∙ (c.in_ok-other.ensures.machine (k) (omega arith))

pub choice-returns-clause-reads : goal.choice-returns-clause-reads
choice-returns-clause-reads n c = choice_reads c.args.at c.in_ok-cond.ensures.reads c.in_ok-then.ensures.reads c.in_ok-other.ensures.reads c.in_ok-id.ensures.added

pub choice-add_statement-requires-clause-exprs : goal.choice-add_statement-requires-clause-exprs
choice-add_statement-requires-clause-exprs n c = (choice_free c.in_ok-other.ensures.arena c.in_ok-cond.ensures.reads.grew c.in_ok-then.ensures.reads.grew c.in_ok-other.ensures.reads.grew).0

pub choice-add_statement-requires-clause-stmts : goal.choice-add_statement-requires-clause-stmts
choice-add_statement-requires-clause-stmts n c = (choice_free c.in_ok-other.ensures.arena c.in_ok-cond.ensures.reads.grew c.in_ok-then.ensures.reads.grew c.in_ok-other.ensures.reads.grew).1

pub loop_rest-returns-in_err-name-clause-machine : goal.loop_rest-returns-in_err-name-clause-machine
loop_rest-returns-in_err-name-clause-machine n c = λ k h.
    stops _ _ _ _ _ c.from_residual.ensures.1 (refl) (c.in_err-name.ensures.machine (Expect t.In ∷ Bounds ∷ ABlock ∷ k) (omega arith))

pub loop_rest-returns-in_err-rest-clause-machine : goal.loop_rest-returns-in_err-rest-clause-machine
loop_rest-returns-in_err-rest-clause-machine n c = λ k h.
    stops _ _ _ _ _ c.from_residual-in_err-rest.ensures.1 ((c.in_ok-name.ensures.machine (Expect t.In ∷ Bounds ∷ ABlock ∷ k) (omega arith))) (c.in_err-rest.ensures.machine (Bounds ∷ ABlock ∷ k) (omega arith))

pub loop_rest-returns-in_err-low-clause-machine : goal.loop_rest-returns-in_err-low-clause-machine
loop_rest-returns-in_err-low-clause-machine n c = λ k h.
    stops _ _ _ _ _ c.from_residual-in_err-low.ensures.1 ((c.in_ok-name.ensures.machine (Expect t.In ∷ Bounds ∷ ABlock ∷ k) (omega arith)) ∙ (c.in_ok-rest.ensures.machine (Bounds ∷ ABlock ∷ k) (omega arith))) (c.in_err-low.ensures.machine (ABlock ∷ k) (omega arith))

pub loop_rest-returns-in_err-body-clause-machine : goal.loop_rest-returns-in_err-body-clause-machine
loop_rest-returns-in_err-body-clause-machine n c = λ k h.
    stops _ _ _ _ _ c.from_residual-in_err-body.ensures.1 ((c.in_ok-name.ensures.machine (Expect t.In ∷ Bounds ∷ ABlock ∷ k) (omega arith)) ∙ (c.in_ok-rest.ensures.machine (Bounds ∷ ABlock ∷ k) (omega arith)) ∙ (c.in_ok-low.ensures.machine (ABlock ∷ k) (omega arith))) (c.in_err-body.ensures.machine (k) (omega arith))

pub loop_rest-returns-clause-machine : goal.loop_rest-returns-clause-machine
loop_rest-returns-clause-machine n c = λ k h.
    (c.in_ok-name.ensures.machine (Expect t.In ∷ Bounds ∷ ABlock ∷ k) (omega arith)) ∙ (c.in_ok-rest.ensures.machine (Bounds ∷ ABlock ∷ k) (omega arith)) ∙ (c.in_ok-low.ensures.machine (ABlock ∷ k) (omega arith)) ∙ (c.in_ok-body.ensures.machine (k) (omega arith))

pub loop_rest-returns-clause-reads : goal.loop_rest-returns-clause-reads
loop_rest-returns-clause-reads n c = loop_reads c.args.at _ _ c.in_ok-name.ensures.token c.in_ok-rest.ensures.token c.in_ok-low.ensures.reads c.in_ok-body.ensures.reads c.in_ok-id.ensures.added

pub loop_rest-add_statement-requires-clause-exprs : goal.loop_rest-add_statement-requires-clause-exprs
loop_rest-add_statement-requires-clause-exprs n c = free c.in_ok-body.ensures.arena (grew_then c.in_ok-low.ensures.reads.grew c.in_ok-body.ensures.reads.grew)

pub loop_rest-add_statement-requires-clause-stmts : goal.loop_rest-add_statement-requires-clause-stmts
loop_rest-add_statement-requires-clause-stmts n c = free_stmts c.in_ok-body.ensures.arena (grew_then c.in_ok-low.ensures.reads.grew c.in_ok-body.ensures.reads.grew)

pub statements-loop-items-init : goal.statements-loop-items-init
statements-loop-items-init n c = (c.requires.arena, (λ k h. refl), no_items _ _ _ c.new-items.ensures, omega arith)

pub statements-loop-items-preserved : goal.statements-loop-items-preserved
statements-loop-items-preserved n c = (
  c.in_ok-id.ensures.arena,
  (λ k h. c.loop-items.invariant.1 k h ∙ (rw c.in-Some.is at (c.in_ok-id.ensures.machine k h))),
  next_statement c.in_ok-push.ensures.ok c.loop-items.invariant.2 (rw c.in-Some.is at c.in_ok-id.ensures.reads),
  (let s = rw c.in-Some.is at c.in_ok-id.ensures.shorter in omega (arith, s, c.loop-items.invariant.3)),
)

pub else_body-returns-in_err-id-in-If-clause-machine : goal.else_body-returns-in_err-id-in-If-clause-machine
unfolding outcome
else_body-returns-in_err-id-in-If-clause-machine n c = λ k h.
    stops_behind _ _ _ _ _ _ c.from_residual-in_err-id-in-If.ensures.1 (refl) (c.in_err-id-in-If.ensures.machine (Ends ∷ k) (omega arith)) (else_choice_open k _ _ c.in-Fixed.at (grind (arith, common_steps)) (omega arith))

pub else_body-returns-in_ok-id-in-If-clause-machine : goal.else_body-returns-in_ok-id-in-If-clause-machine
unfolding outcome
else_body-returns-in_ok-id-in-If-clause-machine n c = λ k h.
    behind ((c.in_ok-id-in-If.ensures.machine (Ends ∷ k) (omega arith)) ∙ (ends_passed k _)) (else_choice_open k _ _ c.in-Fixed.at (grind (arith, common_steps)) (omega arith))

pub else_body-returns-in_ok-id-in-If-clause-reads : goal.else_body-returns-in_ok-id-in-If-clause-reads
else_body-returns-in_ok-id-in-If-clause-reads n c = else_choice c.args.at c.args.end (stmt_of c.in_ok-id-in-If.ensures.reads (grind (arith, common_steps)))

pub else_body-returns-in_ok-body-in-LeftBrace-clause-reads : goal.else_body-returns-in_ok-body-in-LeftBrace-clause-reads
else_body-returns-in_ok-body-in-LeftBrace-clause-reads n c = else_block c.args.at c.args.end (part_of (c.in_ok-body-in-LeftBrace.ensures.reads c.in-Fixed.at) (grind (arith, common_steps)))

pub statement-returns-in_err-p-in-Name-clause-machine : goal.statement-returns-in_err-p-in-Name-clause-machine
unfolding outcome
statement-returns-in_err-p-in-Name-clause-machine n c = λ k h.
    stops_behind _ _ _ _ _ _ c.from_residual.ensures.1 (refl) (c.in_err-p-in-Name.ensures.machine (Statements ∷ k) (omega arith)) (name_begins k _ _ c.in-Name.name c.in-Name.at (grind (arith, common_steps)) (omega arith))

pub statement-returns-in_ok-p-in-Name-clause-machine : goal.statement-returns-in_ok-p-in-Name-clause-machine
unfolding outcome
statement-returns-in_ok-p-in-Name-clause-machine n c = λ k h.
    behind ((c.in_ok-p-in-Name.ensures.machine (Statements ∷ k) (omega arith))) (name_begins k _ _ c.in-Name.name c.in-Name.at (grind (arith, common_steps)) (omega arith))

pub statement-returns-in_ok-p-in-Name-clause-reads : goal.statement-returns-in_ok-p-in-Name-clause-reads
statement-returns-in_ok-p-in-Name-clause-reads n c = stmt_of c.in_ok-p-in-Name.ensures.reads (grind (arith, common_steps))

pub statement-returns-in_err-p-in-LeftParen-clause-machine : goal.statement-returns-in_err-p-in-LeftParen-clause-machine
unfolding outcome
statement-returns-in_err-p-in-LeftParen-clause-machine n c = λ k h.
    stops_behind _ _ _ _ _ _ c.from_residual-in_err-p-in-LeftParen.ensures.1 (refl) (c.in_err-p-in-LeftParen.ensures.machine (Statements ∷ k) (omega arith)) (spread_begins k _ _ c.in-Fixed.at (grind (arith, common_steps)) (omega arith))

pub statement-returns-in_ok-p-in-LeftParen-clause-machine : goal.statement-returns-in_ok-p-in-LeftParen-clause-machine
unfolding outcome
statement-returns-in_ok-p-in-LeftParen-clause-machine n c = λ k h.
    behind ((c.in_ok-p-in-LeftParen.ensures.machine (Statements ∷ k) (omega arith))) (spread_begins k _ _ c.in-Fixed.at (grind (arith, common_steps)) (omega arith))

pub statement-returns-in_ok-p-in-LeftParen-clause-reads : goal.statement-returns-in_ok-p-in-LeftParen-clause-reads
statement-returns-in_ok-p-in-LeftParen-clause-reads n c = stmt_of c.in_ok-p-in-LeftParen.ensures.reads (grind (arith, common_steps))

pub statement-returns-in_err-p-in-Forget-clause-machine : goal.statement-returns-in_err-p-in-Forget-clause-machine
unfolding outcome
statement-returns-in_err-p-in-Forget-clause-machine n c = λ k h.
    stops_behind _ _ _ _ _ _ c.from_residual-in_err-p-in-Forget.ensures.1 (refl) (c.in_err-p-in-Forget.ensures.machine (Statements ∷ k) (omega arith)) (forget_begins k _ _ c.in-Fixed.at (grind (arith, common_steps)) (omega arith))

pub statement-returns-in_ok-p-in-Forget-clause-machine : goal.statement-returns-in_ok-p-in-Forget-clause-machine
unfolding outcome
statement-returns-in_ok-p-in-Forget-clause-machine n c = λ k h.
    behind ((c.in_ok-p-in-Forget.ensures.machine (Statements ∷ k) (omega arith))) (forget_begins k _ _ c.in-Fixed.at (grind (arith, common_steps)) (omega arith))

pub statement-returns-in_ok-p-in-Forget-clause-reads : goal.statement-returns-in_ok-p-in-Forget-clause-reads
statement-returns-in_ok-p-in-Forget-clause-reads n c = stmt_of c.in_ok-p-in-Forget.ensures.reads (grind (arith, common_steps))

pub statement-returns-in_err-p-in-Phase-clause-machine : goal.statement-returns-in_err-p-in-Phase-clause-machine
unfolding outcome
statement-returns-in_err-p-in-Phase-clause-machine n c = λ k h.
    stops_behind _ _ _ _ _ _ c.from_residual-in_err-p-in-Phase.ensures.1 (refl) (c.in_err-p-in-Phase.ensures.machine (Statements ∷ k) (omega arith)) (phase_begins k _ _ c.in-Fixed.at (grind (arith, common_steps)) (omega arith))

pub statement-returns-in_ok-p-in-Phase-clause-machine : goal.statement-returns-in_ok-p-in-Phase-clause-machine
unfolding outcome
statement-returns-in_ok-p-in-Phase-clause-machine n c = λ k h.
    behind ((c.in_ok-p-in-Phase.ensures.machine (Statements ∷ k) (omega arith))) (phase_begins k _ _ c.in-Fixed.at (grind (arith, common_steps)) (omega arith))

pub statement-returns-in_ok-p-in-Phase-clause-reads : goal.statement-returns-in_ok-p-in-Phase-clause-reads
statement-returns-in_ok-p-in-Phase-clause-reads n c = stmt_of c.in_ok-p-in-Phase.ensures.reads (grind (arith, common_steps))

pub statement-returns-in_err-p-in-If-clause-machine : goal.statement-returns-in_err-p-in-If-clause-machine
unfolding outcome
statement-returns-in_err-p-in-If-clause-machine n c = λ k h.
    stops_behind _ _ _ _ _ _ c.from_residual-in_err-p-in-If.ensures.1 (refl) (c.in_err-p-in-If.ensures.machine (Statements ∷ k) (omega arith)) (choice_begins k _ _ c.in-Fixed.at (grind (arith, common_steps)) (omega arith))

pub statement-returns-in_ok-p-in-If-clause-machine : goal.statement-returns-in_ok-p-in-If-clause-machine
unfolding outcome
statement-returns-in_ok-p-in-If-clause-machine n c = λ k h.
    behind ((c.in_ok-p-in-If.ensures.machine (Statements ∷ k) (omega arith))) (choice_begins k _ _ c.in-Fixed.at (grind (arith, common_steps)) (omega arith))

pub statement-returns-in_ok-p-in-If-clause-reads : goal.statement-returns-in_ok-p-in-If-clause-reads
statement-returns-in_ok-p-in-If-clause-reads n c = stmt_of (chosen c.in_ok-p-in-If.ensures.reads) (grind (arith, common_steps))

pub statement-returns-in_err-p-in-For-clause-machine : goal.statement-returns-in_err-p-in-For-clause-machine
unfolding outcome
statement-returns-in_err-p-in-For-clause-machine n c = λ k h.
    stops_behind _ _ _ _ _ _ c.from_residual-in_err-p-in-For.ensures.1 (refl) (c.in_err-p-in-For.ensures.machine (Statements ∷ k) (omega arith)) (loop_begins k _ _ c.in-Fixed.at (grind (arith, common_steps)) (omega arith))

pub statement-returns-in_ok-p-in-For-clause-machine : goal.statement-returns-in_ok-p-in-For-clause-machine
unfolding outcome
statement-returns-in_ok-p-in-For-clause-machine n c = λ k h.
    behind ((c.in_ok-p-in-For.ensures.machine (Statements ∷ k) (omega arith))) (loop_begins k _ _ c.in-Fixed.at (grind (arith, common_steps)) (omega arith))

pub statement-returns-in_ok-p-in-For-clause-reads : goal.statement-returns-in_ok-p-in-For-clause-reads
statement-returns-in_ok-p-in-For-clause-reads n c = stmt_of c.in_ok-p-in-For.ensures.reads (grind (arith, common_steps))

pub statement-returns-in_err-p-in-Return-clause-machine : goal.statement-returns-in_err-p-in-Return-clause-machine
unfolding outcome
statement-returns-in_err-p-in-Return-clause-machine n c = λ k h.
    stops_behind _ _ _ _ _ _ c.from_residual-in_err-p-in-Return.ensures.1 (refl) (c.in_err-p-in-Return.ensures.machine (Statements ∷ k) (omega arith)) (return_begins k _ _ c.in-Fixed.at (grind (arith, common_steps)) (omega arith))

pub statement-returns-in_ok-p-in-Return-clause-machine : goal.statement-returns-in_ok-p-in-Return-clause-machine
unfolding outcome
statement-returns-in_ok-p-in-Return-clause-machine n c = λ k h.
    behind ((c.in_ok-p-in-Return.ensures.machine (Statements ∷ k) (omega arith))) (return_begins k _ _ c.in-Fixed.at (grind (arith, common_steps)) (omega arith))

pub statement-returns-in_ok-p-in-Return-clause-reads : goal.statement-returns-in_ok-p-in-Return-clause-reads
statement-returns-in_ok-p-in-Return-clause-reads n c = stmt_of c.in_ok-p-in-Return.ensures.reads (grind (arith, common_steps))
