use Rattle.std.proofs.Common.{◌∷◌, refl, ◌∙◌, arith}
use Rattle.std.proofs.lemmas.Grind.{common_steps}
use Rattle.silq_grammar.specs.Outcome.{outcome}
use Rattle.silq_grammar.specs.Machine.{Expect, Closing, an_expr}
use Rattle.silq_grammar.specs.declared.token.Terminal.TheVariants as t
use Rattle.expr_parse.proofs.Exits.{stops_behind, behind}
use Rattle.silq_parse.proofs.BlockReads.{between_reads}
use Rattle.silq_parse.proofs.Opened.{bounds_open}
use Rattle.silq_parse.proofs.block.bounds.Goals as goal

pub returns-in_err-low-clause-machine : goal.returns-in_err-low-clause-machine
unfolding outcome
returns-in_err-low-clause-machine c = λ k h.
    stops_behind _ _ _ _ _ _ c.from_residual-in_err-low.ensures.1 (refl) (c.in_err-low.ensures.machine (Expect t.Dots ∷ an_expr (Closing t.RightParen ∷ k)) (omega arith)) (bounds_open k _ _ c.in-Fixed._open (grind (arith, common_steps)) (omega arith))

pub returns-in_err-rest-clause-machine : goal.returns-in_err-rest-clause-machine
unfolding outcome
returns-in_err-rest-clause-machine c = λ k h.
    stops_behind _ _ _ _ _ _ c.from_residual-in_err-rest.ensures.1 ((c.in_ok-low.ensures.machine (Expect t.Dots ∷ an_expr (Closing t.RightParen ∷ k)) (omega arith))) (c.in_err-rest.ensures.machine (an_expr (Closing t.RightParen ∷ k)) (omega arith)) (bounds_open k _ _ c.in-Fixed._open (grind (arith, common_steps)) (omega arith))

pub returns-in_err-high-clause-machine : goal.returns-in_err-high-clause-machine
unfolding outcome
returns-in_err-high-clause-machine c = λ k h.
    stops_behind _ _ _ _ _ _ c.from_residual-in_err-high.ensures.1 ((c.in_ok-low.ensures.machine (Expect t.Dots ∷ an_expr (Closing t.RightParen ∷ k)) (omega arith)) ∙ (c.in_ok-rest.ensures.machine (an_expr (Closing t.RightParen ∷ k)) (omega arith))) (c.in_err-high.ensures.machine (Closing t.RightParen ∷ k) (omega arith)) (bounds_open k _ _ c.in-Fixed._open (grind (arith, common_steps)) (omega arith))

pub returns-in_err-rest-2-clause-machine : goal.returns-in_err-rest-2-clause-machine
unfolding outcome
returns-in_err-rest-2-clause-machine c = λ k h.
    stops_behind _ _ _ _ _ _ c.from_residual-in_err-rest-2.ensures.1 ((c.in_ok-low.ensures.machine (Expect t.Dots ∷ an_expr (Closing t.RightParen ∷ k)) (omega arith)) ∙ (c.in_ok-rest.ensures.machine (an_expr (Closing t.RightParen ∷ k)) (omega arith)) ∙ (c.in_ok-high.ensures.machine (Closing t.RightParen ∷ k) (omega arith))) (c.in_err-rest-2.ensures.closing (k) (omega arith)) (bounds_open k _ _ c.in-Fixed._open (grind (arith, common_steps)) (omega arith))

pub returns-clause-machine : goal.returns-clause-machine
unfolding outcome
returns-clause-machine c = λ k h.
    behind ((c.in_ok-low.ensures.machine (Expect t.Dots ∷ an_expr (Closing t.RightParen ∷ k)) (omega arith)) ∙ (c.in_ok-rest.ensures.machine (an_expr (Closing t.RightParen ∷ k)) (omega arith)) ∙ (c.in_ok-high.ensures.machine (Closing t.RightParen ∷ k) (omega arith)) ∙ (c.in_ok-rest-2.ensures.closing (k) (omega arith))) (bounds_open k _ _ c.in-Fixed._open (grind (arith, common_steps)) (omega arith))

pub returns-clause-reads : goal.returns-clause-reads
returns-clause-reads c = between_reads c.in-Fixed._open _ _ (grind (arith, common_steps)) c.in_ok-low.ensures.reads c.in_ok-rest.ensures.token c.in_ok-high.ensures.reads c.in_ok-rest-2.ensures.token
