use Rattle.std.proofs.Common.{◌∷◌, refl, ◌∙◌, arith}
use Rattle.std.proofs.lemmas.Grind.{common_steps}
use Rattle.silq_grammar.specs.Machine.{Closing}
use Rattle.silq_grammar.specs.declared.token.Terminal.TheVariants as t
use Rattle.expr_parse.proofs.Exits.{stops_behind, behind}
use Rattle.silq_parse.proofs.HeaderReads.{static_part, no_statics}
use Rattle.silq_parse.proofs.Opened.{statics_open}
use Rattle.silq_parse.proofs.header.static_part.Goals as goal

pub returns-in_err-names-in-Fixed-clause-machine : goal.returns-in_err-names-in-Fixed-clause-machine
returns-in_err-names-in-Fixed-clause-machine c = λ k h.
    stops_behind _ _ _ _ _ _ c.from_residual-in_err-names-in-Fixed.ensures.1 (refl) (c.in_err-names-in-Fixed.ensures.machine (Closing t.RightBracket ∷ k) (omega arith)) (statics_open k _ _ c.in-Fixed._open (grind (arith, common_steps)) (omega arith))

pub returns-in_err-rest-in-Fixed-clause-machine : goal.returns-in_err-rest-in-Fixed-clause-machine
returns-in_err-rest-in-Fixed-clause-machine c = λ k h.
    stops_behind _ _ _ _ _ _ c.from_residual-in_err-rest-in-Fixed.ensures.1 ((c.in_ok-names-in-Fixed.ensures.machine (Closing t.RightBracket ∷ k) (omega arith))) (c.in_err-rest-in-Fixed.ensures.closing (k) (omega arith)) (statics_open k _ _ c.in-Fixed._open (grind (arith, common_steps)) (omega arith))

pub returns-in_ok-rest-in-Fixed-clause-machine : goal.returns-in_ok-rest-in-Fixed-clause-machine
returns-in_ok-rest-in-Fixed-clause-machine c = λ k h.
    behind ((c.in_ok-names-in-Fixed.ensures.machine (Closing t.RightBracket ∷ k) (omega arith)) ∙ (c.in_ok-rest-in-Fixed.ensures.closing (k) (omega arith))) (statics_open k _ _ c.in-Fixed._open (grind (arith, common_steps)) (omega arith))

pub returns-in_ok-rest-in-Fixed-clause-reads : goal.returns-in_ok-rest-in-Fixed-clause-reads
returns-in_ok-rest-in-Fixed-clause-reads c = static_part c.in-Fixed._open _ (grind (arith, common_steps)) c.in_ok-names-in-Fixed.ensures.reads c.in_ok-rest-in-Fixed.ensures.token

pub returns-in_default-clause-reads : goal.returns-in_default-clause-reads
returns-in_default-clause-reads c = no_statics _ c.new-names.ensures
