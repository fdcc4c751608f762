use Rattle.std.proofs.Common.{◌∷◌, refl, ◌∙◌, arith}
use Rattle.std.proofs.lemmas.Grind.{common_steps}
use Rattle.silq_grammar.specs.Machine.{Expect, AType}
use Rattle.silq_grammar.specs.declared.token.Terminal.TheVariants as t
use Rattle.expr_parse.proofs.Exits.{stops_behind, behind}
use Rattle.silq_parse.proofs.HeaderReads.{moved_reads, held_reads}
use Rattle.silq_parse.proofs.Opened.{moved_open, held_open}
use Rattle.silq_parse.proofs.header.param.Goals as goal

pub returns-in_err-param-in-Name-clause-machine : goal.returns-in_err-param-in-Name-clause-machine
returns-in_err-param-in-Name-clause-machine c = λ k h.
    stops_behind _ _ _ _ _ _ c.from_residual.ensures.1 (refl) (c.in_err-param-in-Name.ensures.machine (k) (omega arith)) (moved_open k _ _ c.in-Name.id c.in-Name.at (grind (arith, common_steps)) (omega arith))

pub returns-in_ok-param-in-Name-clause-machine : goal.returns-in_ok-param-in-Name-clause-machine
returns-in_ok-param-in-Name-clause-machine c = λ k h.
    behind ((c.in_ok-param-in-Name.ensures.machine (k) (omega arith))) (moved_open k _ _ c.in-Name.id c.in-Name.at (grind (arith, common_steps)) (omega arith))

pub returns-in_err-id-in-Fixed-clause-machine : goal.returns-in_err-id-in-Fixed-clause-machine
returns-in_err-id-in-Fixed-clause-machine c = λ k h.
    stops_behind _ _ _ _ _ _ c.from_residual-in_err-id-in-Fixed.ensures.1 (refl) (c.in_err-id-in-Fixed.ensures.machine (Expect t.Colon ∷ AType ∷ k) (omega arith)) (held_open k _ _ c.in-Fixed.at (grind (arith, common_steps)) (omega arith))

pub returns-in_err-param-in-Fixed-clause-machine : goal.returns-in_err-param-in-Fixed-clause-machine
returns-in_err-param-in-Fixed-clause-machine c = λ k h.
    stops_behind _ _ _ _ _ _ c.from_residual-in_err-param-in-Fixed.ensures.1 ((c.in_ok-id-in-Fixed.ensures.machine (Expect t.Colon ∷ AType ∷ k) (omega arith))) (c.in_err-param-in-Fixed.ensures.machine (k) (omega arith)) (held_open k _ _ c.in-Fixed.at (grind (arith, common_steps)) (omega arith))

pub returns-in_ok-param-in-Fixed-clause-machine : goal.returns-in_ok-param-in-Fixed-clause-machine
returns-in_ok-param-in-Fixed-clause-machine c = λ k h.
    behind ((c.in_ok-id-in-Fixed.ensures.machine (Expect t.Colon ∷ AType ∷ k) (omega arith)) ∙ (c.in_ok-param-in-Fixed.ensures.machine (k) (omega arith))) (held_open k _ _ c.in-Fixed.at (grind (arith, common_steps)) (omega arith))

pub returns-in_ok-param-in-Name-clause-reads : goal.returns-in_ok-param-in-Name-clause-reads
returns-in_ok-param-in-Name-clause-reads c = moved_reads c.in-Name.id c.in-Name.at (grind (arith, common_steps)) c.in_ok-param-in-Name.ensures.reads

pub returns-in_ok-param-in-Fixed-clause-reads : goal.returns-in_ok-param-in-Fixed-clause-reads
returns-in_ok-param-in-Fixed-clause-reads c = held_reads c.in_ok-id-in-Fixed.id c.in-Fixed.at _ (grind (arith, common_steps)) c.in_ok-id-in-Fixed.ensures.token c.in_ok-param-in-Fixed.ensures.reads
