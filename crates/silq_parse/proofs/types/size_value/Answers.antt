use Rattle.std.proofs.Common.{rules, ◌∷◌, refl, ap, ◌∙◌, arith}
use Rattle.std.proofs.lemmas.Grind.{common_steps}
use Rattle.silq_grammar.specs.Outcome.{outcome}
use Rattle.silq_grammar.specs.Machine.{Closing}
use Rattle.silq_grammar.specs.declared.token.Terminal.TheVariants as t
use Rattle.silq_grammar.specs.declared.token.Token.TheVariants.{Fixed}
use Rattle.expr_parse.proofs.Exits.{stops_behind, behind}
use Rattle.std.proofs.Common.{to_z-of_z, SFits, w64}
use Rattle.silq_parse.proofs.TypeReads.{number_size, named_size, paren_size}
use Rattle.silq_parse.proofs.BlockReads.{part_of}
use Rattle.silq_parse.proofs.Opened.{size_open}
use Rattle.silq_parse.proofs.types.size_value.Goals as goal

pub returns-in_err-id-in-Fixed-clause-machine : goal.returns-in_err-id-in-Fixed-clause-machine
unfolding outcome
returns-in_err-id-in-Fixed-clause-machine c = λ k h.
    stops_behind _ _ _ _ _ _ c.from_residual-in_err-id-in-Fixed.ensures.1 (refl) (c.in_err-id-in-Fixed.ensures.machine (Closing t.RightParen ∷ k) (omega arith)) (size_open k _ _ c.in-Fixed._open (grind (arith, common_steps)) (omega arith))

pub returns-in_err-rest-in-Fixed-clause-machine : goal.returns-in_err-rest-in-Fixed-clause-machine
unfolding outcome
returns-in_err-rest-in-Fixed-clause-machine c = λ k h.
    stops_behind _ _ _ _ _ _ c.from_residual-in_err-rest-in-Fixed.ensures.1 ((c.in_ok-id-in-Fixed.ensures.machine (Closing t.RightParen ∷ k) (omega arith))) (c.in_err-rest-in-Fixed.ensures.closing (k) (omega arith)) (size_open k _ _ c.in-Fixed._open (grind (arith, common_steps)) (omega arith))

pub returns-in_ok-rest-in-Fixed-clause-machine : goal.returns-in_ok-rest-in-Fixed-clause-machine
unfolding outcome
returns-in_ok-rest-in-Fixed-clause-machine c = λ k h.
    behind ((c.in_ok-id-in-Fixed.ensures.machine (Closing t.RightParen ∷ k) (omega arith)) ∙ (c.in_ok-rest-in-Fixed.ensures.closing (k) (omega arith))) (size_open k _ _ c.in-Fixed._open (grind (arith, common_steps)) (omega arith))

pub returns-in_ok-rest-in-Fixed-clause-reads : goal.returns-in_ok-rest-in-Fixed-clause-reads
returns-in_ok-rest-in-Fixed-clause-reads c = λ k. part_of (paren_size c.in-Fixed._open _ k c.in_ok-id-in-Fixed.ensures.reads c.in_ok-rest-in-Fixed.ensures.token) (ap (λ w. Fixed t.Caret k ∷ w) (grind (arith, common_steps)))

pub returns-in_ok-id-in-Name-clause-reads : goal.returns-in_ok-id-in-Name-clause-reads
returns-in_ok-id-in-Name-clause-reads c = λ k. part_of (named_size c.in-Name.name c.in-Name.at k c.in_ok-id-in-Name.ensures.added) (ap (λ w. Fixed t.Caret k ∷ w) (grind (arith, common_steps)))

pub returns-in_ok-id-in-Number-clause-reads : goal.returns-in_ok-id-in-Number-clause-reads
returns-in_ok-id-in-Number-clause-reads c = λ k. let f : SFits w64 c.in-Number.value = search rules in part_of (number_size c.in-Number.value c.in-Number.at k (simp to_z-of_z at c.in_ok-id-in-Number.ensures.added)) (ap (λ w. Fixed t.Caret k ∷ w) (grind (arith, common_steps)))
