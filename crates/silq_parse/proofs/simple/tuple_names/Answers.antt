use Rattle.std.proofs.Common.{◌∷◌, refl, ◌∙◌, arith}
use Rattle.std.proofs.lemmas.Grind.{common_steps}
use Rattle.silq_grammar.specs.Outcome.{outcome}
use Rattle.silq_grammar.specs.Machine.{Expect, AnyName, Closing, MoreNames}
use Rattle.silq_grammar.specs.declared.token.Terminal.TheVariants as t
use Rattle.expr_parse.proofs.Exits.{stops, stops_behind, behind}
use Rattle.silq_parse.proofs.TupleNames.{start, step}
use Rattle.silq_parse.proofs.simple.tuple_names.Goals as goal

pub returns-in_err-first-clause-machine : goal.returns-in_err-first-clause-machine
returns-in_err-first-clause-machine c = λ k h.
    stops _ _ _ _ _ c.from_residual.ensures.1 (refl) (c.in_err-first.ensures.machine (Expect t.Comma ∷ AnyName ∷ MoreNames ∷ Closing t.RightParen ∷ k) (omega arith))

pub returns-in_err-rest-clause-machine : goal.returns-in_err-rest-clause-machine
returns-in_err-rest-clause-machine c = λ k h.
    stops _ _ _ _ _ c.from_residual-in_err-rest.ensures.1 ((c.in_ok-first.ensures.machine (Expect t.Comma ∷ AnyName ∷ MoreNames ∷ Closing t.RightParen ∷ k) (omega arith))) (c.in_err-rest.ensures.machine (AnyName ∷ MoreNames ∷ Closing t.RightParen ∷ k) (omega arith))

pub returns-in_err-second-clause-machine : goal.returns-in_err-second-clause-machine
returns-in_err-second-clause-machine c = λ k h.
    stops _ _ _ _ _ c.from_residual-in_err-second.ensures.1 ((c.in_ok-first.ensures.machine (Expect t.Comma ∷ AnyName ∷ MoreNames ∷ Closing t.RightParen ∷ k) (omega arith)) ∙ (c.in_ok-rest.ensures.machine (AnyName ∷ MoreNames ∷ Closing t.RightParen ∷ k) (omega arith))) (c.in_err-second.ensures.machine (MoreNames ∷ Closing t.RightParen ∷ k) (omega arith))

pub loop-rest-init : goal.loop-rest-init
loop-rest-init c = (
  λ k h. c.in_ok-first.ensures.machine (Expect t.Comma ∷ AnyName ∷ MoreNames ∷ Closing t.RightParen ∷ k) (omega arith)
      ∙ c.in_ok-rest.ensures.machine (AnyName ∷ MoreNames ∷ Closing t.RightParen ∷ k) (omega arith) ∙ c.in_ok-second.ensures.machine (MoreNames ∷ Closing t.RightParen ∷ k) (omega arith),
  grind (arith, common_steps, start _ _ _ _ _ c.in_ok-first.ensures.token c.in_ok-rest.ensures.token c.in_ok-second.ensures.token),
  grind (arith, common_steps),
)

pub returns-in_err-next-clause-machine : goal.returns-in_err-next-clause-machine
unfolding outcome
returns-in_err-next-clause-machine c = λ k h.
    stops_behind _ _ _ _ _ _ c.from_residual-in_err-next.ensures.1 (refl) (c.in_err-next.ensures.machine (MoreNames ∷ Closing t.RightParen ∷ k) (omega arith)) (c.loop-rest.invariant.0 k h ∙ (grind (arith, common_steps)))

pub returns-in_err-rest-2-clause-machine : goal.returns-in_err-rest-2-clause-machine
unfolding outcome
returns-in_err-rest-2-clause-machine c = λ k h.
    stops_behind _ _ _ _ _ _ c.from_residual-in_err-rest-2.ensures.1 (refl) (c.in_err-rest-2.ensures.closing (k) (omega arith)) (c.loop-rest.invariant.0 k h ∙ (grind (arith, common_steps)))

pub loop-rest-preserved : goal.loop-rest-preserved
unfolding outcome
loop-rest-preserved c = (
  λ k h. behind (c.in_ok-next.ensures.machine (MoreNames ∷ Closing t.RightParen ∷ k) (omega arith)) (c.loop-rest.invariant.0 k h ∙ grind (arith, common_steps)),
  grind (arith, common_steps, step c.in-Fixed._comma _ _ c.loop-rest.invariant.1 (grind (arith, common_steps)) c.in_ok-next.ensures.token),
  grind (arith, common_steps),
)
