use Rattle.std.proofs.Common.{[], ◌∷◌, ◌++◌, refl, ap, ◌∙◌, arith}
use Rattle.std.proofs.lemmas.Grind.{common_steps}
use Rattle.silq_grammar.specs.Machine.{MoreStatics}
use Rattle.expr_parse.proofs.Exits.{stops, stops_behind, behind}
use Rattle.silq_parse.proofs.HeaderReads.{first_static, next_static}
use Rattle.silq_parse.proofs.Opened.{more_statics_open}
use Rattle.silq_parse.proofs.header.static_params.Goals as goal

pub returns-in_err-first-clause-machine : goal.returns-in_err-first-clause-machine
returns-in_err-first-clause-machine c = λ k h.
    stops _ _ _ _ _ c.from_residual.ensures.1 (refl) (c.in_err-first.ensures.machine (MoreStatics ∷ k) (omega arith))

pub returns-in_err-next-clause-machine : goal.returns-in_err-next-clause-machine
returns-in_err-next-clause-machine c = λ k h.
    stops_behind _ _ _ _ _ _ c.from_residual-in_err-next.ensures.1 (refl) (c.in_err-next.ensures.machine (MoreStatics ∷ k) (omega arith)) (c.loop-rest.invariant.0 k h ∙ more_statics_open k _ _ c.in-Fixed._comma (grind (arith, common_steps)) (omega arith))

pub loop-rest-init : goal.loop-rest-init
loop-rest-init c = (
  (λ k h. c.in_ok-first.ensures.machine (MoreStatics ∷ k) (omega arith)),
  first_static (c.in_ok-push.ensures.ok ∙ ap (λ w. w ++ c.in_ok-first.first ∷ []) c.new-names.ensures) c.in_ok-first.ensures.reads,
  c.in_ok-first.ensures.shorter,
)

pub loop-rest-preserved : goal.loop-rest-preserved
loop-rest-preserved c = (
  (λ k h. behind (c.in_ok-next.ensures.machine (MoreStatics ∷ k) (omega arith)) (c.loop-rest.invariant.0 k h ∙ more_statics_open k _ _ c.in-Fixed._comma (grind (arith, common_steps)) (omega arith))),
  next_static c.in-Fixed._comma c.in_ok-push-2.ensures.ok c.loop-rest.invariant.1 (grind (arith, common_steps)) c.in_ok-next.ensures.reads,
  grind (arith, common_steps),
)
