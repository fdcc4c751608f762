use Rattle.std.proofs.Common.{[], ◌∷◌, ◌++◌, refl, ap, ◌∙◌, arith}
use Rattle.std.proofs.lemmas.Grind.{common_steps}
use Rattle.silq_grammar.specs.Machine.{MoreParams}
use Rattle.expr_parse.proofs.Exits.{stops, stops_behind, behind}
use Rattle.silq_parse.proofs.HeaderReads.{first_params, next_params}
use Rattle.silq_parse.proofs.Opened.{more_params_open}
use Rattle.silq_parse.proofs.header.params.Goals as goal

pub returns-in_err-first-clause-machine : goal.returns-in_err-first-clause-machine
returns-in_err-first-clause-machine c = λ k h.
    stops _ _ _ _ _ c.from_residual.ensures.1 (refl) (c.in_err-first.ensures.machine (MoreParams ∷ k) (omega arith))

pub returns-in_err-next-clause-machine : goal.returns-in_err-next-clause-machine
returns-in_err-next-clause-machine c = λ k h.
    stops_behind _ _ _ _ _ _ c.from_residual-in_err-next.ensures.1 (refl) (c.in_err-next.ensures.machine (MoreParams ∷ k) (omega arith)) (c.loop-rest.invariant.1 k h ∙ more_params_open k _ _ c.in-Fixed._comma (grind (arith, common_steps)) (omega arith))

pub loop-rest-init : goal.loop-rest-init
loop-rest-init c = (
  c.in_ok-first.ensures.arena,
  (λ k h. c.in_ok-first.ensures.machine (MoreParams ∷ k) (omega arith)),
  first_params _ _ (c.in_ok-push.ensures.ok ∙ ap (λ w. w ++ c.in_ok-first.first ∷ []) c.new-params.ensures) c.in_ok-first.ensures.reads,
  c.in_ok-first.ensures.shorter,
)

pub loop-rest-preserved : goal.loop-rest-preserved
loop-rest-preserved c = (
  c.in_ok-next.ensures.arena,
  (λ k h. behind (c.in_ok-next.ensures.machine (MoreParams ∷ k) (omega arith)) (c.loop-rest.invariant.1 k h ∙ more_params_open k _ _ c.in-Fixed._comma (grind (arith, common_steps)) (omega arith))),
  next_params _ _ _ c.in-Fixed._comma c.in_ok-push-2.ensures.ok c.loop-rest.invariant.2 (grind (arith, common_steps)) c.in_ok-next.ensures.reads,
  grind (arith, common_steps),
)
