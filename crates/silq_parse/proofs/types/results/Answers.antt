use Rattle.std.proofs.Common.{[], ◌∷◌, ◌++◌, refl, ap, ◌∙◌, arith}
use Rattle.std.proofs.lemmas.Grind.{common_steps}
use Rattle.silq_grammar.specs.Outcome.{outcome}
use Rattle.silq_grammar.specs.Machine.{MoreResults}
use Rattle.expr_parse.proofs.Exits.{stops, stops_behind, behind}
use Rattle.silq_parse.proofs.TypeReads.{first_types, next_types}
use Rattle.silq_parse.proofs.Opened.{more_results_open}
use Rattle.silq_parse.proofs.types.results.Goals as goal

pub returns-in_err-first-clause-machine : goal.returns-in_err-first-clause-machine
returns-in_err-first-clause-machine c = λ k h.
    stops _ _ _ _ _ c.from_residual.ensures.1 (refl) (c.in_err-first.ensures.machine (MoreResults ∷ k) (omega arith))

pub returns-in_err-next-clause-machine : goal.returns-in_err-next-clause-machine
unfolding outcome
returns-in_err-next-clause-machine c = λ k h.
    stops_behind _ _ _ _ _ _ c.from_residual-in_err-next.ensures.1 (refl) (c.in_err-next.ensures.machine (MoreResults ∷ k) (omega arith)) (c.loop-rest.invariant.1 k h ∙ more_results_open k _ _ c.in-Fixed._times (grind (arith, common_steps)) (omega arith))

pub loop-rest-init : goal.loop-rest-init
loop-rest-init c = (
  c.in_ok-first.ensures.arena,
  (λ k h. c.in_ok-first.ensures.machine (MoreResults ∷ k) (omega arith)),
  first_types _ _ (c.in_ok-push.ensures.ok ∙ ap (λ w. w ++ c.in_ok-first.first ∷ []) c.new-types.ensures) c.in_ok-first.ensures.reads,
  c.in_ok-first.ensures.shorter,
)

pub loop-rest-preserved : goal.loop-rest-preserved
loop-rest-preserved c = (
  c.in_ok-next.ensures.arena,
  (λ k h. behind (c.in_ok-next.ensures.machine (MoreResults ∷ k) (omega arith)) (c.loop-rest.invariant.1 k h ∙ more_results_open k _ _ c.in-Fixed._times (grind (arith, common_steps)) (omega arith))),
  next_types _ _ _ c.in-Fixed._times c.in_ok-push-2.ensures.ok c.loop-rest.invariant.2 (grind (arith, common_steps)) c.in_ok-next.ensures.reads,
  grind (arith, common_steps),
)
