use Rattle.std.proofs.Common.{◌∷◌, refl, ◌∙◌, arith}
use Rattle.std.proofs.lemmas.Grind.{common_steps}
use Rattle.silq_grammar.specs.Machine.{Functions}
use Rattle.expr_parse.proofs.Exits.{stops_behind, behind}
use Rattle.silq_parse.proofs.ProgramReads.{no_functions, next_function}
use Rattle.silq_parse.proofs.Opened.{function_begins}
use Rattle.silq_parse.proofs.tokens.functions.Goals as goal

pub returns-in_err-id-clause-machine : goal.returns-in_err-id-clause-machine
returns-in_err-id-clause-machine c = λ k h.
    stops_behind _ _ _ _ _ _ c.from_residual.ensures.1 (refl) (c.in_err-id.ensures.machine (Functions ∷ k) (omega arith)) (c.loop-rest.invariant.1 k h ∙ function_begins k _ _ c.in-Fixed.at (grind (arith, common_steps)) (omega arith))

pub loop-rest-init : goal.loop-rest-init
loop-rest-init c = (c.requires.arena, (λ k h. refl), no_functions _ _ _ c.new-funs.ensures, omega arith)

pub loop-rest-preserved : goal.loop-rest-preserved
loop-rest-preserved c = (
  c.in_ok-id.ensures.arena,
  (λ k h. behind (c.in_ok-id.ensures.machine (Functions ∷ k) (omega arith)) (c.loop-rest.invariant.1 k h ∙ function_begins k _ _ c.in-Fixed.at (grind (arith, common_steps)) (omega arith))),
  next_function _ _ _ c.in-Fixed.at c.in_ok-push.ensures.ok c.loop-rest.invariant.2 (grind (arith, common_steps)) c.in_ok-id.ensures.reads,
  grind (arith, common_steps),
)
