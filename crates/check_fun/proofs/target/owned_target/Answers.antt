use Rattle.std.specs.Prelude.{◌≡◌, Option, Some}
use mathlib.Core.Path.{sym, ap, ◌∙◌}
use Rattle.check_scope.specs.Context.{find_var, variable}
use Rattle.check_fun.proofs.Stepped.{passed}
use Rattle.check_fun.proofs.Targets.{runs_owned, fails_owned_moved, fails_owned_typed}
use Rattle.check_fun.proofs.target.owned_target.Goals as goal

pub returns-in_err-obeyed-in-Some-clause-fails : goal.returns-in_err-obeyed-in-Some-clause-fails
returns-in_err-obeyed-in-Some-clause-fails c = λ check cs. passed _ _ _ c.from_residual.ensures.1 (fails_owned_moved check _ _ _ _ _ (ap (find_var c.args.cx.now.vars) (sym c.variable_part.ensures) ∙ sym c.in-Some.ensures) _ _ _ (c.in_err-obeyed-in-Some.ensures.fails check _ cs))

pub returns-in_err-target-in-Some-clause-fails : goal.returns-in_err-target-in-Some-clause-fails
returns-in_err-target-in-Some-clause-fails c = λ check cs. passed _ _ _ c.from_residual-in_err-target-in-Some.ensures.1 (fails_owned_typed check _ _ _ _ _ (ap (find_var c.args.cx.now.vars) (sym c.variable_part.ensures) ∙ sym c.in-Some.ensures) _ _ _ (c.in_ok-obeyed-in-Some.ensures.runs check _ cs) (c.in_err-target-in-Some.ensures.fails check _ cs))

pub returns-in_ok-target-in-Some-clause-runs : goal.returns-in_ok-target-in-Some-clause-runs
returns-in_ok-target-in-Some-clause-runs c = λ check cs. runs_owned check _ _ _ _ _ (ap (find_var c.args.cx.now.vars) (sym c.variable_part.ensures) ∙ sym c.in-Some.ensures) _ _ _ (c.in_ok-obeyed-in-Some.ensures.runs check _ cs) (c.in_ok-target-in-Some.ensures.runs check _ cs)
