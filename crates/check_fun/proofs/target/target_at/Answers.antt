use mathlib.Core.Path.{sym}
use Rattle.check_fun.proofs.Counted.{fails_bind}
use Rattle.silq_tree.specs.Arena.{expr_at}
use Rattle.silq_tree.specs.Standing.{place_of}
use Rattle.check_scope.specs.State.{scope_in}
use Rattle.check_fun.proofs.Stepped.{passed}
use Rattle.check_fun.proofs.Targets.{name_of_place, runs_target, fails_target_first, fails_target_name, fails_target_owner}
use Rattle.check_fun.proofs.target.target_at.Goals as goal

pub returns-in_err-part-clause-fails : goal.returns-in_err-part-clause-fails
returns-in_err-part-clause-fails c = λ check cs. passed _ _ _ c.from_residual.ensures.1 (fails_bind check _ _ c.args.cx.now cs _ (c.in_err-part.ensures.fails check cs))

pub returns-in_err-obeyed-clause-fails : goal.returns-in_err-obeyed-clause-fails
returns-in_err-obeyed-clause-fails c = λ check cs. passed _ _ _ c.from_residual-in_err-obeyed.ensures.1 (fails_target_name check (scope_in c.args.library.now c.args.cx.now) (place_of (expr_at c.args.library.now.nodes) c.args.place) c.args.at c.args.other c.args.place.name (name_of_place _ c.args.place) c.in_ok-part.part c.in_ok-part.ensures.part c.args.cx.now cs _ (c.in_ok-part.ensures.runs check cs) (rw (sym c.is_known_name-is_known.ensures) (c.in_err-obeyed.ensures.fails check c.args.cx.now cs)))

pub returns-in_err-target-clause-fails : goal.returns-in_err-target-clause-fails
returns-in_err-target-clause-fails c = λ check cs. passed _ _ _ c.from_residual-in_err-target.ensures.1 (fails_target_owner check (scope_in c.args.library.now c.args.cx.now) (place_of (expr_at c.args.library.now.nodes) c.args.place) c.args.at c.args.other c.args.place.name (name_of_place _ c.args.place) c.in_ok-part.part c.in_ok-part.ensures.part c.args.cx.now cs _ (c.in_ok-part.ensures.runs check cs) (rw (sym c.is_known_name-is_known.ensures) (c.in_ok-obeyed.ensures.runs check c.args.cx.now cs)) (c.in_err-target.ensures.fails check cs))

pub returns-clause-runs : goal.returns-clause-runs
returns-clause-runs c = λ check cs. runs_target check (scope_in c.args.library.now c.args.cx.now) (place_of (expr_at c.args.library.now.nodes) c.args.place) c.args.at c.args.other c.args.place.name (name_of_place _ c.args.place) c.in_ok-part.part c.in_ok-part.ensures.part c.args.cx.now cs _ (c.in_ok-part.ensures.runs check cs) (rw (sym c.is_known_name-is_known.ensures) (c.in_ok-obeyed.ensures.runs check c.args.cx.now cs)) (c.in_ok-target.ensures.runs check cs)
