use Rattle.silq_tree.specs.Arena.{expr_at}
use Rattle.check_expr.specs.Asks.{types_of}
use Rattle.check_fun.proofs.Returning.{on_ok, if_err, fails_lone, fails_lone_suits, runs_lone}
use Rattle.check_fun.proofs.returns.is_lone.Goals as goal

pub returns-in-Ok-clause-runs : goal.returns-in-Ok-clause-runs
returns-in-Ok-clause-runs c check s d = on_ok c.suits_now.result (λ r. runs_lone check (expr_at c.args.library.now.nodes c.args.e) (types_of c.args.want) c.args.found.now s d c.in-Ok.value (c.in-Ok.ensures.runs check s d) r) (c.suits_now.ensures.runs check s d)

pub returns-in-Ok-clause-fails : goal.returns-in-Ok-clause-fails
returns-in-Ok-clause-fails c check s d = if_err c.suits_now.result (λ f r. fails_lone_suits check (expr_at c.args.library.now.nodes c.args.e) (types_of c.args.want) c.args.found.now s d c.in-Ok.value f (c.in-Ok.ensures.runs check s d) r) (c.suits_now.ensures.fails check s d)

pub returns-in-Err-clause-fails : goal.returns-in-Err-clause-fails
returns-in-Err-clause-fails c check s d = fails_lone check (expr_at c.args.library.now.nodes c.args.e) (types_of c.args.want) c.args.found.now s d c.in-Err.fault (c.in-Err.ensures.fails check s d)
