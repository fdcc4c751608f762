use Rattle.std.proofs.lemmas.Result.{err_from_is_err_and}
use Rattle.run_stage.proofs.Parting.{statement_counted, statement_over}
use Rattle.run_stage.proofs.stage.Stage.begin_statement.Goals as goal

pub returns-in_err-statement-in-Counting-clause-refused : goal.returns-in_err-statement-in-Counting-clause-refused
returns-in_err-statement-in-Counting-clause-refused c =
    let p = err_from_is_err_and c.from_residual.result c.from_residual.ensures.1 in
    rw p.1 (λ line e. statement_over p.0 _ line e c.args.self.now _ c.in-Counting.is p.2 (c.in_err-statement-in-Counting.ensures.refused line e))

pub returns-in_ok-statement-in-Counting-clause-ok : goal.returns-in_ok-statement-in-Counting-clause-ok
returns-in_ok-statement-in-Counting-clause-ok c =
    λ line e. statement_counted line e c.args.self.now _ _ c.in-Counting.is (c.in_ok-statement-in-Counting.ensures.ok line e)
