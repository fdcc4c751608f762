use Rattle.silq_tree.specs.Arena.{expr_at}
use Rattle.check_fun.proofs.Stepped.{passed}
use Rattle.check_fun.proofs.PuttingBack.{fails_back_tuple, fails_back_suits, fails_back_rules, runs_back_put}
use Rattle.check_fun.proofs.assign.put_back.Goals as goal

pub returns-in_err-obeyed-clause-fails : goal.returns-in_err-obeyed-clause-fails
returns-in_err-obeyed-clause-fails c = λ check cs. passed _ _ _ c.from_residual.ensures.1 (fails_back_tuple check (record { part = c.args.target.part; owner = c.args.target.owner; ty = c.args.target.ty }) c.args.count c.args.place (expr_at c.args.library.now.nodes c.args.e) c.args.values.now c.args.at c.args.cx.now cs c.is_tuple-is_tuple.result c.is_tuple-is_tuple.ensures c.spot_of.result c.spot_of.ensures _ (c.in_err-obeyed.ensures.fails check c.args.cx.now cs))

pub returns-in_err-one_suits-clause-fails : goal.returns-in_err-one_suits-clause-fails
returns-in_err-one_suits-clause-fails c = λ check cs. passed _ _ _ c.from_residual-in_err-one_suits.ensures.1 (fails_back_suits check (record { part = c.args.target.part; owner = c.args.target.owner; ty = c.args.target.ty }) c.args.count c.args.place (expr_at c.args.library.now.nodes c.args.e) c.args.values.now c.args.at c.args.cx.now cs c.is_tuple-is_tuple.result c.is_tuple-is_tuple.ensures c.spot_of.result c.spot_of.ensures (c.in_ok-obeyed.ensures.runs check c.args.cx.now cs) _ (c.in_err-one_suits.ensures.fails check c.args.cx.now cs))

pub returns-in_err-may_put_back-clause-fails : goal.returns-in_err-may_put_back-clause-fails
returns-in_err-may_put_back-clause-fails c = λ check cs. passed _ _ _ c.from_residual-in_err-may_put_back.ensures.1 (fails_back_rules check (record { part = c.args.target.part; owner = c.args.target.owner; ty = c.args.target.ty }) c.args.count c.args.place (expr_at c.args.library.now.nodes c.args.e) c.args.values.now c.args.at c.args.cx.now cs c.is_tuple-is_tuple.result c.is_tuple-is_tuple.ensures c.spot_of.result c.spot_of.ensures (c.in_ok-obeyed.ensures.runs check c.args.cx.now cs) (c.in_ok-one_suits.ensures.runs check c.args.cx.now cs) _ (c.in_err-may_put_back.ensures.fails check c.args.cx.now cs))

pub returns-clause-runs : goal.returns-clause-runs
returns-clause-runs c = λ check cs. runs_back_put check (record { part = c.args.target.part; owner = c.args.target.owner; ty = c.args.target.ty }) c.args.count c.args.place (expr_at c.args.library.now.nodes c.args.e) c.args.values.now c.args.at c.args.cx.now cs c.is_tuple-is_tuple.result c.is_tuple-is_tuple.ensures c.spot_of.result c.spot_of.ensures (c.in_ok-obeyed.ensures.runs check c.args.cx.now cs) (c.in_ok-one_suits.ensures.runs check c.args.cx.now cs) (c.in_ok-may_put_back.ensures.runs check c.args.cx.now cs) c.cut_part.new.cx c.some_linear-linear.result c.some_linear-linear.ensures (c.cut_part.ensures check cs)
