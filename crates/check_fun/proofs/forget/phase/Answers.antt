use Rattle.std.proofs.Common.{◌≡◌, sym, ap, ◌∙◌}
use Rattle.check_expr.specs.Expression.{is_qfree}
use Rattle.check_scope.specs.Library.{function_at}
use Rattle.check_fun.proofs.Counted.{runs_then, fails_then, fails_after}
use Rattle.silq_tree.specs.Syntax.{Function}
use Rattle.check_fun.proofs.Stepped.{passed, runs_tested, fails_tested}
use Rattle.check_fun.proofs.forget.phase.Goals as goal

pub returns-in_err-known_now-clause-fails : goal.returns-in_err-known_now-clause-fails
returns-in_err-known_now-clause-fails c = λ check cs. passed _ _ _ c.from_residual.ensures.1 (fails_then check _ _ c.args.cx.now cs _ (c.in_err-known_now.ensures.fails check cs))

pub returns-in_err-angle_now-clause-fails : goal.returns-in_err-angle_now-clause-fails
returns-in_err-angle_now-clause-fails c = λ check cs. passed _ _ _ c.from_residual-in_err-angle_now.ensures.1 (fails_after check _ _ c.args.cx.now c.args.cx.now cs cs _ _ (c.in_ok-known_now.ensures.runs check cs) (fails_then check _ _ c.args.cx.now cs _ (c.in_err-angle_now.ensures.fails check c.args.cx.now cs)))

pub returns-in_err-obeyed-clause-fails : goal.returns-in_err-obeyed-clause-fails
returns-in_err-obeyed-clause-fails c =
    let mark : c.is_qfree-is_qfree.result ≡ is_qfree (function_at c.args.library.now c.args.cx.now.this).mark = c.is_qfree-is_qfree.ensures ∙ ap (λ (f : Function). is_qfree f.mark) (sym c.fun.ensures.tree ∙ ap (function_at c.args.library.now) c.this.ensures) in
    λ check cs. passed _ _ _ c.from_residual-in_err-obeyed.ensures.1 (fails_after check _ _ c.args.cx.now c.args.cx.now cs cs _ _ (c.in_ok-known_now.ensures.runs check cs) (fails_after check _ _ c.args.cx.now c.args.cx.now cs cs _ _ (c.in_ok-angle_now.ensures.runs check c.args.cx.now cs) (fails_tested check c.args.at _ _ 7 c.args.cx.now cs _ mark (c.in_err-obeyed.ensures.fails check c.args.cx.now cs))))

pub returns-clause-runs : goal.returns-clause-runs
returns-clause-runs c =
    let mark : c.is_qfree-is_qfree.result ≡ is_qfree (function_at c.args.library.now c.args.cx.now.this).mark = c.is_qfree-is_qfree.ensures ∙ ap (λ (f : Function). is_qfree f.mark) (sym c.fun.ensures.tree ∙ ap (function_at c.args.library.now) c.this.ensures) in
    λ check cs. runs_then check _ _ c.args.cx.now c.args.cx.now c.args.cx.now cs cs cs _ _ (c.in_ok-known_now.ensures.runs check cs) (runs_then check _ _ c.args.cx.now c.args.cx.now c.args.cx.now cs cs cs _ _ (c.in_ok-angle_now.ensures.runs check c.args.cx.now cs) (runs_tested check c.args.at _ _ 7 c.args.cx.now cs mark (c.in_ok-obeyed.ensures.runs check c.args.cx.now cs)))
