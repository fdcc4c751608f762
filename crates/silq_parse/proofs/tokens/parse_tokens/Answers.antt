use Rattle.std.proofs.Common.{◌≡◌, [], length, refl, ◌∙◌, arith}
use Rattle.std.proofs.lemmas.Grind.{common_steps}
use Rattle.expr_parse.proofs.Exits.{stops}
use Rattle.silq_parse.proofs.ProgramReads.{parsed, all_fine, left_over}
use Rattle.silq_parse.proofs.tokens.parse_tokens.Goals as goal

pub returns-in_err-funs-clause-machine : goal.returns-in_err-funs-clause-machine
returns-in_err-funs-clause-machine c = stops _ _ _ _ _ c.from_residual.ensures.1 refl (c.in_err-funs.ensures.machine [] (omega arith))

pub returns-then-is_empty-clause-machine : goal.returns-then-is_empty-clause-machine
returns-then-is_empty-clause-machine c =
    let e : length c.in_ok-funs.rest.now ≡ 0 = grind (arith, common_steps, c.if-is_empty.ensures) in
    c.in_ok-funs.ensures.machine [] (omega arith) ∙ all_fine _ e

pub returns-then-is_empty-clause-reads : goal.returns-then-is_empty-clause-reads
returns-then-is_empty-clause-reads c =
    let e : length c.in_ok-funs.rest.now ≡ 0 = grind (arith, common_steps, c.if-is_empty.ensures) in
    parsed c.new-tree.ensures.exprs c.new-tree.ensures.stmts c.new-tree.ensures.funs c.in_ok-funs.ensures.reads e

pub returns-clause-machine : goal.returns-clause-machine
returns-clause-machine c =
    c.in_ok-funs.ensures.machine [] (omega arith) ∙ left_over _ (λ e. grind (arith, common_steps, c.if-is_empty.ensures))
