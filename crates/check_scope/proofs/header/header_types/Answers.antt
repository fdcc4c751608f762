use Rattle.std.proofs.Common.{◌∙◌, ap, length, flat_map, rules, true, false}
use Rattle.silq_tree.specs.Arena.{expr_at, stmt_at}
use Rattle.silq_tree.specs.Children.{param_exprs, type_exprs}
use Rattle.silq_tree.specs.Standing.{fun_grown}
use Rattle.silq_tree.proofs.Lists.{exprs_below_front, exprs_below_back}
use Rattle.silq_mean.specs.Written.{header_of}
use Rattle.check_scope.specs.Headers.{spot_or}
use Rattle.check_scope.proofs.Chained.{first_along}
use Rattle.check_scope.proofs.HeaderLists.{header_without_params, header_without_results, header_given}
use Rattle.check_scope.proofs.header.header_types.Goals as goal

pub param_types-requires : goal.param_types-requires
param_types-requires c =
    let g = c.fun-node.result.now in
    rw (c.tree-tree.ensures, c.as_slice.ensures)
    (exprs_below_front (length c.args.library.now.nodes.exprs) (flat_map param_exprs g.params) (flat_map type_exprs g.results) c.fun-node.ensures.parts)

pub result_types-requires : goal.result_types-requires
result_types-requires c =
    let g = c.fun-node.result.now in
    rw (c.tree-tree.ensures, c.as_slice-2.ensures)
    (exprs_below_back (length c.args.library.now.nodes.exprs) (flat_map param_exprs g.params) (flat_map type_exprs g.results) c.fun-node.ensures.parts)

pub returns-in_err-params-clause-fault : goal.returns-in_err-params-clause-fault
returns-in_err-params-clause-fault c =
    let l = c.args.library.now.nodes in
    let p = spot_or c.args.at in
    let f = fun_grown (expr_at l) (stmt_at l) c.fun-node.result.now in
    let h = first_along c.in_err-params.field-0.0 _ _ (ap (header_of c.args.statics.now p) c.fun-node.ensures.tree)
    (header_without_params c.args.statics.now p f _ (rw (c.tree-tree.ensures, c.as_slice.ensures) at c.in_err-params.ensures.fault)) in
    search rules

pub returns-in_err-results-clause-fault : goal.returns-in_err-results-clause-fault
returns-in_err-results-clause-fault c =
    let l = c.args.library.now.nodes in
    let p = spot_or c.args.at in
    let f = fun_grown (expr_at l) (stmt_at l) c.fun-node.result.now in
    let h = first_along c.in_err-results.field-0.0 _ _ (ap (header_of c.args.statics.now p) c.fun-node.ensures.tree)
    (header_without_results c.args.statics.now p f _ (rw (c.tree-tree.ensures, c.as_slice.ensures) at c.in_ok-params.ensures.value) _
    (rw (c.tree-tree.ensures, c.as_slice-2.ensures) at c.in_err-results.ensures.fault)) in
    search rules

pub returns-then-lacks_result-clause-fault : goal.returns-then-lacks_result-clause-fault
returns-then-lacks_result-clause-fault c =
    let l = c.args.library.now.nodes in
    let p = spot_or c.args.at in
    let f = fun_grown (expr_at l) (stmt_at l) c.fun-node.result.now in
    ap (header_of c.args.statics.now p) c.fun-node.ensures.tree
    ∙ header_given c.args.statics.now p f _ (rw (c.tree-tree.ensures, c.as_slice.ensures) at c.in_ok-params.ensures.value) _ true
    (rw (c.tree-tree.ensures, c.as_slice-2.ensures) at c.in_ok-results.ensures.value) (rw c.as_slice-3.ensures at (c.if-lacks_result.ensures (expr_at l)))

pub returns-clause-value : goal.returns-clause-value
returns-clause-value c =
    let l = c.args.library.now.nodes in
    let p = spot_or c.args.at in
    let f = fun_grown (expr_at l) (stmt_at l) c.fun-node.result.now in
    ap (header_of c.args.statics.now p) c.fun-node.ensures.tree
    ∙ header_given c.args.statics.now p f _ (rw (c.tree-tree.ensures, c.as_slice.ensures) at c.in_ok-params.ensures.value) _ false
    (rw (c.tree-tree.ensures, c.as_slice-2.ensures) at c.in_ok-results.ensures.value) (rw c.as_slice-3.ensures at (c.if-lacks_result.ensures (expr_at l)))
