use Rattle.std.proofs.Common.{length, flat_map}
use Rattle.silq_tree.specs.Arena.{expr_at, stmt_at}
use Rattle.silq_tree.specs.Children.{param_exprs, type_exprs}
use Rattle.silq_tree.proofs.Lists.{exprs_below_back}
use Rattle.check_scope.specs.Library.{function_at}
use Rattle.tree_walk.proofs.WrittenLists.{results_are}
use Rattle.tree_walk.proofs.written.results.Goals as goal

pub result_takers-requires : goal.result_takers-requires
result_takers-requires c =
    let g = c.fun-node.result.now in
    rw (c.tree.ensures, c.as_slice.ensures)
    (exprs_below_back (length c.args.library.now.nodes.exprs) (flat_map param_exprs g.params) (flat_map type_exprs g.results) c.fun-node.ensures.parts)

pub returns : goal.returns
returns c =
    let l = c.args.library.now.nodes in
    let g = function_at c.args.library.now c.args.fun in
    rw (results_are (expr_at l) c.args.statics.now (stmt_at l) g c.fun-node.result.now c.fun-node.ensures.tree c.args.entry)
    (rw (c.tree.ensures, c.as_slice.ensures) at c.result_takers.ensures)
