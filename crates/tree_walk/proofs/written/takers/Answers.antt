use Rattle.std.proofs.Common.{length, flat_map}
use Rattle.silq_tree.specs.Arena.{expr_at, stmt_at}
use Rattle.silq_tree.specs.Children.{param_exprs, type_exprs}
use Rattle.silq_tree.proofs.Lists.{exprs_below_front}
use Rattle.check_scope.specs.Library.{function_at}
use Rattle.tree_walk.proofs.WrittenLists.{takers_are}
use Rattle.tree_walk.proofs.written.takers.Goals as goal

pub param_takers-requires : goal.param_takers-requires
param_takers-requires c =
    let g = c.fun-node.result.now in
    rw (c.tree.ensures, c.as_slice.ensures)
    (exprs_below_front (length c.args.library.now.nodes.exprs) (flat_map param_exprs g.params) (flat_map type_exprs g.results) c.fun-node.ensures.parts)

pub returns : goal.returns
returns c =
    let l = c.args.library.now.nodes in
    rw (takers_are (expr_at l) c.args.statics.now (stmt_at l) (function_at c.args.library.now c.args.fun) c.fun-node.result.now c.fun-node.ensures.tree)
    (rw (c.tree.ensures, c.as_slice.ensures) at c.param_takers.ensures)
