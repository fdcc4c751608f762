use Rattle.silq_tree.specs.Arena.{expr_at, stmt_at}
use Rattle.check_scope.specs.Library.{function_at}
use Rattle.tree_walk.proofs.WrittenLists.{names_are}
use Rattle.tree_walk.proofs.written.names.Goals as goal

pub returns : goal.returns
returns c =
    let l = c.args.library.now.nodes in
    λ statics. rw (names_are (expr_at l) statics (stmt_at l) (function_at c.args.library.now c.args.fun) c.fun-node.result.now c.fun-node.ensures.tree)
    (rw c.as_slice.ensures at c.param_names.ensures)
