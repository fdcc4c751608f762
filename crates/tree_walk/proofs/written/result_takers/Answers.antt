use Rattle.std.proofs.Common.{length}
use Rattle.check_scope.proofs.HeaderLists.{result_below}
use Rattle.tree_walk.proofs.written.result_takers.Goals as goal

pub type_of-requires : goal.type_of-requires
type_of-requires c = result_below (length c.args.tree.now.exprs) c.args.results.now c.loop-ty.ty-index _ c.requires c.loop-ty-test.true
