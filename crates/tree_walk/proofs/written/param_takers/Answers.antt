use Rattle.std.proofs.Common.{length}
use Rattle.check_scope.proofs.HeaderLists.{param_below}
use Rattle.tree_walk.proofs.written.param_takers.Goals as goal

pub type_of-ty-requires : goal.type_of-ty-requires
type_of-ty-requires c = param_below (length c.args.tree.now.exprs) c.args.params.now c.loop-param.param-index _ c.requires c.loop-param-test.true
