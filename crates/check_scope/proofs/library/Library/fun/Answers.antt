use Rattle.check_scope.proofs.Named.{fun_below}
use Rattle.check_scope.proofs.library.Library.fun.Goals as goal

pub fun-requires : goal.fun-requires
fun-requires c = rw c.as_slice.ensures (fun_below _ _ c.args.n _ c.self.invariant.below (rw (← c.self.view_is) at c.requires))
