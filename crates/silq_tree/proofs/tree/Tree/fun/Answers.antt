use Rattle.std.proofs.Common.{◌≡◌, Some, length, slice_get, sym, ap}
use Rattle.std.proofs.lemmas.Option.{slice_get_read}
use Rattle.silq_tree.specs.Arena.{Forest}
use Rattle.silq_tree.proofs.Arenas.{fun_tree}
use Rattle.silq_tree.proofs.tree.Tree.fun.Goals as goal

pub returns-clause-tree : goal.returns-clause-tree
returns-clause-tree c =
    let here : slice_get c.self.inside.funs.items c.args.id.number ≡ Some c.index.result.now =
    slice_get_read c.self.inside.funs.items (length c.args.self.now.funs) c.args.id.number c.index.result.now (sym (ap (λ (f : Forest). length f.funs) c.self.view_is)) c.requires c.index.ensures in
    rw (← c.self.view_is) (fun_tree _ c.args.id c.index.result.now here)
