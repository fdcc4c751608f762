use Rattle.std.proofs.Common.{◌≡◌, Some, length, slice_get, sym, ap}
use Rattle.std.proofs.lemmas.Option.{slice_get_read}
use Rattle.silq_tree.specs.Arena.{Forest}
use Rattle.silq_tree.proofs.Arenas.{expr_tree}
use Rattle.silq_tree.proofs.tree.Tree.expr.Goals as goal

pub returns-clause-tree : goal.returns-clause-tree
returns-clause-tree c =
    let here : slice_get c.self.inside.exprs.items c.args.id.number ≡ Some c.index.result.now =
    slice_get_read c.self.inside.exprs.items (length c.args.self.now.exprs) c.args.id.number c.index.result.now (sym (ap (λ (f : Forest). length f.exprs) c.self.view_is)) c.requires c.index.ensures in
    rw (← c.self.view_is) (expr_tree _ c.args.id c.index.result.now c.self.invariant here)
