use Rattle.std.proofs.Common.{◌≡◌, Some, length, slice_get, sym, ap}
use Rattle.std.proofs.lemmas.Option.{slice_get_read}
use Rattle.silq_tree.specs.Arena.{Forest}
use Rattle.silq_tree.proofs.Arenas.{stmt_tree}
use Rattle.silq_tree.proofs.tree.Tree.stmt.Goals as goal

pub returns-clause-tree : goal.returns-clause-tree
returns-clause-tree c =
    let here : slice_get c.self.inside.stmts.items c.args.id.number ≡ Some c.index.result.now =
    slice_get_read c.self.inside.stmts.items (length c.args.self.now.stmts) c.args.id.number c.index.result.now (sym (ap (λ (f : Forest). length f.stmts) c.self.view_is)) c.requires c.index.ensures in
    rw (← c.self.view_is) (stmt_tree _ c.args.id c.index.result.now c.self.invariant here)
