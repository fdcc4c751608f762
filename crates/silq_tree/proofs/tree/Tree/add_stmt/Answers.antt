use Rattle.std.proofs.Common.{rules}
use Rattle.silq_tree.specs.Arena.{Forest}
use Rattle.silq_tree.proofs.Arenas.{arena_with_stmt, kept_with_stmt, stmt_made}
use Rattle.silq_tree.proofs.tree.Tree.add_stmt.Goals as goal

pub invariant_of-self-2 : goal.invariant_of-self-2
invariant_of-self-2 c =
    let seen : Forest = record { exprs = c.self.inside.exprs.items; stmts = c.self.inside.stmts.items; funs = c.self.inside.funs.items } in
    rw c.in_ok-push.ensures.items (arena_with_stmt seen c.args.s c.self.invariant (rw (← c.self.view_is) at c.requires.expr_parts) (rw (← c.self.view_is) at c.requires.stmt_parts) c.requires.first (rw (← c.self.view_is) at c.requires.expr_parents) (rw (← c.self.view_is) at c.requires.stmt_parents))

pub returns-clause-made : goal.returns-clause-made
returns-clause-made c =
    let seen : Forest = record { exprs = c.self.inside.exprs.items; stmts = c.self.inside.stmts.items; funs = c.self.inside.funs.items } in
    rw (c.in_ok-push.ensures.items, ← c.self.view_is) (stmt_made seen c.args.s _ (search rules))

pub returns-clause-kept : goal.returns-clause-kept
returns-clause-kept c =
    let seen : Forest = record { exprs = c.self.inside.exprs.items; stmts = c.self.inside.stmts.items; funs = c.self.inside.funs.items } in
    rw (c.in_ok-push.ensures.items, ← c.self.view_is) (kept_with_stmt seen c.args.s c.self.invariant)

pub returns-clause-arena : goal.returns-clause-arena
returns-clause-arena c =
    let seen : Forest = record { exprs = c.self.inside.exprs.items; stmts = c.self.inside.stmts.items; funs = c.self.inside.funs.items } in
    rw c.in_ok-push.ensures.items (arena_with_stmt seen c.args.s c.self.invariant (rw (← c.self.view_is) at c.requires.expr_parts) (rw (← c.self.view_is) at c.requires.stmt_parts) c.requires.first (rw (← c.self.view_is) at c.requires.expr_parents) (rw (← c.self.view_is) at c.requires.stmt_parents))
