use Rattle.std.proofs.Common.{rules}
use Rattle.silq_tree.specs.Arena.{Forest}
use Rattle.silq_tree.proofs.Arenas.{arena_with_expr, kept_with_expr, expr_made}
use Rattle.silq_tree.proofs.tree.Tree.add_expr.Goals as goal

pub invariant_of-self-2 : goal.invariant_of-self-2
invariant_of-self-2 c =
    let seen : Forest = record { exprs = c.self.inside.exprs.items; stmts = c.self.inside.stmts.items; funs = c.self.inside.funs.items } in
    rw c.in_ok-push.ensures.items (arena_with_expr seen c.args.e c.self.invariant (rw (← c.self.view_is) at c.requires.parts) c.requires.first (rw (← c.self.view_is) at c.requires.parents))

pub returns-clause-made : goal.returns-clause-made
returns-clause-made c =
    let seen : Forest = record { exprs = c.self.inside.exprs.items; stmts = c.self.inside.stmts.items; funs = c.self.inside.funs.items } in
    rw (c.in_ok-push.ensures.items, ← c.self.view_is) (expr_made seen c.args.e _ (search rules))

pub returns-clause-kept : goal.returns-clause-kept
returns-clause-kept c =
    let seen : Forest = record { exprs = c.self.inside.exprs.items; stmts = c.self.inside.stmts.items; funs = c.self.inside.funs.items } in
    rw (c.in_ok-push.ensures.items, ← c.self.view_is) (kept_with_expr seen c.args.e c.self.invariant)

pub returns-clause-arena : goal.returns-clause-arena
returns-clause-arena c =
    let seen : Forest = record { exprs = c.self.inside.exprs.items; stmts = c.self.inside.stmts.items; funs = c.self.inside.funs.items } in
    rw c.in_ok-push.ensures.items (arena_with_expr seen c.args.e c.self.invariant (rw (← c.self.view_is) at c.requires.parts) c.requires.first (rw (← c.self.view_is) at c.requires.parents))
