-- Calls of earlier functions.
use Rattle.std.proofs.Common.{◌≡◌, ℕ, List, Some, sym, ap, ◌∙◌}
use Rattle.silq_tree.specs.declared.node.NameId.{NameId}
use Rattle.silq_tree.specs.declared.node.ExprId.{ExprId}
use Rattle.silq_tree.specs.declared.node.StmtId.{StmtId}
use Rattle.silq_tree.specs.declared.node.Fun.{Fun}
use Rattle.silq_tree.specs.Arena.{expr_at, stmt_at}
use Rattle.silq_tree.specs.Standing.{fun_grown}
use Rattle.silq_tree.specs.Syntax.{Function}
use Rattle.check_scope.specs.Library.{Shelf, function_at, found_at}
use Rattle.silq_types.specs.Calls.{needs_of_own}
use Rattle.silq_types.specs.declared.need.Need.{Need}
use Rattle.silq_types.specs.declared.need.Need.TheVariants.{Held}
use Rattle.silq_mean.specs.declared.receiver.Receiver.{Receiver}
use Rattle.silq_mean.specs.Effect.{◌>>◌, step, enter_body, leave_body}
use Rattle.silq_mean.specs.Meaning.{body_of, names_of, params_of, takers_of}
use Rattle.tree_walk.specs.declared.body.Body.{Body}
use Rattle.tree_walk.specs.Seen.{seen_in, exprs_in, stmts_in, callee_in, arguments_in, own_call_in, run_in}

-- a call, with what the body of the called function sees
pub told_own_call : (l : Shelf) (b : Body) (m : ℕ) (ss args : List ExprId) (inner : Body) → inner ≡ callee_in l b m ss
    → own_call_in l b m ss args ≡ arguments_in l b inner args >> (run_in l inner >> step leave_body)
told_own_call l b m ss args inner h = ap (λ i. arguments_in l b i args >> (run_in l i >> step leave_body)) (sym h)

-- the body of a function, with its node
pub told_run : (l : Shelf) (b : Body) (node : Fun) (xs : List NameId) (ids : List StmtId)
    → function_at l b.this ≡ fun_grown (expr_at l.nodes) (stmt_at l.nodes) node → xs ≡ names_of (params_of (function_at l b.this) b.statics)
    → ids ≡ node.body.items → run_in l b ≡ step (enter_body xs) >> stmts_in l b ids
told_run l b node xs ids g e k =
    ap (λ ys. step (enter_body ys) >> body_of (function_at l b.this).body (seen_in l b)) (sym e)
    ∙ (ap (λ (h : Function). step (enter_body xs) >> body_of h.body (seen_in l b)) g
    ∙ ap (λ ys. step (enter_body xs) >> stmts_in l b ys) (sym k))

-- the arguments of a call, with what they are asked and what takes them over
pub told_arguments : (l : Shelf) (b inner : Body) (args : List ExprId) (ns : List Need) (ts : List Receiver)
    → ns ≡ needs_of_own (Some (found_at l inner.this)) → ts ≡ takers_of (params_of (function_at l inner.this) inner.statics)
    → arguments_in l b inner args ≡ exprs_in l b args Held ns ts
told_arguments l b inner args ns ts p q =
    ap (λ xs. exprs_in l b args Held xs (takers_of (params_of (function_at l inner.this) inner.statics))) (sym p)
    ∙ ap (λ xs. exprs_in l b args Held ns xs) (sym q)
