-- What one more statement does to an arena.
use Rattle.std.proofs.Common.{◌≡◌, ◌+◌, ◌≤◌, List, [], ◌∷◌, length, length-append, sym, ◌∙◌, ap, subst, arith}
use Rattle.silq_tree.specs.declared.node.ExprId.{ExprId}
use Rattle.silq_tree.specs.declared.node.StmtId.{StmtId}
use Rattle.silq_tree.specs.declared.node.Stmt.{Stmt}
use Rattle.silq_tree.specs.Arena.{Forest, IsArena, expr_at, stmt_at}
use Rattle.silq_tree.specs.Standing.{stmt_grown}
use Rattle.silq_tree.specs.Children.{stmt_exprs, stmt_stmts}
use Rattle.silq_tree.proofs.Arenas.{stmt_made}
use Rattle.silq_grammar.specs.declared.token.Token.{Token}
use Rattle.expr_parse.specs.Grown.{Grew}
use Rattle.expr_parse.specs.Reads.{IsBounded}
use Rattle.expr_parse.specs.Added.{AreFree}
use Rattle.silq_parse.specs.AddedStatement.{AreFreeStmts, IsAddedStmt}
use Rattle.expr_parse.proofs.Growing.{may_name, may_name_stmts, grew_stmt}

pub added_stands : {mid new : Forest} {s : Stmt} {id : StmtId} → IsAddedStmt mid new s id → stmt_at new id ≡ stmt_grown (expr_at mid) (stmt_at mid) s
added_stands {mid} {new} {s} {id} a = subst (λ w. stmt_at w id ≡ stmt_grown (expr_at mid) (stmt_at mid) s) (sym a.is) (stmt_made mid s id a.number)

pub added_grew : {old mid new : Forest} {s : Stmt} {id : StmtId} → IsAddedStmt mid new s id → Grew old mid (stmt_exprs s) (stmt_stmts s) → Grew old new [] (id ∷ [])
added_grew {old} {mid} {new} {s} {id} a g = subst (λ w. Grew old w [] (id ∷ [])) (sym a.is) (grew_stmt s id a.arena g a.number)

pub added_bounded : {old mid new : Forest} {s : Stmt} {id : StmtId} (us r ts rest : List Token) → IsAddedStmt mid new s id → IsBounded old mid us r → length rest ≤ length r
    → length us + 1 ≤ length ts → IsBounded old new ts rest
added_bounded {old} {mid} {new} {s} {id} us r ts rest a b l m =
    let e : length new.exprs ≡ length mid.exprs = ap (λ w. length w.exprs) a.is in
    let f : length new.stmts ≡ length mid.stmts + 1 = ap (λ w. length w.stmts) a.is ∙ length-append mid.stmts (s ∷ []) in
    record { exprs = omega (arith, b.exprs); stmts = omega (arith, b.stmts) }

pub free : {old mid : Forest} {xs : List ExprId} {ss : List StmtId} → IsArena mid → Grew old mid xs ss → AreFree mid xs
free a g = record { there = g.exprs_there; parents = may_name a g }

pub free_stmts : {old mid : Forest} {xs : List ExprId} {ss : List StmtId} → IsArena mid → Grew old mid xs ss → AreFreeStmts mid ss
free_stmts a g = record { there = g.stmts_there; parents = may_name_stmts a g }
