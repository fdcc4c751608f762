-- What the functions for statements that begin with a name have read.
use Rattle.std.proofs.Common.{◌≡◌, ◌+◌, List, [], ◌∷◌, ◌++◌, Option, Some, None, length, length-append, refl, sym, ◌∙◌, ap, append_assoc, arith}
use Rattle.silq_tree.specs.declared.node.ExprId.{ExprId}
use Rattle.silq_tree.specs.declared.node.StmtId.{StmtId}
use Rattle.silq_tree.specs.declared.node.NameId.{NameId}
use Rattle.silq_tree.specs.declared.node.Spot.{Spot}
use Rattle.silq_tree.specs.declared.node.PlaceNode.{PlaceNode}
use Rattle.silq_tree.specs.declared.node.UpdateOp.{UpdateOp}
use Rattle.silq_tree.specs.declared.node.Stmt.{Stmt}
use Rattle.silq_tree.specs.declared.node.Stmt.TheVariants as stmts
use Rattle.silq_tree.specs.Syntax as tree
use Rattle.silq_tree.specs.Arena.{Forest, IsArena, KeepsTrees, expr_at, stmt_at}
use Rattle.silq_tree.specs.Standing.{stmt_grown, place_of, part_of}
use Rattle.silq_tree.specs.Children.{listed, place_exprs, stmt_exprs, stmt_stmts, AreExprsBelow}
use Rattle.silq_grammar.specs.Tokens.{first_spot}
use Rattle.silq_grammar.specs.declared.token.Token.{Token}
use Rattle.silq_grammar.specs.declared.token.Token.TheVariants.{Name, Fixed}
use Rattle.silq_grammar.specs.declared.token.Terminal.TheVariants as t
use Rattle.silq_grammar.specs.Grammar.{Place, whole, part, part_of_part, Call, plain, with_statics, assign, update, call}
use Rattle.silq_grammar.specs.Grammar as g
use Rattle.silq_grammar.specs.Spelled.{stmt_text, place_text, call_text}
use Rattle.silq_grammar.specs.Trees.{expr_tree, stmt_tree, place_tree, call_tree}
use Rattle.expr_parse.specs.Grown.{Grew}
use Rattle.expr_parse.specs.Reads.{IsBounded, ReadsExpr, ReadsStmt, ReadsPart}
use Rattle.silq_parse.specs.Parts.{Change, change, change_text, change_tree, changed_node}
use Rattle.expr_parse.specs.Added.{AreFree}
use Rattle.silq_parse.specs.AddedStatement.{IsAddedStmt}
use Rattle.expr_parse.proofs.Growing.{grew_then}
use Rattle.silq_parse.proofs.AddedStatements.{added_stands, added_grew, added_bounded, free}
use Rattle.silq_parse.proofs.SimpleReads.{one_more, behind_text}

part_kept : {old new : Forest} (n : NameId) (a b : Option ExprId) → KeepsTrees old new → AreExprsBelow (length old.exprs) (listed a ++ listed b)
    → part_of (expr_at new) n a b ≡ part_of (expr_at old) n a b
part_kept n None b k l = refl
part_kept n (Some i) None k l = ap (λ w. tree.part n w) (k.exprs i l.0)
part_kept n (Some i) (Some j) k l = let p = k.exprs i l.0 in let q = k.exprs j l.1.0 in cc

pub place_kept : {old new : Forest} (p : PlaceNode) → KeepsTrees old new → AreExprsBelow (length old.exprs) (place_exprs p) → place_of (expr_at new) p ≡ place_of (expr_at old) p
place_kept p k l = part_kept p.name p.first p.second k l

place_first : (p : Place) (ts r : List Token) → ts ≡ place_text p ++ r → first_spot (place_text p) ≡ first_spot ts
place_first (whole n s) ts r e = ap first_spot (sym e)
place_first (part n s l x q) ts r e = ap first_spot (sym e)
place_first (part_of_part n s l x q m f u) ts r e = ap first_spot (sym e)

call_first : (c : Call) (ts r : List Token) → ts ≡ call_text c ++ r → first_spot (call_text c) ≡ first_spot ts
call_first (plain n s l a q) ts r e = ap first_spot (sym e)
call_first (with_statics n s l x q m a u) ts r e = ap first_spot (sym e)

-- the node's expressions
changed_exprs : (p : PlaceNode) (op : Option UpdateOp) (v : ExprId) (at : Spot) → stmt_exprs (changed_node p op v at) ≡ place_exprs p ++ v ∷ []
changed_exprs p None v at = refl
changed_exprs p (Some op) v at = refl

stmts_none : (p : PlaceNode) (op : Option UpdateOp) (v : ExprId) (at : Spot) → stmt_stmts (changed_node p op v at) ≡ []
stmts_none p None v at = refl
stmts_none p (Some op) v at = refl

pub changed_free : {old mid late : Forest} {v : ExprId} (p : PlaceNode) (op : Option UpdateOp) (at : Spot) (s : Stmt) → s ≡ changed_node p op v at → IsArena late
    → Grew old mid (place_exprs p) [] → Grew mid late (v ∷ []) [] → AreFree late (stmt_exprs s)
changed_free {old} {mid} {late} {v} p op at s e a g h = rw e (rw (changed_exprs p op v at) (free a (grew_then g h)))

statement_of : Place → Change → g.Stmt
statement_of p (change None s e end) = assign p s e end
statement_of p (change (Some op) s e end) = update op p s e end

statement_of_text : (p : Place) (d : Change) → stmt_text (statement_of p d) ≡ place_text p ++ change_text d
unfolding statement_of
statement_of_text p (change None s e end) = refl
statement_of_text p (change (Some op) s e end) = refl

statement_of_tree : (f : ExprId → tree.Expression) (h : StmtId → tree.Statement) (q : Place) (d : Change) (p : PlaceNode) (op : Option UpdateOp) (v : ExprId) (at : Spot)
    → place_of f p ≡ place_tree q → record { op = op; value = f v } ≡ change_tree d → at ≡ first_spot (place_text q)
    → stmt_grown f h (changed_node p op v at) ≡ stmt_tree (statement_of q d)
unfolding statement_of
statement_of_tree f h q (change None s e end) p None v at a b c = let x : f v ≡ expr_tree e = ap (λ w. w.value) b in cc
statement_of_tree f h q (change (Some o) s e end) p None v at a b c = let x : None ≡ Some o = ap (λ w. w.op) b in cc
statement_of_tree f h q (change None s e end) p (Some o) v at a b c = let x : Some o ≡ None = ap (λ w. w.op) b in cc
statement_of_tree f h q (change (Some o) s e end) p (Some u) v at a b c =
    let x : f v ≡ expr_tree e = ap (λ w. w.value) b in let y : Some u ≡ Some o = ap (λ w. w.op) b in cc

pub assign_reads : {old mid late new : Forest} {ts r rest : List Token} {op : Option UpdateOp} {v : ExprId} {id : StmtId} {s : Stmt} (p : PlaceNode) (n : NameId) (at : Spot)
    → ReadsPart place_text place_tree old mid (Name n at ∷ ts) (place_of (expr_at mid) p) (place_exprs p) [] r
    → ReadsPart change_text change_tree mid late r (record { op = op; value = expr_at late v }) (v ∷ []) [] rest
    → s ≡ changed_node p op v at → IsAddedStmt late new s id → IsBounded old mid ts r → ReadsStmt stmt_text stmt_tree old new (Name n at ∷ ts) id rest
assign_reads {old} {mid} {late} {new} {ts} {r} {rest} {op} {v} {id} {s} p n at x y e a b = record {
  derivation = statement_of x.derivation y.derivation;
  spelled = x.spelled ∙ ap (λ w. place_text x.derivation ++ w) y.spelled ∙ sym (append_assoc (place_text x.derivation) (change_text y.derivation) rest)
      ∙ ap (λ w. w ++ rest) (sym (statement_of_text x.derivation y.derivation));
  stands = added_stands a ∙ ap (λ w. stmt_grown (expr_at late) (stmt_at late) w) e
      ∙ statement_of_tree (expr_at late) (stmt_at late) x.derivation y.derivation p op v at (place_kept p y.grew.trees x.grew.exprs_there ∙ x.stands) y.stands
      (sym (place_first x.derivation (Name n at ∷ ts) r x.spelled));
  grew = added_grew a (rw e (rw (changed_exprs p op v at) (rw (stmts_none p op v at) (grew_then x.grew y.grew))));
  bounded =
      let c : IsBounded old late ts rest = record { exprs = omega (arith, y.bounded.exprs, b.exprs); stmts = omega (arith, y.bounded.stmts, b.stmts) } in
      added_bounded ts rest (Name n at ∷ ts) rest a c (omega arith) (omega arith);
}

pub call_reads : {old mid new : Forest} {ts r rest : List Token} {c : ExprId} {id : StmtId} (n : NameId) (at end : Spot)
    → ReadsExpr call_text call_tree old mid (Name n at ∷ ts) c r → r ≡ Fixed t.Semicolon end ∷ rest → IsAddedStmt mid new (stmts.Call c at) id
    → ReadsStmt stmt_text stmt_tree old new (Name n at ∷ ts) id rest
call_reads {old} {mid} {new} {ts} {r} {rest} {c} {id} n at end x p a = record {
  derivation = call x.derivation end;
  spelled = behind_text (call_text x.derivation) x.spelled p;
  stands = added_stands a ∙ (let y = x.stands in let z : at ≡ first_spot (call_text x.derivation) = sym (call_first x.derivation (Name n at ∷ ts) r x.spelled) in cc);
  grew = added_grew a x.grew;
  bounded =
      let y = one_more p in
      record {
        exprs = let e : length new.exprs ≡ length mid.exprs = ap (λ w. length w.exprs) a.is in omega (arith, x.bounded.exprs);
        stmts = let e : length new.stmts ≡ length mid.stmts + 1 = ap (λ w. length w.stmts) a.is ∙ length-append mid.stmts (stmts.Call c at ∷ []) in omega (arith, x.bounded.stmts);
      };
}
