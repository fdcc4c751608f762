-- What the functions for blocks, and for the statements that hold them, have read.
use Rattle.std.proofs.Common.{◌≡◌, List, [], ◌∷◌, ◌++◌, refl, sym, ◌∙◌, ap, subst, append_assoc, append-nil, arith}
use Rattle.silq_tree.specs.declared.node.ExprId.{ExprId}
use Rattle.silq_tree.specs.declared.node.StmtId.{StmtId}
use Rattle.silq_tree.specs.declared.node.NameId.{NameId}
use Rattle.silq_tree.specs.declared.node.Spot.{Spot}
use Rattle.silq_tree.specs.declared.node.Block as nodes
use Rattle.silq_tree.specs.declared.node.Else.{Else}
use Rattle.silq_tree.specs.declared.node.Stmt.TheVariants as stmts
use Rattle.silq_tree.specs.Syntax as tree
use Rattle.silq_tree.specs.Arena.{Forest, IsArena, expr_at, stmt_at}
use Rattle.silq_tree.specs.Standing.{statements_of, block_of, otherwise_of}
use Rattle.silq_tree.specs.Children.{else_stmts}
use Rattle.silq_grammar.specs.declared.token.Token.{Token}
use Rattle.silq_grammar.specs.declared.token.Token.TheVariants.{Name, Fixed}
use Rattle.silq_grammar.specs.declared.token.Terminal.TheVariants as t
use Rattle.silq_grammar.specs.Grammar as g
use Rattle.silq_grammar.specs.Spelled.{expr_text, stmt_text, stmts_text, block_text, choice_text}
use Rattle.silq_grammar.specs.Trees.{expr_tree, stmt_tree, stmts_tree, block_tree, block_end, choice_tree}
use Rattle.expr_parse.specs.Grown.{Grew}
use Rattle.expr_parse.specs.Reads.{IsBounded, ReadsExpr, ReadsStmt, ReadsPart}
use Rattle.silq_parse.specs.Parts.{Rest, missing, with_block, with_choice, rest_text, rest_tree, Between, between, between_text, between_tree}
use Rattle.silq_parse.specs.AddedStatement.{IsAddedStmt, AreFreeStmts}
use Rattle.expr_parse.specs.Added.{AreFree}
use Rattle.expr_parse.proofs.Growing.{grew_nothing, grew_then, statements_kept}
use Rattle.silq_parse.proofs.AddedStatements.{added_stands, added_grew, added_bounded, free, free_stmts}
use Rattle.silq_parse.proofs.SimpleReads.{one_more, behind_text}

pub no_statement : (f : Forest) (ts : List Token) → ReadsPart stmts_text stmts_tree f f ts tree.done [] [] ts
no_statement f ts = record { derivation = g.none; spelled = refl; stands = refl; grew = grew_nothing f; bounded = record { exprs = omega arith; stmts = omega arith } }

snoc : g.Stmts → g.Stmt → g.Stmts
snoc g.none s = g.more s g.none
snoc (g.more a b) s = g.more a (snoc b s)

snoc_text : (b : g.Stmts) (s : g.Stmt) → stmts_text (snoc b s) ≡ stmts_text b ++ stmt_text s
unfolding snoc
snoc_text g.none s = append-nil (stmt_text s)
snoc_text (g.more a b) s = ap (λ w. stmt_text a ++ w) (snoc_text b s) ∙ sym (append_assoc (stmt_text a) (stmts_text b) (stmt_text s))

snoc_tree : (f : ExprId → tree.Expression) (h : StmtId → tree.Statement) (ids : List StmtId) (id : StmtId) (b : g.Stmts) (s : g.Stmt)
    → statements_of f h ids ≡ stmts_tree b → h id ≡ stmt_tree s → statements_of f h (ids ++ id ∷ []) ≡ stmts_tree (snoc b s)
unfolding snoc
snoc_tree f h [] id g.none s p q = ap (λ w. tree.next w tree.done) q
snoc_tree f h [] id (g.more a b) s p q = cc
snoc_tree f h (x ∷ ids) id g.none s p q = cc
snoc_tree f h (x ∷ ids) id (g.more a b) s p q =
    let u : statements_of f h ids ≡ stmts_tree b = cc in let v : h x ≡ stmt_tree a = cc in let w = snoc_tree f h ids id b s u q in cc

pub one_statement : {old mid new : Forest} {items : List StmtId} {ts r rest : List Token} {id : StmtId}
    → ReadsPart stmts_text stmts_tree old mid ts (statements_of (expr_at mid) (stmt_at mid) items) [] items r → ReadsStmt stmt_text stmt_tree mid new r id rest
    → ReadsPart stmts_text stmts_tree old new ts (statements_of (expr_at new) (stmt_at new) (items ++ id ∷ [])) [] (items ++ id ∷ []) rest
one_statement {old} {mid} {new} {items} {ts} {r} {rest} {id} x y = record {
  derivation = snoc x.derivation y.derivation;
  spelled = x.spelled ∙ ap (λ w. stmts_text x.derivation ++ w) y.spelled ∙ sym (append_assoc (stmts_text x.derivation) (stmt_text y.derivation) rest)
      ∙ ap (λ w. w ++ rest) (sym (snoc_text x.derivation y.derivation));
  stands = snoc_tree (expr_at new) (stmt_at new) items id x.derivation y.derivation (statements_kept items y.grew.trees x.grew.stmts_there ∙ x.stands) y.stands;
  grew = grew_then x.grew y.grew;
  bounded = record { exprs = omega (arith, x.bounded.exprs, y.bounded.exprs); stmts = omega (arith, x.bounded.stmts, y.bounded.stmts) };
}

pub closed_block : {old new : Forest} {made : tree.Statements} {items : List StmtId} {ts r rest : List Token} (end l : Spot)
    → ReadsPart stmts_text stmts_tree old new ts made [] items r → r ≡ Fixed t.RightBrace end ∷ rest
    → ReadsPart block_text block_tree old new (Fixed t.LeftBrace l ∷ ts) (tree.block made end) [] items rest
closed_block {old} {new} {made} {items} {ts} {r} {rest} end l x p = record {
  derivation = g.braces l x.derivation end;
  spelled = ap (λ w. Fixed t.LeftBrace l ∷ w) (behind_text (stmts_text x.derivation) x.spelled p);
  stands = ap (λ w. tree.block w end) x.stands;
  grew = x.grew;
  bounded = let y = one_more p in record { exprs = omega (arith, x.bounded.exprs); stmts = omega (arith, x.bounded.stmts) };
}

-- the same of equal tokens
pub part_of : {D T : Type 0} {text : D → List Token} {tr : D → T} {old new : Forest} {ts us rest : List Token} {made : T} {es : List ExprId} {ss : List StmtId}
    → ReadsPart text tr old new us made es ss rest → ts ≡ us → ReadsPart text tr old new ts made es ss rest
part_of {D} {T} {text} {tr} {old} {new} {ts} {us} {rest} {made} {es} {ss} x p = subst (λ w. ReadsPart text tr old new w made es ss rest) (sym p) x

pub stmt_of : {D : Type 0} {text : D → List Token} {tr : D → tree.Statement} {old new : Forest} {ts us rest : List Token} {id : StmtId}
    → ReadsStmt text tr old new us id rest → ts ≡ us → ReadsStmt text tr old new ts id rest
stmt_of {D} {text} {tr} {old} {new} {ts} {us} {rest} {id} x p = subst (λ w. ReadsStmt text tr old new w id rest) (sym p) x

pub no_else : (f : Forest) (end : Spot) (ts : List Token) → ReadsPart rest_text (rest_tree end) f f ts (tree.else_block (tree.block tree.done end)) [] [] ts
no_else f end ts = record { derivation = missing; spelled = refl; stands = refl; grew = grew_nothing f; bounded = record { exprs = omega arith; stmts = omega arith } }

pub else_block : {old new : Forest} {made : tree.Block} {items : List StmtId} {ts rest : List Token} (at end : Spot)
    → ReadsPart block_text block_tree old new ts made [] items rest → ReadsPart rest_text (rest_tree end) old new (Fixed t.Else at ∷ ts) (tree.else_block made) [] items rest
else_block {old} {new} {made} {items} {ts} {rest} at end x = record {
  derivation = with_block at x.derivation;
  spelled = ap (λ w. Fixed t.Else at ∷ w) x.spelled;
  stands = ap tree.else_block x.stands;
  grew = x.grew;
  bounded = record { exprs = omega (arith, x.bounded.exprs); stmts = omega (arith, x.bounded.stmts) };
}

pub else_choice : {old new : Forest} {id : StmtId} {ts rest : List Token} (at end : Spot)
    → ReadsStmt choice_text choice_tree old new ts id rest → ReadsPart rest_text (rest_tree end) old new (Fixed t.Else at ∷ ts) (tree.else_choice (stmt_at new id)) [] (id ∷ []) rest
else_choice {old} {new} {id} {ts} {rest} at end x = record {
  derivation = with_choice at x.derivation;
  spelled = ap (λ w. Fixed t.Else at ∷ w) x.spelled;
  stands = ap tree.else_choice x.stands;
  grew = x.grew;
  bounded = record { exprs = omega (arith, x.bounded.exprs); stmts = omega (arith, x.bounded.stmts) };
}

pub chosen : {old new : Forest} {id : StmtId} {ts rest : List Token} → ReadsStmt choice_text choice_tree old new ts id rest → ReadsStmt stmt_text stmt_tree old new ts id rest
chosen x = record { derivation = g.choose x.derivation; spelled = x.spelled; stands = x.stands; grew = x.grew; bounded = x.bounded }

choice_of : Spot → g.Expr → g.Block → Rest → g.Choice
choice_of s e b missing = g.only s e b
choice_of s e b (with_block o d) = g.either s e b o d
choice_of s e b (with_choice o c) = g.chain s e b o c

choice_of_text : (s : Spot) (e : g.Expr) (b : g.Block) (r : Rest) → choice_text (choice_of s e b r) ≡ Fixed t.If s ∷ (expr_text e ++ (block_text b ++ rest_text r))
unfolding choice_of
choice_of_text s e b missing = ap (λ w. Fixed t.If s ∷ (expr_text e ++ w)) (sym (append-nil (block_text b)))
choice_of_text s e b (with_block o d) = refl
choice_of_text s e b (with_choice o c) = refl

choice_of_tree : (s : Spot) (e : g.Expr) (b : g.Block) (r : Rest) → choice_tree (choice_of s e b r) ≡ tree.choice (expr_tree e) (block_tree b) (rest_tree (block_end b) r) s
unfolding choice_of
choice_of_tree s e b missing = refl
choice_of_tree s e b (with_block o d) = refl
choice_of_tree s e b (with_choice o c) = refl

end_of : tree.Block → Spot
end_of (tree.block b s) = s

end_same : (b : g.Block) (made : tree.Statements) (end : Spot) → tree.block made end ≡ block_tree b → block_end b ≡ end
end_same (g.braces l b r) made end p = cc

three : (a b c rest : List Token) → a ++ (b ++ (c ++ rest)) ≡ (a ++ (b ++ c)) ++ rest
three a b c rest = simp append_assoc

pub choice_free : {old m1 m2 m3 : Forest} {e : ExprId} {then_ else_ : List StmtId} → IsArena m3 → Grew old m1 (e ∷ []) [] → Grew m1 m2 [] then_ → Grew m2 m3 [] else_
    → AreFree m3 (e ∷ []) × AreFreeStmts m3 (then_ ++ else_)
choice_free a x y z = (free a (grew_then x (grew_then y z)), free_stmts a (grew_then x (grew_then y z)))

pub choice_reads : {old m1 m2 m3 new : Forest} {e : ExprId} {then_ : nodes.Block} {other : Else} {ts r1 r2 rest : List Token} {id : StmtId} (at : Spot)
    → ReadsExpr expr_text expr_tree old m1 ts e r1 → ReadsPart block_text block_tree m1 m2 r1 (block_of (expr_at m2) (stmt_at m2) then_) [] then_.items r2
    → ReadsPart rest_text (rest_tree then_.end) m2 m3 r2 (otherwise_of (expr_at m3) (stmt_at m3) other) [] (else_stmts other) rest
    → IsAddedStmt m3 new (stmts.If e then_ other at) id → ReadsStmt choice_text choice_tree old new (Fixed t.If at ∷ ts) id rest
choice_reads {old} {m1} {m2} {m3} {new} {e} {then_} {other} {ts} {r1} {r2} {rest} {id} at x y z a = record {
  derivation = choice_of at x.derivation y.derivation z.derivation;
  spelled = ap (λ w. Fixed t.If at ∷ w)
      (x.spelled ∙ ap (λ w. expr_text x.derivation ++ w) (y.spelled ∙ ap (λ w. block_text y.derivation ++ w) z.spelled) ∙ three (expr_text x.derivation) (block_text y.derivation) (rest_text z.derivation) rest)
      ∙ ap (λ w. w ++ rest) (sym (choice_of_text at x.derivation y.derivation z.derivation));
  stands =
      let p : expr_at m3 e ≡ expr_tree x.derivation = z.grew.trees.exprs e (omega (arith, y.grew.more_exprs, x.grew.exprs_there.0)) ∙ y.grew.trees.exprs e x.grew.exprs_there.0 ∙ x.stands in
      let q : block_of (expr_at m3) (stmt_at m3) then_ ≡ block_tree y.derivation = ap (λ w. tree.block w then_.end) (statements_kept then_.items z.grew.trees y.grew.stmts_there) ∙ y.stands in
      let s : otherwise_of (expr_at m3) (stmt_at m3) other ≡ rest_tree (block_end y.derivation) z.derivation =
      z.stands ∙ ap (λ w. rest_tree w z.derivation) (sym (end_same y.derivation (statements_of (expr_at m2) (stmt_at m2) then_.items) then_.end y.stands)) in
      added_stands a ∙ ap (λ w. tree.choice w (block_of (expr_at m3) (stmt_at m3) then_) (otherwise_of (expr_at m3) (stmt_at m3) other) at) p
      ∙ ap (λ w. tree.choice (expr_tree x.derivation) w (otherwise_of (expr_at m3) (stmt_at m3) other) at) q ∙ ap (λ w. tree.choice (expr_tree x.derivation) (block_tree y.derivation) w at) s
      ∙ sym (choice_of_tree at x.derivation y.derivation z.derivation);
  grew = added_grew a (grew_then x.grew (grew_then y.grew z.grew));
  bounded =
      let c : IsBounded old m3 ts rest = record { exprs = omega (arith, x.bounded.exprs, y.bounded.exprs, z.bounded.exprs); stmts = omega (arith, x.bounded.stmts, y.bounded.stmts, z.bounded.stmts) } in
      added_bounded ts rest (Fixed t.If at ∷ ts) rest a c (omega arith) (omega arith);
}

pub between_reads : {old mid new : Forest} {ts r0 r1 r2 r3 rest : List Token} {a b : ExprId} (l d r : Spot)
    → ts ≡ Fixed t.LeftBracket l ∷ r0 → ReadsExpr expr_text expr_tree old mid r0 a r1 → r1 ≡ Fixed t.Dots d ∷ r2 → ReadsExpr expr_text expr_tree mid new r2 b r3 → r3 ≡ Fixed t.RightParen r ∷ rest
    → ReadsPart between_text between_tree old new ts (record { low = expr_at new a; high = expr_at new b }) (a ∷ b ∷ []) [] rest
between_reads {old} {mid} {new} {ts} {r0} {r1} {r2} {r3} {rest} {a} {b} l d r p x q y s = record {
  derivation = between l x.derivation d y.derivation r;
  spelled = p ∙ ap (λ w. Fixed t.LeftBracket l ∷ w)
      (x.spelled ∙ ap (λ w. expr_text x.derivation ++ w) (q ∙ ap (λ w. Fixed t.Dots d ∷ w) (behind_text (expr_text y.derivation) y.spelled s))
      ∙ sym (append_assoc (expr_text x.derivation) (Fixed t.Dots d ∷ (expr_text y.derivation ++ (Fixed t.RightParen r ∷ []))) rest));
  stands = let u : expr_at new a ≡ expr_tree x.derivation = y.grew.trees.exprs a x.grew.exprs_there.0 ∙ x.stands in let v = y.stands in cc;
  grew = grew_then x.grew y.grew;
  bounded = let u = one_more p in let v = one_more q in let w = one_more s in
      record { exprs = omega (arith, x.bounded.exprs, y.bounded.exprs); stmts = omega (arith, x.bounded.stmts, y.bounded.stmts) };
}

loop_of : Spot → NameId → Spot → Spot → Between → g.Block → g.Stmt
loop_of s n a i (between l e d f r) b = g.loop s n a i l e d f r b

loop_of_text : (s : Spot) (n : NameId) (a i : Spot) (c : Between) (b : g.Block) → stmt_text (loop_of s n a i c b) ≡ Fixed t.For s ∷ Name n a ∷ Fixed t.In i ∷ (between_text c ++ block_text b)
unfolding loop_of
loop_of_text s n a i (between l e d f r) b = simp append_assoc

loop_of_tree : (s : Spot) (n : NameId) (a i : Spot) (c : Between) (b : g.Block) (low high : tree.Expression) (made : tree.Block) → record { low = low; high = high } ≡ between_tree c → made ≡ block_tree b
    → tree.loop n low high made s ≡ stmt_tree (loop_of s n a i c b)
unfolding loop_of
loop_of_tree s n a i (between l e d f r) b low high made p q = let u : low ≡ expr_tree e = ap (λ w. w.low) p in let v : high ≡ expr_tree f = ap (λ w. w.high) p in cc

pub loop_reads : {old m1 m2 new : Forest} {n : NameId} {low high : ExprId} {body : nodes.Block} {ts r0 r1 r2 rest : List Token} {id : StmtId} (at a i : Spot)
    → ts ≡ Name n a ∷ r0 → r0 ≡ Fixed t.In i ∷ r1
    → ReadsPart between_text between_tree old m1 r1 (record { low = expr_at m1 low; high = expr_at m1 high }) (low ∷ high ∷ []) [] r2
    → ReadsPart block_text block_tree m1 m2 r2 (block_of (expr_at m2) (stmt_at m2) body) [] body.items rest
    → IsAddedStmt m2 new (stmts.For n low high body at) id → ReadsStmt stmt_text stmt_tree old new (Fixed t.For at ∷ ts) id rest
loop_reads {old} {m1} {m2} {new} {n} {low} {high} {body} {ts} {r0} {r1} {r2} {rest} {id} at a i p q x y d = record {
  derivation = loop_of at n a i x.derivation y.derivation;
  spelled = ap (λ w. Fixed t.For at ∷ w) (p ∙ ap (λ w. Name n a ∷ w) (q ∙ ap (λ w. Fixed t.In i ∷ w)
      (x.spelled ∙ ap (λ w. between_text x.derivation ++ w) y.spelled ∙ sym (append_assoc (between_text x.derivation) (block_text y.derivation) rest))))
      ∙ ap (λ w. w ++ rest) (sym (loop_of_text at n a i x.derivation y.derivation));
  stands =
      let u = y.grew.trees.exprs low x.grew.exprs_there.0 in let v = y.grew.trees.exprs high x.grew.exprs_there.1.0 in
      let w : record { low = expr_at m2 low; high = expr_at m2 high } ≡ between_tree x.derivation = cc (u, v, x.stands) in
      added_stands d ∙ loop_of_tree at n a i x.derivation y.derivation (expr_at m2 low) (expr_at m2 high) (block_of (expr_at m2) (stmt_at m2) body) w y.stands;
  grew = added_grew d (grew_then x.grew y.grew);
  bounded =
      let u = one_more p in let v = one_more q in
      let c : IsBounded old m2 ts rest = record { exprs = omega (arith, x.bounded.exprs, y.bounded.exprs); stmts = omega (arith, x.bounded.stmts, y.bounded.stmts) } in
      added_bounded ts rest (Fixed t.For at ∷ ts) rest d c (omega arith) (omega arith);
}

pub no_items : (f : Forest) (ts : List Token) (ids : List StmtId) → ids ≡ [] → ReadsPart stmts_text stmts_tree f f ts (statements_of (expr_at f) (stmt_at f) ids) [] ids ts
no_items f ts ids e = subst (λ w. ReadsPart stmts_text stmts_tree f f ts (statements_of (expr_at f) (stmt_at f) w) [] w ts) (sym e) (no_statement f ts)

pub next_statement : {old mid new : Forest} {items ids : List StmtId} {ts r rest : List Token} {id : StmtId} → ids ≡ items ++ id ∷ []
    → ReadsPart stmts_text stmts_tree old mid ts (statements_of (expr_at mid) (stmt_at mid) items) [] items r → ReadsStmt stmt_text stmt_tree mid new r id rest
    → ReadsPart stmts_text stmts_tree old new ts (statements_of (expr_at new) (stmt_at new) ids) [] ids rest
next_statement {old} {mid} {new} {items} {ids} {ts} {r} {rest} {id} e x y =
    subst (λ w. ReadsPart stmts_text stmts_tree old new ts (statements_of (expr_at new) (stmt_at new) w) [] w rest) (sym e) (one_statement x y)
