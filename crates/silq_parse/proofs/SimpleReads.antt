-- What the functions for simple statements have read.
use Rattle.std.proofs.Common.{◌≡◌, ◌+◌, List, [], ◌∷◌, ◌++◌, Option, Some, None, length, length-append, refl, sym, ◌∙◌, ap, append_assoc, arith}
use Rattle.silq_tree.specs.declared.node.ExprId.{ExprId}
use Rattle.silq_tree.specs.declared.node.StmtId.{StmtId}
use Rattle.silq_tree.specs.declared.node.NameId.{NameId}
use Rattle.silq_tree.specs.declared.node.Spot.{Spot}
use Rattle.silq_tree.specs.declared.node.UpdateOp.{UpdateOp}
use Rattle.silq_tree.specs.declared.node.Stmt.TheVariants as stmts
use Rattle.silq_tree.specs.Syntax as tree
use Rattle.silq_tree.specs.Arena.{Forest, expr_at, stmt_at}
use Rattle.silq_tree.specs.Standing.{stmt_grown}
use Rattle.silq_tree.specs.Children.{listed}
use Rattle.silq_grammar.specs.declared.token.Token.{Token}
use Rattle.silq_grammar.specs.declared.token.Token.TheVariants.{Name, Fixed}
use Rattle.silq_grammar.specs.declared.token.Terminal.TheVariants as t
use Rattle.silq_grammar.specs.Grammar.{Stmt, spread, forget, forget_as, phase, return_nothing, return_value}
use Rattle.silq_grammar.specs.Spelled.{expr_text, stmt_text, names_text}
use Rattle.silq_grammar.specs.Trees.{expr_tree, stmt_tree, names_tree}
use Rattle.expr_parse.specs.Reads.{ReadsExpr, ReadsStmt, ReadsPart}
use Rattle.silq_parse.specs.Parts.{change, change_sign, change_text, change_tree, SpellsTuple, ForgetPart, no_value, a_value, forget_part_text, forget_part_tree, ReturnPart, nothing, something, return_part_text, return_part_tree, maybe}
use Rattle.silq_parse.specs.AddedStatement.{IsAddedStmt}
use Rattle.expr_parse.proofs.Growing.{grew_nothing}
use Rattle.silq_parse.proofs.AddedStatements.{added_stands, added_grew, added_bounded}

-- the length of a list that begins so
pub one_more : {ts us : List Token} {t : Token} → ts ≡ t ∷ us → length ts ≡ length us + 1
one_more {ts} {us} {t} p = ap length p ∙ (omega arith)

-- a token behind a text
pub behind_text : (xs : List Token) {ts r rest : List Token} {t : Token} → ts ≡ xs ++ r → r ≡ t ∷ rest → ts ≡ (xs ++ t ∷ []) ++ rest
behind_text xs {ts} {r} {rest} {t} p q = p ∙ ap (λ w. xs ++ w) q ∙ sym (append_assoc xs (t ∷ []) rest)

pub behind_text2 : (xs : List Token) {ts r m rest : List Token} {t u : Token} → ts ≡ xs ++ r → r ≡ t ∷ m → m ≡ u ∷ rest → ts ≡ (xs ++ t ∷ u ∷ []) ++ rest
behind_text2 xs {ts} {r} {m} {rest} {t} {u} p q s = p ∙ ap (λ w. xs ++ w) (q ∙ ap (λ w. t ∷ w) s) ∙ sym (append_assoc xs (t ∷ u ∷ []) rest)

pub change_reads : {old new : Forest} {ts r1 r2 rest : List Token} {op : Option UpdateOp} {e : ExprId} (s end : Spot)
    → ts ≡ Fixed (change_sign op) s ∷ r1 → ReadsExpr expr_text expr_tree old new r1 e r2 → r2 ≡ Fixed t.Semicolon end ∷ rest
    → ReadsPart change_text change_tree old new ts (record { op = op; value = expr_at new e }) (e ∷ []) [] rest
change_reads {old} {new} {ts} {r1} {r2} {rest} {op} {e} s end p r q = record {
  derivation = change op s r.derivation end;
  spelled = p ∙ ap (λ w. Fixed (change_sign op) s ∷ w) (behind_text (expr_text r.derivation) r.spelled q);
  stands = ap (λ w. record { op = op; value = w }) r.stands;
  grew = r.grew;
  bounded = let l = one_more p in let m = one_more q in record { exprs = omega (arith, r.bounded.exprs); stmts = omega (arith, r.bounded.stmts) };
}

pub forget_value_reads : {old new : Forest} {ts r rest : List Token} {e : ExprId} (s : Spot)
    → ts ≡ Fixed t.Is s ∷ r → ReadsExpr expr_text expr_tree old new r e rest
    → ReadsPart forget_part_text forget_part_tree old new ts (Some (expr_at new e)) (e ∷ []) [] rest
forget_value_reads {old} {new} {ts} {r} {rest} {e} s p x = record {
  derivation = a_value s x.derivation;
  spelled = p ∙ ap (λ w. Fixed t.Is s ∷ w) x.spelled;
  stands = ap Some x.stands;
  grew = x.grew;
  bounded = let l = one_more p in record { exprs = omega (arith, x.bounded.exprs); stmts = omega (arith, x.bounded.stmts) };
}

pub no_value_reads : (f : Forest) (ts : List Token) → ReadsPart forget_part_text forget_part_tree f f ts None [] [] ts
no_value_reads f ts = record { derivation = no_value; spelled = refl; stands = refl; grew = grew_nothing f; bounded = record { exprs = omega arith; stmts = omega arith } }

pub phase_reads : {old mid new : Forest} {ts r0 r1 r2 rest : List Token} {e : ExprId} {id : StmtId} (at l close end : Spot)
    → ReadsExpr expr_text expr_tree old mid r0 e r1 → IsAddedStmt mid new (stmts.Phase e at) id
    → r1 ≡ Fixed t.RightParen close ∷ r2 → r2 ≡ Fixed t.Semicolon end ∷ rest → ts ≡ Fixed t.LeftParen l ∷ r0
    → ReadsStmt stmt_text stmt_tree old new (Fixed t.Phase at ∷ ts) id rest
phase_reads {old} {mid} {new} {ts} {r0} {r1} {r2} {rest} {e} {id} at l close end r a p q o = record {
  derivation = phase at l r.derivation close end;
  spelled = ap (λ w. Fixed t.Phase at ∷ w) (o ∙ ap (λ w. Fixed t.LeftParen l ∷ w) (behind_text2 (expr_text r.derivation) r.spelled p q));
  stands = added_stands a ∙ ap (λ w. tree.phase w at) r.stands;
  grew = added_grew a r.grew;
  bounded = let x = one_more p in let y = one_more q in let z = one_more o in added_bounded r0 r1 (Fixed t.Phase at ∷ ts) rest a r.bounded (omega arith) (omega arith);
}

pub something_reads : {old new : Forest} {ts rest : List Token} {e : ExprId} → ReadsExpr expr_text expr_tree old new ts e rest
    → ReadsPart return_part_text return_part_tree old new ts (Some (expr_at new e)) (e ∷ []) [] rest
something_reads {old} {new} {ts} {rest} {e} x = record { derivation = something x.derivation; spelled = x.spelled; stands = ap Some x.stands; grew = x.grew; bounded = x.bounded }

pub nothing_reads : (f : Forest) (ts : List Token) → ReadsPart return_part_text return_part_tree f f ts None [] [] ts
nothing_reads f ts = record { derivation = nothing; spelled = refl; stands = refl; grew = grew_nothing f; bounded = record { exprs = omega arith; stmts = omega arith } }

return_of : Spot → Spot → ReturnPart → Stmt
return_of at end nothing = return_nothing at end
return_of at end (something e) = return_value at e end

return_of_text : (at end : Spot) (d : ReturnPart) → stmt_text (return_of at end d) ≡ Fixed t.Return at ∷ (return_part_text d ++ (Fixed t.Semicolon end ∷ []))
unfolding return_of
return_of_text at end nothing = refl
return_of_text at end (something e) = refl

return_of_tree : (f : ExprId → tree.Expression) (g : StmtId → tree.Statement) (at end : Spot) (v : Option ExprId) (d : ReturnPart) → maybe f v ≡ return_part_tree d
    → stmt_grown f g (stmts.Return v at) ≡ stmt_tree (return_of at end d)
unfolding return_of
return_of_tree f g at end None nothing p = refl
return_of_tree f g at end None (something e) p = cc
return_of_tree f g at end (Some x) nothing p = cc
return_of_tree f g at end (Some x) (something e) p = let q : f x ≡ expr_tree e = cc in ap (λ w. tree.return_value w at) q

pub return_reads : {old mid new : Forest} {ts r1 rest : List Token} {v : Option ExprId} {id : StmtId} (at end : Spot)
    → ReadsPart return_part_text return_part_tree old mid ts (maybe (expr_at mid) v) (listed v) [] r1 → IsAddedStmt mid new (stmts.Return v at) id → r1 ≡ Fixed t.Semicolon end ∷ rest
    → ReadsStmt stmt_text stmt_tree old new (Fixed t.Return at ∷ ts) id rest
return_reads {old} {mid} {new} {ts} {r1} {rest} {v} {id} at end r a p = record {
  derivation = return_of at end r.derivation;
  spelled = ap (λ w. Fixed t.Return at ∷ w) (behind_text (return_part_text r.derivation) r.spelled p) ∙ ap (λ w. w ++ rest) (sym (return_of_text at end r.derivation));
  stands = added_stands a ∙ return_of_tree (expr_at mid) (stmt_at mid) at end v r.derivation r.stands;
  grew = added_grew a r.grew;
  bounded = let x = one_more p in added_bounded ts r1 (Fixed t.Return at ∷ ts) rest a r.bounded (omega arith) (omega arith);
}

pub spread_reads : {old mid new : Forest} {names : List NameId} {ts r1 r2 r3 rest : List Token} {e : ExprId} {id : StmtId} (at s end : Spot)
    → SpellsTuple names ts r1 → r1 ≡ Fixed t.Becomes s ∷ r2 → ReadsExpr expr_text expr_tree old mid r2 e r3 → r3 ≡ Fixed t.Semicolon end ∷ rest
    → IsAddedStmt mid new (stmts.Spread names e at) id → ReadsStmt stmt_text stmt_tree old new (Fixed t.LeftParen at ∷ ts) id rest
spread_reads {old} {mid} {new} {names} {ts} {r1} {r2} {r3} {rest} {e} {id} at s end n p r q a = record {
  derivation = spread at n.first n.at n.comma n.others n.close s r.derivation end;
  spelled = ap (λ w. Fixed t.LeftParen at ∷ w)
      (n.spelled ∙ ap (λ w. Name n.first n.at ∷ Fixed t.Comma n.comma ∷ w)
      (ap (λ w. names_text n.others ++ (Fixed t.RightParen n.close ∷ w)) (p ∙ ap (λ w. Fixed t.Becomes s ∷ w) (behind_text (expr_text r.derivation) r.spelled q))
      ∙ sym (append_assoc (names_text n.others) (Fixed t.RightParen n.close ∷ Fixed t.Becomes s ∷ (expr_text r.derivation ++ (Fixed t.Semicolon end ∷ []))) rest)));
  stands = added_stands a ∙ ap (λ w. tree.spread w (expr_at mid e) at) n.named ∙ ap (λ w. tree.spread (n.first ∷ names_tree n.others) w at) r.stands;
  grew = added_grew a r.grew;
  bounded =
      let x = one_more p in let y = one_more q in
      let z : length ts ≡ length (names_text n.others ++ (Fixed t.RightParen n.close ∷ r1)) + 2 = ap length n.spelled ∙ omega arith in
      let w = length-append (names_text n.others) (Fixed t.RightParen n.close ∷ r1) in
      added_bounded r2 r3 (Fixed t.LeftParen at ∷ ts) rest a r.bounded (omega arith) (omega arith);
}

forget_of : (n : NameId) (at l a close end : Spot) → ForgetPart → Stmt
forget_of n at l a close end no_value = forget at l n a close end
forget_of n at l a close end (a_value i e) = forget_as at l n a i e close end

forget_of_text : (n : NameId) (at l a close end : Spot) (d : ForgetPart)
    → stmt_text (forget_of n at l a close end d) ≡ Fixed t.Forget at ∷ Fixed t.LeftParen l ∷ Name n a ∷ (forget_part_text d ++ (Fixed t.RightParen close ∷ Fixed t.Semicolon end ∷ []))
unfolding forget_of
forget_of_text n at l a close end no_value = refl
forget_of_text n at l a close end (a_value i e) = refl

forget_of_tree : (f : ExprId → tree.Expression) (g : StmtId → tree.Statement) (n : NameId) (at l a close end : Spot) (v : Option ExprId) (d : ForgetPart) → maybe f v ≡ forget_part_tree d
    → stmt_grown f g (stmts.Forget n v at) ≡ stmt_tree (forget_of n at l a close end d)
unfolding forget_of
forget_of_tree f g n at l a close end None no_value p = refl
forget_of_tree f g n at l a close end None (a_value i e) p = cc
forget_of_tree f g n at l a close end (Some x) no_value p = cc
forget_of_tree f g n at l a close end (Some x) (a_value i e) p = let q : f x ≡ expr_tree e = cc in ap (λ w. tree.forget_value n w at) q

pub forget_reads : {old mid new : Forest} {n : NameId} {v : Option ExprId} {ts r0 r1 r2 r3 rest : List Token} {id : StmtId} (at l a close end : Spot)
    → r0 ≡ Name n a ∷ r1 → ReadsPart forget_part_text forget_part_tree old mid r1 (maybe (expr_at mid) v) (listed v) [] r2
    → IsAddedStmt mid new (stmts.Forget n v at) id → r2 ≡ Fixed t.RightParen close ∷ r3 → r3 ≡ Fixed t.Semicolon end ∷ rest → ts ≡ Fixed t.LeftParen l ∷ r0
    → ReadsStmt stmt_text stmt_tree old new (Fixed t.Forget at ∷ ts) id rest
forget_reads {old} {mid} {new} {n} {v} {ts} {r0} {r1} {r2} {r3} {rest} {id} at l a close end m r d p q o = record {
  derivation = forget_of n at l a close end r.derivation;
  spelled =
      ap (λ w. Fixed t.Forget at ∷ w) (o ∙ ap (λ w. Fixed t.LeftParen l ∷ w) (m ∙ ap (λ w. Name n a ∷ w) (behind_text2 (forget_part_text r.derivation) r.spelled p q)))
      ∙ ap (λ w. w ++ rest) (sym (forget_of_text n at l a close end r.derivation));
  stands = added_stands d ∙ forget_of_tree (expr_at mid) (stmt_at mid) n at l a close end v r.derivation r.stands;
  grew = added_grew d r.grew;
  bounded =
      let x = one_more p in let y = one_more q in let z = one_more o in let w = one_more m in
      added_bounded r1 r2 (Fixed t.Forget at ∷ ts) rest d r.bounded (omega arith) (omega arith);
}
