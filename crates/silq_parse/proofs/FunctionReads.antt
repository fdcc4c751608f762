-- What the function for functions has read.
use Rattle.std.proofs.Common.{◌≡◌, ℕ, ◌+◌, ◌<◌, ◌≤◌, ◌⊎◌, inl, inr, List, [], ◌∷◌, ◌++◌, length, length-append, map, flat_map, sym, ◌∙◌, ap, subst, append_assoc, append-nil, arith}
use Rattle.silq_tree.specs.declared.node.ExprId.{ExprId}
use Rattle.silq_tree.specs.declared.node.StmtId.{StmtId}
use Rattle.silq_tree.specs.declared.node.NameId.{NameId}
use Rattle.silq_tree.specs.declared.node.FunId.{FunId}
use Rattle.silq_tree.specs.declared.node.Spot.{Spot}
use Rattle.silq_tree.specs.declared.node.Mark.{Mark}
use Rattle.silq_tree.specs.declared.node.Block.{Block}
use Rattle.silq_tree.specs.declared.node.Fun.{Fun}
use Rattle.silq_tree.specs.declared.node.TypeNode.{TypeNode}
use Rattle.silq_tree.specs.declared.node.ParamNode.{ParamNode}
use Rattle.silq_tree.specs.Arena.{Forest, IsArena, KeepsTrees, expr_at, stmt_at, fun_at, expr_parents, stmt_parents, with_fun}
use Rattle.silq_tree.specs.Standing.{type_of, param_of, block_of, fun_grown}
use Rattle.silq_tree.specs.Children.{type_exprs, param_exprs, fun_exprs, fun_stmts}
use Rattle.silq_tree.proofs.Arenas.{expr_parents-with_fun, stmt_parents-with_fun, kept_with_fun, fun_made}
use Rattle.silq_grammar.specs.declared.token.Token.{Token}
use Rattle.silq_grammar.specs.declared.token.Token.TheVariants.{Name, Fixed}
use Rattle.silq_grammar.specs.declared.token.Terminal.TheVariants as t
use Rattle.silq_grammar.specs.Grammar as g
use Rattle.silq_grammar.specs.Spelled.{block_text, static_part_text, param_part_text, mark_text, result_part_text}
use Rattle.silq_grammar.specs.Trees.{block_tree, static_part_tree, param_part_tree, mark_tree, result_part_tree, function_tree}
use Rattle.expr_parse.specs.Grown.{Grew}
use Rattle.expr_parse.specs.Reads.{ReadsPart}
use Rattle.silq_parse.specs.Parts.{SpellsStaticPart, SpellsMark}
use Rattle.expr_parse.specs.Added.{AreFree}
use Rattle.silq_parse.specs.AddedStatement.{AreFreeStmts}
use Rattle.silq_parse.specs.Functions.{AreOwned, IsAddedFun, ReadsFunction}
use Rattle.expr_parse.proofs.Growing.{grew_then, kept_then}
use Rattle.silq_parse.proofs.AddedStatements.{free, free_stmts}
use Rattle.silq_parse.proofs.SimpleReads.{one_more}
use Rattle.silq_parse.proofs.TypeReads.{types_kept}
use Rattle.silq_parse.proofs.HeaderReads.{params_kept}

split : (m n : ℕ) → (n < m) ⊎ (m ≤ n)
split m n = grind arith

-- what a function does to an arena that grew by what it names
pub owned : {old mid new : Forest} (f : Fun) (id : FunId) → Grew old mid (fun_exprs f) (fun_stmts f) → IsAddedFun mid new f id → AreOwned old → AreOwned new
owned {old} {mid} {new} f id x a o = subst AreOwned (sym a.is) (record { exprs = λ e l. of_expr e l (split (length old.exprs) e.number); stmts = λ s l. of_stmt s l (split (length old.stmts) s.number) })
  where
    of_expr : (e : ExprId) → e.number < length mid.exprs → (e.number < length old.exprs) ⊎ (length old.exprs ≤ e.number) → expr_parents (with_fun mid f) e ≡ 1
    of_expr e l (inl p) = let u = expr_parents-with_fun mid f e in let v = x.old_expr_parents e p in let w = x.old_exprs e p in let y = o.exprs e p in omega arith
    of_expr e l (inr p) = let u = expr_parents-with_fun mid f e in let v = x.new_exprs e p l in omega arith

    of_stmt : (s : StmtId) → s.number < length mid.stmts → (s.number < length old.stmts) ⊎ (length old.stmts ≤ s.number) → stmt_parents (with_fun mid f) s ≡ 1
    of_stmt s l (inl p) = let u = stmt_parents-with_fun mid f s in let v = x.old_stmt_parents s p in let w = x.old_stmts s p in let y = o.stmts s p in omega arith
    of_stmt s l (inr p) = let u = stmt_parents-with_fun mid f s in let v = x.new_stmts s p l in omega arith

all_grew : {old m1 m2 m3 : Forest} {es fs : List ExprId} {ss : List StmtId} → Grew old m1 es [] → Grew m1 m2 fs [] → Grew m2 m3 [] ss → Grew old m3 (es ++ fs) ss
all_grew {old} {m1} {m2} {m3} {es} {fs} {ss} x y z = subst (λ w. Grew old m3 (es ++ w) ss) (append-nil fs) (grew_then x (grew_then y z))

pub function_free : {old m1 m2 m3 : Forest} {es fs : List ExprId} {ss : List StmtId} → IsArena m3 → Grew old m1 es [] → Grew m1 m2 fs [] → Grew m2 m3 [] ss → AreFree m3 (es ++ fs) × AreFreeStmts m3 ss
function_free a x y z = (free a (all_grew x y z), free_stmts a (all_grew x y z))

five : (a b c d e rest : List Token) → a ++ (b ++ (c ++ (d ++ (e ++ rest)))) ≡ (a ++ (b ++ (c ++ (d ++ e)))) ++ rest
five a b c d e rest = simp append_assoc

grown : (f : Forest) (n : NameId) (ss : List NameId) (ps : List ParamNode) (m : Mark) (rs : List TypeNode) (b : Block) (at a : Spot)
    (dss : g.StaticPart) (dps : g.ParamPart) (dm : g.MarkPart) (dr : g.ResultPart) (db : g.Block)
    → ss ≡ static_part_tree dss → map (param_of (expr_at f)) ps ≡ param_part_tree dps → m ≡ mark_tree dm → map (type_of (expr_at f)) rs ≡ result_part_tree dr → block_of (expr_at f) (stmt_at f) b ≡ block_tree db
    → fun_grown (expr_at f) (stmt_at f) (record { name = n; statics = ss; params = ps; mark = m; results = rs; body = b; at = at }) ≡ function_tree (g.def at n a dss dps dm dr db)
grown f n ss ps m rs b at a dss dps dm dr db p q r s u = cc

pub function_reads : {old m1 m2 m3 new : Forest} {n : NameId} {ss : List NameId} {ps : List ParamNode} {m : Mark} {rs : List TypeNode} {b : Block} {ts r1 r2 r3 r4 r5 rest : List Token} {id : FunId}
    (at a : Spot) → ts ≡ Name n a ∷ r1 → SpellsStaticPart ss r1 r2
    → ReadsPart param_part_text param_part_tree old m1 r2 (map (param_of (expr_at m1)) ps) (flat_map param_exprs ps) [] r3 → SpellsMark m r3 r4
    → ReadsPart result_part_text result_part_tree m1 m2 r4 (map (type_of (expr_at m2)) rs) (flat_map type_exprs rs) [] r5
    → ReadsPart block_text block_tree m2 m3 r5 (block_of (expr_at m3) (stmt_at m3) b) [] b.items rest
    → IsAddedFun m3 new (record { name = n; statics = ss; params = ps; mark = m; results = rs; body = b; at = at }) id
    → ReadsFunction old new (Fixed t.Def at ∷ ts) id rest
function_reads {old} {m1} {m2} {m3} {new} {n} {ss} {ps} {m} {rs} {b} {ts} {r1} {r2} {r3} {r4} {r5} {rest} {id} at a p s x k y z d =
    let all : Grew old m3 (flat_map param_exprs ps ++ flat_map type_exprs rs) b.items = all_grew x.grew y.grew z.grew in
    record {
      derivation = g.def at n a s.derivation x.derivation k.derivation y.derivation z.derivation;
      spelled = ap (λ w. Fixed t.Def at ∷ w) (p ∙ ap (λ w. Name n a ∷ w)
          (s.spelled ∙ ap (λ w. static_part_text s.derivation ++ w) (x.spelled ∙ ap (λ w. param_part_text x.derivation ++ w) (k.spelled ∙ ap (λ w. mark_text k.derivation ++ w)
          (y.spelled ∙ ap (λ w. result_part_text y.derivation ++ w) z.spelled)))
          ∙ five (static_part_text s.derivation) (param_part_text x.derivation) (mark_text k.derivation) (result_part_text y.derivation) (block_text z.derivation) rest));
      stands =
          let kept = kept_then m1 m2 m3 y.grew.more_exprs y.grew.more_stmts y.grew.funs y.grew.trees z.grew.trees in
          let u = params_kept ps kept x.grew.exprs_there ∙ x.stands in
          let v = types_kept rs z.grew.trees y.grew.exprs_there ∙ y.stands in
          subst (λ w. fun_at w id ≡ function_tree (g.def at n a s.derivation x.derivation k.derivation y.derivation z.derivation)) (sym d.is)
          (fun_made m3 _ id d.number ∙ grown m3 n ss ps m rs b at a s.derivation x.derivation k.derivation y.derivation z.derivation s.named u k.named v z.stands);
      number = d.number ∙ ap length all.funs;
      added = ap (λ w. length w.funs) d.is ∙ length-append m3.funs _ ∙ ap (λ w. length w + 1) all.funs;
      trees = kept_then old m3 new all.more_exprs all.more_stmts all.funs all.trees (subst (λ w. KeepsTrees m3 w) (sym d.is) (kept_with_fun m3 _ d.arena));
      owned = owned _ id all d;
      bounded =
          let e1 = one_more p in
          let e2 = ap length s.spelled ∙ length-append (static_part_text s.derivation) r2 in
          let e3 = ap length k.spelled ∙ length-append (mark_text k.derivation) r4 in
          let f1 : length new.exprs ≡ length m3.exprs = ap (λ w. length w.exprs) d.is in
          let f2 : length new.stmts ≡ length m3.stmts = ap (λ w. length w.stmts) d.is in
          let f3 : length new.funs ≡ length old.funs + 1 = ap (λ w. length w.funs) d.is ∙ length-append m3.funs _ ∙ ap (λ w. length w + 1) all.funs in
          let h1 : length r2 ≡ length (param_part_text x.derivation) + length r3 = ap length x.spelled ∙ length-append (param_part_text x.derivation) r3 in
          let h2 : length r4 ≡ length (result_part_text y.derivation) + length r5 = ap length y.spelled ∙ length-append (result_part_text y.derivation) r5 in
          let h3 : length r5 ≡ length (block_text z.derivation) + length rest = ap length z.spelled ∙ length-append (block_text z.derivation) rest in
          record {
            exprs = omega (arith, x.bounded.exprs, y.bounded.exprs, z.bounded.exprs);
            stmts = omega (arith, x.bounded.stmts, y.bounded.stmts, z.bounded.stmts);
            funs = omega arith;
          };
    }
