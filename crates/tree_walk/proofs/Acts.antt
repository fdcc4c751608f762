-- What a statement does, by the form of its node.
use Rattle.std.proofs.Common.{◌≡◌, ℕ, ◌<◌, ◌≤◌, List, [], ◌∷◌, length, Option, Some, None, IfSome, refl, sym, ap, ◌∙◌, subst, arith}
use Rattle.silq_tree.specs.declared.node.NameId.{NameId}
use Rattle.silq_tree.specs.declared.node.ExprId.{ExprId}
use Rattle.silq_tree.specs.declared.node.StmtId.{StmtId}
use Rattle.silq_tree.specs.declared.node.Spot.{Spot}
use Rattle.silq_tree.specs.declared.node.PlaceNode.{PlaceNode}
use Rattle.silq_tree.specs.declared.node.Block.{Block}
use Rattle.silq_tree.specs.declared.node.Else.{Else}
use Rattle.silq_tree.specs.declared.node.UpdateOp.{UpdateOp}
use Rattle.silq_tree.specs.declared.node.Stmt.{Stmt}
use Rattle.silq_tree.specs.declared.node.Stmt.TheVariants as nodes
use Rattle.silq_tree.specs.Syntax.{Expression, Statement}
use Rattle.silq_tree.specs.Arena.{Forest, expr_at, stmt_at}
use Rattle.silq_tree.specs.Standing.{part_of, stmt_grown}
use Rattle.silq_tree.specs.Children.{AreExprsBelow, AreStmtsBelow, stmt_exprs, stmt_stmts, else_stmts, place_exprs, HasFirst, StmtHasFirst}
use Rattle.silq_tree.proofs.Lists.{stmts_top, stmts_top_le, exprs_below_front, exprs_below_back, stmts_below_front, stmts_below_back, stmts_below_more}
use Rattle.check_scope.specs.Library.{Shelf}
use Rattle.silq_types.specs.Types.{place_name}
use Rattle.silq_types.specs.declared.need.Need.TheVariants.{Held, Consumed}
use Rattle.silq_mean.specs.declared.receiver.Receiver.TheVariants.{Variable}
use Rattle.silq_mean.specs.Effect.{◌>>◌, step, receive, assign_to, update_to, turn_all}
use Rattle.silq_mean.specs.Meaning.{Scope, stmt, eighths}
use Rattle.tree_walk.specs.declared.body.Body.{Body}
use Rattle.tree_walk.specs.Seen.{seen_in, expr_in, indices_in, stmt_in, assign_in, spread_in, update_in, forget_in, return_in, choose_in}
use Rattle.tree_walk.specs.Seen.{loop_in, line_in, acts}

-- ---- the line of a statement

module _ (l : Shelf) (b : Body) (id : StmtId) where
  pub line_told : (n : Forest) (node : Stmt) (line : ℕ) → n ≡ l.nodes → stmt_at n id ≡ stmt_grown (expr_at n) (stmt_at n) node
      → ((at : ExprId → Expression) (stmts : StmtId → Statement) (sc : Scope) → line ≡ line_in (stmt (stmt_grown at stmts node) sc))
      → line ≡ line_in (stmt_in l b id)
  line_told n node line h g k =
      k (expr_at n) (stmt_at n) (seen_in l b) ∙ (ap (λ st. line_in (stmt st (seen_in l b))) (sym g) ∙ ap (λ m. line_in (stmt (stmt_at m id) (seen_in l b))) h)

-- ---- by the form of its node

name_is : (at : ExprId → Expression) (x : NameId) (i j : Option ExprId) → place_name (part_of at x i j) ≡ x
name_is at x None j = refl
name_is at x (Some i) None = refl
name_is at x (Some i) (Some j) = refl

module _ (l : Shelf) (b : Body) (id : StmtId) (n : Forest) (node : Stmt) (h : n ≡ l.nodes) (g : stmt_at n id ≡ stmt_grown (expr_at n) (stmt_at n) node) where
  by : (v : Stmt) → node ≡ v → acts (stmt_in l b id) ≡ acts (stmt (stmt_grown (expr_at l.nodes) (stmt_at l.nodes) v) (seen_in l b))
  by v q =
      ap (λ st. acts (stmt st (seen_in l b)))
      (subst (λ m. stmt_at m id ≡ stmt_grown (expr_at m) (stmt_at m) node) h g ∙ ap (λ x. stmt_grown (expr_at l.nodes) (stmt_at l.nodes) x) q)

  pub told_assign : (p : PlaceNode) (e : ExprId) (s : Spot) → node ≡ nodes.Assign p e s → acts (stmt_in l b id) ≡ assign_in l b p e
  told_assign p e s q =
      by (nodes.Assign p e s) q
      ∙ ap (λ x. expr_in l b e Consumed >> step (receive Variable) >> step (assign_to x (indices_in l b p))) (name_is (expr_at l.nodes) p.name p.first p.second)

  pub told_spread : (names xs : List NameId) (e : ExprId) (s : Spot) → node ≡ nodes.Spread names e s → xs ≡ names → acts (stmt_in l b id) ≡ spread_in l b xs e
  told_spread names xs e s q k = by (nodes.Spread names e s) q ∙ ap (λ ys. spread_in l b ys e) (sym k)

  pub told_update : (p : PlaceNode) (op : UpdateOp) (e : ExprId) (s : Spot) → node ≡ nodes.Update p op e s → acts (stmt_in l b id) ≡ update_in l b p op e
  told_update p op e s q =
      by (nodes.Update p op e s) q
      ∙ ap (λ x. expr_in l b e Held >> step (update_to x (indices_in l b p) op)) (name_is (expr_at l.nodes) p.name p.first p.second)

  pub told_phase : (e : ExprId) (s : Spot) (m : Forest) (k : ℕ) → node ≡ nodes.Phase e s → m ≡ l.nodes → k ≡ eighths b.statics (expr_at m e)
      → acts (stmt_in l b id) ≡ step (turn_all k)
  told_phase e s m k q i j =
      by (nodes.Phase e s) q ∙ ap (λ x. step (turn_all x)) (ap (λ y. eighths b.statics (expr_at y e)) (sym i) ∙ sym j)

  pub told_if : (e : ExprId) (inner : Block) (other : Else) (s : Spot) (ids : List StmtId) → node ≡ nodes.If e inner other s → ids ≡ inner.items
      → acts (stmt_in l b id) ≡ choose_in l b e ids other
  told_if e inner other s ids q k = by (nodes.If e inner other s) q ∙ ap (λ xs. choose_in l b e xs other) (sym k)

  pub told_for : (x : NameId) (low high : ExprId) (inner : Block) (s : Spot) (ids : List StmtId) → node ≡ nodes.For x low high inner s → ids ≡ inner.items
      → acts (stmt_in l b id) ≡ loop_in l b x low high ids
  told_for x low high inner s ids q k = by (nodes.For x low high inner s) q ∙ ap (λ xs. loop_in l b x low high xs) (sym k)

  pub told_return : (v : Option ExprId) (s : Spot) → node ≡ nodes.Return v s → acts (stmt_in l b id) ≡ return_in l b v
  told_return None s q = by (nodes.Return None s) q
  told_return (Some e) s q = by (nodes.Return (Some e) s) q

  pub told_do : (e : ExprId) (s : Spot) → node ≡ nodes.Call e s → acts (stmt_in l b id) ≡ expr_in l b e Consumed
  told_do e s q = by (nodes.Call e s) q

  pub told_forget : (x : NameId) (v : Option ExprId) (s : Spot) → node ≡ nodes.Forget x v s → acts (stmt_in l b id) ≡ forget_in l b s.line x v
  told_forget x None s q = by (nodes.Forget x None s) q
  told_forget x (Some e) s q = by (nodes.Forget x (Some e) s) q

-- ---- the nodes that it names

module _ (l : Shelf) (n : Forest) (node : Stmt) (h : n ≡ l.nodes) (parts : AreExprsBelow (length n.exprs) (stmt_exprs node)) where
  here : (v : Stmt) → node ≡ v → AreExprsBelow (length l.nodes.exprs) (stmt_exprs v)
  here v q =
      subst (λ x. AreExprsBelow (length l.nodes.exprs) (stmt_exprs x)) q (subst (λ (m : Forest). AreExprsBelow (length m.exprs) (stmt_exprs node)) h parts)

  pub assign_parts : (p : PlaceNode) (e : ExprId) (s : Spot) → node ≡ nodes.Assign p e s → AreExprsBelow (length l.nodes.exprs) (place_exprs p)
  assign_parts p e s q = exprs_below_front (length l.nodes.exprs) (place_exprs p) (e ∷ []) (here (nodes.Assign p e s) q)

  pub assign_value : (p : PlaceNode) (e : ExprId) (s : Spot) → node ≡ nodes.Assign p e s → e.number < length l.nodes.exprs
  assign_value p e s q = (exprs_below_back (length l.nodes.exprs) (place_exprs p) (e ∷ []) (here (nodes.Assign p e s) q)).0

  pub spread_value : (names : List NameId) (e : ExprId) (s : Spot) → node ≡ nodes.Spread names e s → e.number < length l.nodes.exprs
  spread_value names e s q = (here (nodes.Spread names e s) q).0

  pub update_parts : (p : PlaceNode) (op : UpdateOp) (e : ExprId) (s : Spot) → node ≡ nodes.Update p op e s
      → AreExprsBelow (length l.nodes.exprs) (place_exprs p)
  update_parts p op e s q = exprs_below_front (length l.nodes.exprs) (place_exprs p) (e ∷ []) (here (nodes.Update p op e s) q)

  pub update_value : (p : PlaceNode) (op : UpdateOp) (e : ExprId) (s : Spot) → node ≡ nodes.Update p op e s → e.number < length l.nodes.exprs
  update_value p op e s q = (exprs_below_back (length l.nodes.exprs) (place_exprs p) (e ∷ []) (here (nodes.Update p op e s) q)).0

  pub forget_value : (x : NameId) (v : Option ExprId) (s : Spot) → node ≡ nodes.Forget x v s → IfSome v (λ e. e.number < length l.nodes.exprs)
  forget_value x None s q = tt
  forget_value x (Some e) s q = (here (nodes.Forget x (Some e) s) q).0

  pub phase_value : (e : ExprId) (s : Spot) → node ≡ nodes.Phase e s → e.number < length l.nodes.exprs
  phase_value e s q = (here (nodes.Phase e s) q).0

  pub if_condition : (e : ExprId) (inner : Block) (other : Else) (s : Spot) → node ≡ nodes.If e inner other s → e.number < length l.nodes.exprs
  if_condition e inner other s q = (here (nodes.If e inner other s) q).0

  pub for_low : (x : NameId) (low high : ExprId) (inner : Block) (s : Spot) → node ≡ nodes.For x low high inner s → low.number < length l.nodes.exprs
  for_low x low high inner s q = (here (nodes.For x low high inner s) q).0

  pub for_high : (x : NameId) (low high : ExprId) (inner : Block) (s : Spot) → node ≡ nodes.For x low high inner s → high.number < length l.nodes.exprs
  for_high x low high inner s q = (here (nodes.For x low high inner s) q).1.0

  pub return_value : (v : Option ExprId) (s : Spot) → node ≡ nodes.Return v s → IfSome v (λ e. e.number < length l.nodes.exprs)
  return_value None s q = tt
  return_value (Some e) s q = (here (nodes.Return (Some e) s) q).0

  pub do_value : (e : ExprId) (s : Spot) → node ≡ nodes.Call e s → e.number < length l.nodes.exprs
  do_value e s q = (here (nodes.Call e s) q).0

pub assign_first : (node : Stmt) (p : PlaceNode) (e : ExprId) (s : Spot) → node ≡ nodes.Assign p e s → StmtHasFirst node → HasFirst p
assign_first node p e s q k = subst StmtHasFirst q k

pub update_first : (node : Stmt) (p : PlaceNode) (op : UpdateOp) (e : ExprId) (s : Spot) → node ≡ nodes.Update p op e s → StmtHasFirst node → HasFirst p
update_first node p op e s q k = subst StmtHasFirst q k

-- the statements that it names are earlier
module _ (k n : ℕ) (node : Stmt) (lt : k < n) (below : AreStmtsBelow k (stmt_stmts node)) where
  at_node : (v : Stmt) → node ≡ v → AreStmtsBelow k (stmt_stmts v)
  at_node v q = subst (λ x. AreStmtsBelow k (stmt_stmts x)) q below

  more_top : (xs : List StmtId) → AreStmtsBelow k xs → AreStmtsBelow n xs × (stmts_top xs ≤ k)
  more_top xs h = (stmts_below_more k n xs (omega (arith, lt)) h, stmts_top_le k xs h)

  pub then_below : (e : ExprId) (inner : Block) (other : Else) (s : Spot) (ids : List StmtId) → node ≡ nodes.If e inner other s → ids ≡ inner.items
      → AreStmtsBelow n ids × (stmts_top ids ≤ k)
  then_below e inner other s ids q p =
      more_top ids (subst (λ xs. AreStmtsBelow k xs) (sym p) (stmts_below_front k inner.items (else_stmts other) (at_node (nodes.If e inner other s) q)))

  pub else_below : (e : ExprId) (inner : Block) (other : Else) (s : Spot) → node ≡ nodes.If e inner other s
      → AreStmtsBelow n (else_stmts other) × (stmts_top (else_stmts other) ≤ k)
  else_below e inner other s q = more_top (else_stmts other) (stmts_below_back k inner.items (else_stmts other) (at_node (nodes.If e inner other s) q))

  pub loop_below : (x : NameId) (low high : ExprId) (inner : Block) (s : Spot) (ids : List StmtId) → node ≡ nodes.For x low high inner s → ids ≡ inner.items
      → AreStmtsBelow n ids × (stmts_top ids ≤ k)
  loop_below x low high inner s ids q p = more_top ids (subst (λ xs. AreStmtsBelow k xs) (sym p) (at_node (nodes.For x low high inner s) q))
