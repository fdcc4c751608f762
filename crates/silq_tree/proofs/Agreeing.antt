-- A node stands for the same tree where the nodes that it names do.
use Rattle.std.proofs.Common.{◌≡◌, ℕ, ◌<◌, List, [], ◌∷◌, ◌++◌, Option, Some, None, map, flat_map, refl, ap}
use Rattle.silq_tree.specs.declared.node.ExprId.{ExprId}
use Rattle.silq_tree.specs.declared.node.StmtId.{StmtId}
use Rattle.silq_tree.specs.declared.node.NameId.{NameId}
use Rattle.silq_tree.specs.declared.node.PlaceNode.{PlaceNode}
use Rattle.silq_tree.specs.declared.node.TypeNode.{TypeNode}
use Rattle.silq_tree.specs.declared.node.ParamNode.{ParamNode}
use Rattle.silq_tree.specs.declared.node.Fun.{Fun}
use Rattle.silq_tree.specs.declared.node.ScalarNode.{ScalarNode}
use Rattle.silq_tree.specs.declared.node.ScalarNode.TheVariants as scalars
use Rattle.silq_tree.specs.declared.node.Else.{Else}
use Rattle.silq_tree.specs.declared.node.Else.TheVariants as elses
use Rattle.silq_tree.specs.declared.node.Expr.{Expr}
use Rattle.silq_tree.specs.declared.node.Expr.TheVariants as exprs
use Rattle.silq_tree.specs.declared.node.Stmt.{Stmt}
use Rattle.silq_tree.specs.declared.node.Stmt.TheVariants as stmts
use Rattle.silq_tree.specs.Syntax.{Expression, Statement, more, next, part, place, assign, update, block, else_block, else_choice, choice, loop, called, tuple, binary, scalar, array, part_of_part, uint, int, typed_number, unary, spread, forget_value, phase, return_value, call}
use Rattle.silq_tree.specs.Standing.{expressions_of, scalar_of, part_of, place_of, sized, type_of, param_of, expr_grown, statements_of, otherwise_of, stmt_grown, fun_grown}
use Rattle.silq_tree.specs.Children.{listed, scalar_exprs, place_exprs, type_exprs, param_exprs, expr_exprs, stmt_exprs, fun_exprs, else_stmts, stmt_stmts, fun_stmts, AreExprsBelow, AreStmtsBelow}

-- the same tree at each of the ids
abbrev pub AllSame : {I T : Type 0} → (I → T) → (I → T) → List I → Type 0
AllSame at bt [] = Unit {0}
AllSame at bt (id ∷ ids) = (at id ≡ bt id) × AllSame at bt ids

pub all_itself : {I T : Type 0} (at : I → T) (ids : List I) → AllSame at at ids
all_itself at [] = tt
all_itself at (id ∷ ids) = (refl, all_itself at ids)

pub front_same : {I T : Type 0} (at bt : I → T) (xs ys : List I) → AllSame at bt (xs ++ ys) → AllSame at bt xs
front_same at bt [] ys h = tt
front_same at bt (x ∷ xs) ys h = (h.0, front_same at bt xs ys h.1)

pub back_same : {I T : Type 0} (at bt : I → T) (xs ys : List I) → AllSame at bt (xs ++ ys) → AllSame at bt ys
back_same at bt [] ys h = h
back_same at bt (x ∷ xs) ys h = back_same at bt xs ys h.1

pub exprs_same : (n : ℕ) (at bt : ExprId → Expression) (ids : List ExprId) → AreExprsBelow n ids → ((id : ExprId) → id.number < n → at id ≡ bt id) → AllSame at bt ids
exprs_same n at bt [] b h = tt
exprs_same n at bt (id ∷ ids) b h = (h id b.0, exprs_same n at bt ids b.1 h)

pub stmts_same : (n : ℕ) (at bt : StmtId → Statement) (ids : List StmtId) → AreStmtsBelow n ids → ((id : StmtId) → id.number < n → at id ≡ bt id) → AllSame at bt ids
stmts_same n at bt [] b h = tt
stmts_same n at bt (id ∷ ids) b h = (h id b.0, stmts_same n at bt ids b.1 h)

module _ (at bt : ExprId → Expression) where
  same_expressions : (ids : List ExprId) → AllSame at bt ids → expressions_of at ids ≡ expressions_of bt ids
  same_expressions [] h = refl
  same_expressions (id ∷ ids) h = let x = h.0 in let y = same_expressions ids h.1 in λ i. more (x i) (y i)

  same_scalar : (ty : ScalarNode) → AllSame at bt (scalar_exprs ty) → scalar_of at ty ≡ scalar_of bt ty
  same_scalar scalars.Bit h = refl
  same_scalar (scalars.UInt e) h = ap uint h.0
  same_scalar (scalars.Int e) h = ap int h.0

  same_part : (name : NameId) (i j : Option ExprId) → AllSame at bt (listed i ++ listed j) → part_of at name i j ≡ part_of bt name i j
  same_part name None j h = refl
  same_part name (Some i) None h = ap (part name) h.0
  same_part name (Some i) (Some j) h = let x = h.0 in let y = h.1.0 in λ k. part_of_part name (x k) (y k)

  same_place : (p : PlaceNode) → AllSame at bt (place_exprs p) → place_of at p ≡ place_of bt p
  same_place p h = same_part p.name p.first p.second h

  same_sized : (t : TypeNode) (o : Option ExprId) → AllSame at bt (scalar_exprs t.scalar ++ listed o) → sized at t o ≡ sized bt t o
  same_sized t None h = let x = same_scalar t.scalar (front_same at bt (scalar_exprs t.scalar) [] h) in ap (λ s. scalar t.classical s t.at) x
  same_sized t (Some n) h =
      let x = same_scalar t.scalar (front_same at bt (scalar_exprs t.scalar) (n ∷ []) h) in
      let y = (back_same at bt (scalar_exprs t.scalar) (n ∷ []) h).0 in
      λ i. array t.classical (x i) (y i) t.at

  same_types : (ts : List TypeNode) → AllSame at bt (flat_map type_exprs ts) → map (type_of at) ts ≡ map (type_of bt) ts
  same_types [] h = refl
  same_types (t ∷ ts) h =
      let x = same_sized t t.size (front_same at bt (type_exprs t) (flat_map type_exprs ts) h) in
      let y = same_types ts (back_same at bt (type_exprs t) (flat_map type_exprs ts) h) in
      λ i. x i ∷ y i

  same_params : (ps : List ParamNode) → AllSame at bt (flat_map param_exprs ps) → map (param_of at) ps ≡ map (param_of bt) ps
  same_params [] h = refl
  same_params (p ∷ ps) h =
      let x = same_sized p.ty p.ty.size (front_same at bt (param_exprs p) (flat_map param_exprs ps) h) in
      let y = same_params ps (back_same at bt (param_exprs p) (flat_map param_exprs ps) h) in
      λ i. record { held = p.held; name = p.name; ty = x i; at = p.at } ∷ y i

  pub same_expr : (e : Expr) → AllSame at bt (expr_exprs e) → expr_grown at e ≡ expr_grown bt e
  same_expr (exprs.Number v None spot) h = refl
  same_expr (exprs.Number v (Some ty) spot) h = ap (λ s. typed_number v s spot) (same_scalar ty h)
  same_expr (exprs.Truth b spot) h = refl
  same_expr (exprs.Pi spot) h = refl
  same_expr (exprs.Place p spot) h = ap (λ q. place q spot) (same_place p h)
  same_expr (exprs.Call f xs ys spot) h =
      let x = same_expressions xs (front_same at bt xs ys h) in let y = same_expressions ys (back_same at bt xs ys h) in λ i. called f (x i) (y i) spot
  same_expr (exprs.Tuple xs spot) h = ap (λ z. tuple z spot) (same_expressions xs h)
  same_expr (exprs.Unary op a spot) h = ap (λ z. unary op z spot) h.0
  same_expr (exprs.Binary op a b spot) h = let x = h.0 in let y = h.1.0 in λ i. binary op (x i) (y i) spot

  module _ (st su : StmtId → Statement) where
    same_statements : (ids : List StmtId) → AllSame st su ids → statements_of at st ids ≡ statements_of bt su ids
    same_statements [] h = refl
    same_statements (id ∷ ids) h = let x = h.0 in let y = same_statements ids h.1 in λ i. next (x i) (y i)

    same_otherwise : (e : Else) → AllSame st su (else_stmts e) → otherwise_of at st e ≡ otherwise_of bt su e
    same_otherwise (elses.Block b) h = ap (λ z. else_block (block z b.end)) (same_statements b.items h)
    same_otherwise (elses.Choice s) h = ap else_choice h.0

    pub same_stmt : (s : Stmt) → AllSame at bt (stmt_exprs s) → AllSame st su (stmt_stmts s) → stmt_grown at st s ≡ stmt_grown bt su s
    same_stmt (stmts.Assign p v spot) h k =
        let x = same_place p (front_same at bt (place_exprs p) (v ∷ []) h) in let y = (back_same at bt (place_exprs p) (v ∷ []) h).0 in λ i. assign (x i) (y i) spot
    same_stmt (stmts.Spread names v spot) h k = ap (λ z. spread names z spot) h.0
    same_stmt (stmts.Update p op v spot) h k =
        let x = same_place p (front_same at bt (place_exprs p) (v ∷ []) h) in let y = (back_same at bt (place_exprs p) (v ∷ []) h).0 in λ i. update (x i) op (y i) spot
    same_stmt (stmts.Forget name None spot) h k = refl
    same_stmt (stmts.Forget name (Some v) spot) h k = ap (λ z. forget_value name z spot) h.0
    same_stmt (stmts.Phase a spot) h k = ap (λ z. phase z spot) h.0
    same_stmt (stmts.If c b other spot) h k =
        let x = h.0 in
        let y = same_statements b.items (front_same st su b.items (else_stmts other) k) in
        let z = same_otherwise other (back_same st su b.items (else_stmts other) k) in
        λ i. choice (x i) (block (y i) b.end) (z i) spot
    same_stmt (stmts.For name low high body spot) h k =
        let x = h.0 in let y = h.1.0 in let z = same_statements body.items k in λ i. loop name (x i) (y i) (block (z i) body.end) spot
    same_stmt (stmts.Return None spot) h k = refl
    same_stmt (stmts.Return (Some v) spot) h k = ap (λ z. return_value z spot) h.0
    same_stmt (stmts.Call c spot) h k = ap (λ z. call z spot) h.0

    pub same_fun : (f : Fun) → AllSame at bt (fun_exprs f) → AllSame st su (fun_stmts f) → fun_grown at st f ≡ fun_grown bt su f
    same_fun f h k =
        let x = same_params f.params (front_same at bt (flat_map param_exprs f.params) (flat_map type_exprs f.results) h) in
        let y = same_types f.results (back_same at bt (flat_map param_exprs f.params) (flat_map type_exprs f.results) h) in
        let z = same_statements f.body.items k in
        λ i. record { name = f.name; statics = f.statics; params = x i; mark = f.mark; results = y i; body = block (z i) f.body.end; at = f.at }
