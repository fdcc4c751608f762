-- What an expression does, by the form of its node.
use Rattle.std.proofs.Common.{◌≡◌, ℕ, ◌<◌, ◌≤◌, Bool, true, false, cond, List, [], Some, None, ℤ, refl, sym, ap, ◌∙◌, subst, arith}
use Rattle.silq_tree.specs.declared.node.NameId.{NameId}
use Rattle.silq_tree.specs.declared.node.ExprId.{ExprId}
use Rattle.silq_tree.specs.declared.node.Spot.{Spot}
use Rattle.silq_tree.specs.declared.node.UnaryOp.{UnaryOp}
use Rattle.silq_tree.specs.declared.node.BinaryOp.{BinaryOp}
use Rattle.silq_tree.specs.declared.node.Expr.{Expr}
use Rattle.silq_tree.specs.declared.node.Expr.TheVariants as nodes
use Rattle.silq_tree.specs.Syntax.{Expression, number, typed_number, truth, pi, place, called, tuple, unary, binary}
use Rattle.silq_tree.specs.Arena.{Forest, expr_at}
use Rattle.silq_tree.specs.Standing.{expr_grown}
use Rattle.silq_tree.specs.Children.{AreExprsBelow, expr_exprs}
use Rattle.silq_tree.proofs.Lists.{exprs_top, exprs_top_le, exprs_below_front, exprs_below_back, exprs_below_more}
use Rattle.static_num.specs.Static.{is_static, value}
use Rattle.check_scope.specs.Library.{Shelf}
use Rattle.silq_types.specs.Types.{place_name, place_indices}
use Rattle.silq_types.specs.declared.need.Need.{Need}
use Rattle.silq_types.specs.declared.need.Need.TheVariants.{Held, Consumed}
use Rattle.silq_mean.specs.declared.receiver.Receiver.{Receiver}
use Rattle.silq_mean.specs.Effect.{nothing, ◌>>◌, step, give_static, give_part, one_operand, two_operands}
use Rattle.silq_mean.specs.Meaning.{Scope, expr, items, taken_by, static_value, static_values}
use Rattle.tree_walk.specs.declared.body.Body.{Body}
use Rattle.tree_walk.specs.Seen.{seen_in, expr_in, exprs_in, items_in, unary_in, binary_in, call_in}

-- a static expression gives its number
static_gives : (e : Expression) (sc : Scope) (need : Need) → is_static sc.statics e ≡ true → expr e sc need ≡ step (give_static (static_value sc.statics e))
unfolding is_static value
static_gives (number n s) sc need h = refl
static_gives (typed_number n k s) sc need h = cc
static_gives (truth b s) sc need h = refl
static_gives (pi s) sc need h = cc
static_gives (place p s) sc need h =
    ap (λ t. cond t (step (give_static (static_value sc.statics (place p s))))
    (step (give_part need (place_name p) (static_values (place_indices p) sc.statics)))) h
static_gives (called f ss args s) sc need h = cc
static_gives (tuple es s) sc need h = cc
static_gives (unary op e s) sc need h =
    ap (λ t. cond t (step (give_static (static_value sc.statics (unary op e s)))) (expr e sc Held >> step (one_operand op))) h
static_gives (binary op x y s) sc need h =
    ap (λ t. cond t (step (give_static (static_value sc.statics (binary op x y s)))) (expr x sc Held >> expr y sc Held >> step (two_operands op))) h

module _ (l : Shelf) (b : Body) (e : ExprId) (need : Need) where
  pub told_static : (n m : Forest) (r : Bool) (z : ℤ) → n ≡ l.nodes → r ≡ is_static b.statics (expr_at n e) → r ≡ true → m ≡ l.nodes
      → z ≡ static_value b.statics (expr_at m e) → expr_in l b e need ≡ step (give_static z)
  told_static n m r z h k t q v =
      static_gives (expr_at l.nodes e) (seen_in l b) need (ap (λ x. is_static b.statics (expr_at x e)) (sym h) ∙ (sym k ∙ t))
      ∙ ap (λ x. step (give_static x)) (ap (λ x. static_value b.statics (expr_at x e)) (sym q) ∙ sym v)

  pub told_dynamic : (n : Forest) (r : Bool) → n ≡ l.nodes → r ≡ is_static b.statics (expr_at n e) → r ≡ false → is_static b.statics (expr_at l.nodes e) ≡ false
  told_dynamic n r h k t = ap (λ x. is_static b.statics (expr_at x e)) (sym h) ∙ (sym k ∙ t)

  module _ (n : Forest) (node : Expr) (h : n ≡ l.nodes) (g : expr_at n e ≡ expr_grown (expr_at n) node) where
    pub here : (v : Expr) → node ≡ v → expr_at l.nodes e ≡ expr_grown (expr_at l.nodes) v
    here v q = subst (λ m. expr_at m e ≡ expr_grown (expr_at m) node) h g ∙ ap (λ x. expr_grown (expr_at l.nodes) x) q

    by : (v : Expr) → node ≡ v → expr_in l b e need ≡ expr (expr_grown (expr_at l.nodes) v) (seen_in l b) need
    by v q = ap (λ t. expr t (seen_in l b) need) (here v q)

    pub told_pi : (s : Spot) → node ≡ nodes.Pi s → expr_in l b e need ≡ nothing
    told_pi s q = by (nodes.Pi s) q

    pub told_call : (f : NameId) (ss args xs ys : List ExprId) (s : Spot) → node ≡ nodes.Call f ss args s → xs ≡ ss → ys ≡ args
        → expr_in l b e need ≡ call_in l b f xs ys
    told_call f ss args xs ys s q p r =
        by (nodes.Call f ss args s) q ∙ (ap (λ zs. call_in l b f zs args) (sym p) ∙ ap (λ zs. call_in l b f xs zs) (sym r))

    pub told_tuple : (items xs : List ExprId) (s : Spot) → node ≡ nodes.Tuple items s → xs ≡ items → expr_in l b e need ≡ exprs_in l b xs need [] []
    told_tuple items xs s q p = by (nodes.Tuple items s) q ∙ ap (λ zs. exprs_in l b zs need [] []) (sym p)

    pub told_unary : (op : UnaryOp) (a : ExprId) (s : Spot) → node ≡ nodes.Unary op a s → is_static b.statics (expr_at l.nodes e) ≡ false
        → expr_in l b e need ≡ unary_in l b op a
    told_unary op a s q k =
        let x : Expression = unary op (expr_at l.nodes a) s in
        by (nodes.Unary op a s) q
        ∙ ap (λ t. cond t (step (give_static (static_value b.statics x))) (unary_in l b op a))
        (ap (λ y. is_static b.statics y) (sym (here (nodes.Unary op a s) q)) ∙ k)

    pub told_binary : (op : BinaryOp) (x y : ExprId) (s : Spot) → node ≡ nodes.Binary op x y s → is_static b.statics (expr_at l.nodes e) ≡ false
        → expr_in l b e need ≡ binary_in l b op x y
    told_binary op x y s q k =
        let u : Expression = binary op (expr_at l.nodes x) (expr_at l.nodes y) s in
        by (nodes.Binary op x y s) q
        ∙ ap (λ t. cond t (step (give_static (static_value b.statics u))) (binary_in l b op x y))
        (ap (λ v. is_static b.statics v) (sym (here (nodes.Binary op x y s) q)) ∙ k)

-- the values of an expression that is no tuple
single : (v : Expr) (at : ExprId → Expression) (sc : Scope) (takers : List Receiver) → ((xs : List ExprId) (s : Spot) → v ≡ nodes.Tuple xs s → ⊥)
    → items (expr_grown at v) sc takers ≡ expr (expr_grown at v) sc Consumed >> taken_by takers
single (nodes.Number v None s) at sc takers k = refl
single (nodes.Number v (Some t) s) at sc takers k = refl
single (nodes.Truth v s) at sc takers k = refl
single (nodes.Pi s) at sc takers k = refl
single (nodes.Place p s) at sc takers k = refl
single (nodes.Call f ss args s) at sc takers k = refl
single (nodes.Tuple xs s) at sc takers k = absurd (k xs s refl)
single (nodes.Unary op x s) at sc takers k = refl
single (nodes.Binary op x y s) at sc takers k = refl

module _ (l : Shelf) (b : Body) (e : ExprId) (need : Need) (n : Forest) (node : Expr) (h : n ≡ l.nodes) (g : expr_at n e ≡ expr_grown (expr_at n) node) where
  pub told_items : (listed xs : List ExprId) (takers : List Receiver) (s : Spot) → node ≡ nodes.Tuple listed s → xs ≡ listed
      → items_in l b e takers ≡ exprs_in l b xs Consumed [] takers
  told_items listed xs takers s q p =
      ap (λ t. items t (seen_in l b) takers) (here l b e need n node h g (nodes.Tuple listed s) q) ∙ ap (λ zs. exprs_in l b zs Consumed [] takers) (sym p)

  pub told_single : (takers : List Receiver) → ((xs : List ExprId) (s : Spot) → node ≡ nodes.Tuple xs s → ⊥)
      → items_in l b e takers ≡ expr_in l b e Consumed >> taken_by takers
  told_single takers k =
      let q : expr_at l.nodes e ≡ expr_grown (expr_at l.nodes) node = here l b e need n node h g node refl in
      ap (λ t. items t (seen_in l b) takers) q
      ∙ (single node (expr_at l.nodes) (seen_in l b) takers k ∙ ap (λ t. expr t (seen_in l b) Consumed >> taken_by takers) (sym q))

-- the nodes that a node names are earlier
module _ (k n : ℕ) (node : Expr) (lt : k < n) (below : AreExprsBelow k (expr_exprs node)) where
  at_node : (v : Expr) → node ≡ v → AreExprsBelow k (expr_exprs v)
  at_node v q = subst (λ x. AreExprsBelow k (expr_exprs x)) q below

  more_top : (xs : List ExprId) → AreExprsBelow k xs → AreExprsBelow n xs × (exprs_top xs ≤ k)
  more_top xs h = (exprs_below_more k n xs (omega (arith, lt)) h, exprs_top_le k xs h)

  pub statics_below : (f : NameId) (ss args xs : List ExprId) (s : Spot) → node ≡ nodes.Call f ss args s → xs ≡ ss → AreExprsBelow n xs × (exprs_top xs ≤ k)
  statics_below f ss args xs s q p = more_top xs (subst (λ ys. AreExprsBelow k ys) (sym p) (exprs_below_front k ss args (at_node (nodes.Call f ss args s) q)))

  pub args_below : (f : NameId) (ss args xs : List ExprId) (s : Spot) → node ≡ nodes.Call f ss args s → xs ≡ args → AreExprsBelow n xs × (exprs_top xs ≤ k)
  args_below f ss args xs s q p = more_top xs (subst (λ ys. AreExprsBelow k ys) (sym p) (exprs_below_back k ss args (at_node (nodes.Call f ss args s) q)))

  pub tuple_below : (items xs : List ExprId) (s : Spot) → node ≡ nodes.Tuple items s → xs ≡ items → AreExprsBelow n xs × (exprs_top xs ≤ k)
  tuple_below items xs s q p = more_top xs (subst (λ ys. AreExprsBelow k ys) (sym p) (at_node (nodes.Tuple items s) q))

  pub unary_below : (op : UnaryOp) (a : ExprId) (s : Spot) → node ≡ nodes.Unary op a s → a.number < k
  unary_below op a s q = (at_node (nodes.Unary op a s) q).0

  pub left_below : (op : BinaryOp) (x y : ExprId) (s : Spot) → node ≡ nodes.Binary op x y s → x.number < k
  left_below op x y s q = (at_node (nodes.Binary op x y s) q).0

  pub right_below : (op : BinaryOp) (x y : ExprId) (s : Spot) → node ≡ nodes.Binary op x y s → y.number < k
  right_below op x y s q = (at_node (nodes.Binary op x y s) q).1.0
