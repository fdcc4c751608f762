-- What holds of arenas, and of one more node.
use Rattle.std.proofs.Common.{◌≡◌, ℕ, zero, suc, ◌+◌, ◌<◌, ◌≤◌, ◌⊎◌, inl, inr, List, [], ◌∷◌, ◌++◌, Option, Some, None, slice_get, sum_by, length, refl, ◌∙◌, ap, arith, length-append}
use Rattle.std.proofs.lemmas.List.Sums.{sum_by-append}
use Rattle.silq_tree.specs.declared.node.ExprId.{ExprId}
use Rattle.silq_tree.specs.declared.node.StmtId.{StmtId}
use Rattle.silq_tree.specs.declared.node.FunId.{FunId}
use Rattle.silq_tree.specs.declared.node.Expr.{Expr}
use Rattle.silq_tree.specs.declared.node.Stmt.{Stmt}
use Rattle.silq_tree.specs.declared.node.Fun.{Fun}
use Rattle.silq_tree.specs.Syntax.{Expression, Statement, pi, return_nothing}
use Rattle.silq_tree.specs.Standing.{expr_grown, stmt_grown, fun_grown}
use Rattle.silq_tree.specs.Children.{expr_exprs, stmt_exprs, fun_exprs, stmt_stmts, fun_stmts, AreExprsBelow, AreStmtsBelow, expr_count, stmt_count, ExprHasFirst, StmtHasFirst}
use Rattle.silq_tree.specs.Arena.{Forest, grow, pick_expr, pick_stmt, expr_at, stmt_at, fun_at, grown_or, expr_parents, stmt_parents, IsArena, with_expr, with_stmt, with_fun, KeepsTrees}
use Rattle.silq_tree.proofs.Growth.{IsLocal, grow_at, grow_made, grow_kept, grow_same}
use Rattle.silq_tree.proofs.Agreeing.{all_itself, exprs_same, stmts_same, same_expr, same_stmt, same_fun}

no_expr : Expression
no_expr = pi (record { line = 0; col = 0 })

no_stmt : Statement
no_stmt = return_nothing (record { line = 0; col = 0 })

-- the tree of a node is grown from those of its children
expr_local : (n : ℕ) (e : Expr) → AreExprsBelow n (expr_exprs e) → IsLocal (λ ts e. expr_grown (pick_expr ts) e) no_expr n e
unfolding no_expr
expr_local n e b ts us h = same_expr (pick_expr ts) (pick_expr us) e (exprs_same n (pick_expr ts) (pick_expr us) (expr_exprs e) b (λ id l. h id.number l))

pub expr_tree : (f : Forest) (id : ExprId) (e : Expr) → IsArena f → slice_get f.exprs id.number ≡ Some e → expr_at f id ≡ expr_grown (expr_at f) e
unfolding no_expr
expr_tree f id e a s = grow_at (λ ts e. expr_grown (pick_expr ts) e) no_expr f.exprs id.number e s (expr_local id.number e (a.exprs_below id.number e s))

stmt_local : (at : ExprId → Expression) (n : ℕ) (s : Stmt) → AreStmtsBelow n (stmt_stmts s) → IsLocal (λ ts s. stmt_grown at (pick_stmt ts) s) no_stmt n s
unfolding no_stmt
stmt_local at n s b ts us h =
    same_stmt at at (pick_stmt ts) (pick_stmt us) s (all_itself at (stmt_exprs s)) (stmts_same n (pick_stmt ts) (pick_stmt us) (stmt_stmts s) b (λ id l. h id.number l))

pub stmt_tree : (f : Forest) (id : StmtId) (s : Stmt) → IsArena f → slice_get f.stmts id.number ≡ Some s → stmt_at f id ≡ stmt_grown (expr_at f) (stmt_at f) s
unfolding no_stmt
stmt_tree f id s a e =
    grow_at (λ ts s. stmt_grown (expr_at f) (pick_stmt ts) s) no_stmt f.stmts id.number s e (stmt_local (expr_at f) id.number s (a.stmts_below id.number s e))

pub fun_tree : (f : Forest) (id : FunId) (g : Fun) → slice_get f.funs id.number ≡ Some g → fun_at f id ≡ fun_grown (expr_at f) (stmt_at f) g
fun_tree f id g e = ap (grown_or f) e

-- a node of a list with one more
pushed : {N : Type 0} (ns : List N) (n m : N) (k : ℕ) → slice_get (ns ++ n ∷ []) k ≡ Some m → (slice_get ns k ≡ Some m) ⊎ ((k ≡ length ns) × (n ≡ m))
pushed [] n m zero e = inr (refl, cc)
pushed [] n m (suc k) e = cc
pushed (x ∷ ns) n m zero e = inl e
pushed (x ∷ ns) n m (suc k) e = of (pushed ns n m k e)
  where
    of : (slice_get ns k ≡ Some m) ⊎ ((k ≡ length ns) × (n ≡ m)) → (slice_get ns k ≡ Some m) ⊎ ((suc k ≡ suc (length ns)) × (n ≡ m))
    of (inl h) = inl h
    of (inr h) = inr (ap suc h.0, h.1)

found_front : {N : Type 0} (ns : List N) (n : N) (k : ℕ) → k < length ns → slice_get (ns ++ n ∷ []) k ≡ slice_get ns k
found_front [] n k h = absurd (omega arith)
found_front (x ∷ ns) n zero h = refl
found_front (x ∷ ns) n (suc k) h = found_front ns n k (omega arith)

-- what holds of each node, and of one more
each_more : {N : Type 0} (P : ℕ → N → Type 0) (ns : List N) (n : N) → ((k : ℕ) (m : N) → slice_get ns k ≡ Some m → P k m) → P (length ns) n
    → (k : ℕ) (m : N) → slice_get (ns ++ n ∷ []) k ≡ Some m → P k m
each_more P ns n h p k m e = of (pushed ns n m k e)
  where
    of : (slice_get ns k ≡ Some m) ⊎ ((k ≡ length ns) × (n ≡ m)) → P k m
    of (inl g) = h k m g
    of (inr g) = rw (g.0, ← g.1) p

exprs_weaker : (m n : ℕ) (ids : List ExprId) → m ≤ n → AreExprsBelow m ids → AreExprsBelow n ids
exprs_weaker m n [] l b = tt
exprs_weaker m n (id ∷ ids) l b = (omega (arith, b.0), exprs_weaker m n ids l b.1)

stmts_weaker : (m n : ℕ) (ids : List StmtId) → m ≤ n → AreStmtsBelow m ids → AreStmtsBelow n ids
stmts_weaker m n [] l b = tt
stmts_weaker m n (id ∷ ids) l b = (omega (arith, b.0), stmts_weaker m n ids l b.1)

longer : {N : Type 0} (ns : List N) (n : N) → length ns ≤ length (ns ++ n ∷ [])
longer ns n = let l = length-append ns (n ∷ []) in omega (arith, l)

sum_more : {N : Type 0} (w : N → ℕ) (ns : List N) (n : N) → sum_by w (ns ++ n ∷ []) ≡ sum_by w ns + w n
sum_more w ns n = let e = sum_by-append w ns (n ∷ []) in omega (arith, e)

-- the parents with one more node
pub expr_parents-with_expr : (f : Forest) (e : Expr) (id : ExprId) → expr_parents (with_expr f e) id ≡ expr_parents f id + expr_count id (expr_exprs e)
expr_parents-with_expr f e id = let s = sum_more (λ x. expr_count id (expr_exprs x)) f.exprs e in omega (arith, s)

pub expr_parents-with_stmt : (f : Forest) (s : Stmt) (id : ExprId) → expr_parents (with_stmt f s) id ≡ expr_parents f id + expr_count id (stmt_exprs s)
expr_parents-with_stmt f s id = let t = sum_more (λ x. expr_count id (stmt_exprs x)) f.stmts s in omega (arith, t)

pub expr_parents-with_fun : (f : Forest) (g : Fun) (id : ExprId) → expr_parents (with_fun f g) id ≡ expr_parents f id + expr_count id (fun_exprs g)
expr_parents-with_fun f g id = let t = sum_more (λ x. expr_count id (fun_exprs x)) f.funs g in omega (arith, t)

pub stmt_parents-with_stmt : (f : Forest) (s : Stmt) (id : StmtId) → stmt_parents (with_stmt f s) id ≡ stmt_parents f id + stmt_count id (stmt_stmts s)
stmt_parents-with_stmt f s id = let t = sum_more (λ x. stmt_count id (stmt_stmts x)) f.stmts s in omega (arith, t)

pub stmt_parents-with_fun : (f : Forest) (g : Fun) (id : StmtId) → stmt_parents (with_fun f g) id ≡ stmt_parents f id + stmt_count id (fun_stmts g)
stmt_parents-with_fun f g id = let t = sum_more (λ x. stmt_count id (fun_stmts x)) f.funs g in omega (arith, t)

-- the arena with one more node is one
pub arena_with_expr : (f : Forest) (e : Expr) → IsArena f → AreExprsBelow (length f.exprs) (expr_exprs e) → ExprHasFirst e
    → ((id : ExprId) → expr_parents f id + expr_count id (expr_exprs e) ≤ 1) → IsArena (with_expr f e)
arena_with_expr f e a b p q = record {
  exprs_below = each_more (λ n x. AreExprsBelow n (expr_exprs x)) f.exprs e a.exprs_below b;
  stmt_exprs_below = λ n s h. exprs_weaker _ _ (stmt_exprs s) (longer f.exprs e) (a.stmt_exprs_below n s h);
  stmts_below = a.stmts_below;
  fun_exprs_below = λ n g h. exprs_weaker _ _ (fun_exprs g) (longer f.exprs e) (a.fun_exprs_below n g h);
  fun_stmts_below = a.fun_stmts_below;
  exprs_have_first = each_more (λ n x. ExprHasFirst x) f.exprs e a.exprs_have_first p;
  stmts_have_first = a.stmts_have_first;
  one_expr_parent = λ id. rw (expr_parents-with_expr f e id) (q id);
  one_stmt_parent = a.one_stmt_parent;
}

pub arena_with_stmt : (f : Forest) (s : Stmt) → IsArena f → AreExprsBelow (length f.exprs) (stmt_exprs s) → AreStmtsBelow (length f.stmts) (stmt_stmts s) → StmtHasFirst s
    → ((id : ExprId) → expr_parents f id + expr_count id (stmt_exprs s) ≤ 1) → ((id : StmtId) → stmt_parents f id + stmt_count id (stmt_stmts s) ≤ 1) → IsArena (with_stmt f s)
arena_with_stmt f s a b c p q r = record {
  exprs_below = a.exprs_below;
  stmt_exprs_below = each_more (λ n x. AreExprsBelow (length f.exprs) (stmt_exprs x)) f.stmts s a.stmt_exprs_below b;
  stmts_below = each_more (λ n x. AreStmtsBelow n (stmt_stmts x)) f.stmts s a.stmts_below c;
  fun_exprs_below = a.fun_exprs_below;
  fun_stmts_below = λ n g h. stmts_weaker _ _ (fun_stmts g) (longer f.stmts s) (a.fun_stmts_below n g h);
  exprs_have_first = a.exprs_have_first;
  stmts_have_first = each_more (λ n x. StmtHasFirst x) f.stmts s a.stmts_have_first p;
  one_expr_parent = λ id. rw (expr_parents-with_stmt f s id) (q id);
  one_stmt_parent = λ id. rw (stmt_parents-with_stmt f s id) (r id);
}

pub arena_with_fun : (f : Forest) (g : Fun) → IsArena f → AreExprsBelow (length f.exprs) (fun_exprs g) → AreStmtsBelow (length f.stmts) (fun_stmts g)
    → ((id : ExprId) → expr_parents f id + expr_count id (fun_exprs g) ≤ 1) → ((id : StmtId) → stmt_parents f id + stmt_count id (fun_stmts g) ≤ 1) → IsArena (with_fun f g)
arena_with_fun f g a b c q r = record {
  exprs_below = a.exprs_below;
  stmt_exprs_below = a.stmt_exprs_below;
  stmts_below = a.stmts_below;
  fun_exprs_below = each_more (λ n x. AreExprsBelow (length f.exprs) (fun_exprs x)) f.funs g a.fun_exprs_below b;
  fun_stmts_below = each_more (λ n x. AreStmtsBelow (length f.stmts) (fun_stmts x)) f.funs g a.fun_stmts_below c;
  exprs_have_first = a.exprs_have_first;
  stmts_have_first = a.stmts_have_first;
  one_expr_parent = λ id. rw (expr_parents-with_fun f g id) (q id);
  one_stmt_parent = λ id. rw (stmt_parents-with_fun f g id) (r id);
}

-- a new node's tree
pub expr_made : (f : Forest) (e : Expr) (id : ExprId) → id.number ≡ length f.exprs → expr_at (with_expr f e) id ≡ expr_grown (expr_at f) e
unfolding no_expr
expr_made f e id h = grow_made (λ ts x. expr_grown (pick_expr ts) x) no_expr f.exprs e id.number h

pub stmt_made : (f : Forest) (s : Stmt) (id : StmtId) → id.number ≡ length f.stmts → stmt_at (with_stmt f s) id ≡ stmt_grown (expr_at f) (stmt_at f) s
unfolding no_stmt
stmt_made f s id h = grow_made (λ ts x. stmt_grown (expr_at f) (pick_stmt ts) x) no_stmt f.stmts s id.number h

-- the trees that stay
expr_stays : (f : Forest) (e : Expr) (id : ExprId) → id.number < length f.exprs → expr_at (with_expr f e) id ≡ expr_at f id
unfolding no_expr
expr_stays f e id h = grow_kept (λ ts x. expr_grown (pick_expr ts) x) no_expr f.exprs e id.number h

stmts_stay : (f : Forest) (e : Expr) (id : StmtId) → IsArena f → stmt_at (with_expr f e) id ≡ stmt_at f id
unfolding grow
stmts_stay f e id a =
    ap (λ ts. pick_stmt ts id)
    (grow_same (λ ts s. stmt_grown (expr_at (with_expr f e)) (pick_stmt ts) s) (λ ts s. stmt_grown (expr_at f) (pick_stmt ts) s) f.stmts []
    (λ k s h us. same_stmt (expr_at (with_expr f e)) (expr_at f) (pick_stmt us) (pick_stmt us) s
    (exprs_same (length f.exprs) _ _ (stmt_exprs s) (a.stmt_exprs_below k s h) (expr_stays f e)) (all_itself (pick_stmt us) (stmt_stmts s))))

-- a function stands for the same where its parts do
fun_stays : (f new : Forest) (id : FunId) → IsArena f → id.number < length f.funs → slice_get new.funs id.number ≡ slice_get f.funs id.number
    → ((e : ExprId) → e.number < length f.exprs → expr_at new e ≡ expr_at f e) → ((s : StmtId) → s.number < length f.stmts → stmt_at new s ≡ stmt_at f s) → fun_at new id ≡ fun_at f id
fun_stays f new id a l same h k = ap (grown_or new) same ∙ of (slice_get f.funs id.number) refl
  where
    of : (o : Option Fun) → slice_get f.funs id.number ≡ o → grown_or new o ≡ grown_or f o
    of None e = refl
    of (Some g) e =
        same_fun (expr_at new) (expr_at f) (stmt_at new) (stmt_at f) g
        (exprs_same (length f.exprs) _ _ (fun_exprs g) (a.fun_exprs_below id.number g e) h) (stmts_same (length f.stmts) _ _ (fun_stmts g) (a.fun_stmts_below id.number g e) k)

pub kept_with_expr : (f : Forest) (e : Expr) → IsArena f → KeepsTrees f (with_expr f e)
kept_with_expr f e a = record {
  exprs = expr_stays f e;
  stmts = λ id l. stmts_stay f e id a;
  funs = λ id l. fun_stays f (with_expr f e) id a l refl (expr_stays f e) (λ s m. stmts_stay f e s a);
}

stmt_stays : (f : Forest) (s : Stmt) (id : StmtId) → id.number < length f.stmts → stmt_at (with_stmt f s) id ≡ stmt_at f id
unfolding no_stmt
stmt_stays f s id h = grow_kept (λ ts x. stmt_grown (expr_at f) (pick_stmt ts) x) no_stmt f.stmts s id.number h

pub kept_with_stmt : (f : Forest) (s : Stmt) → IsArena f → KeepsTrees f (with_stmt f s)
kept_with_stmt f s a = record {
  exprs = λ id l. refl;
  stmts = stmt_stays f s;
  funs = λ id l. fun_stays f (with_stmt f s) id a l refl (λ e m. refl) (stmt_stays f s);
}

pub kept_with_fun : (f : Forest) (g : Fun) → IsArena f → KeepsTrees f (with_fun f g)
kept_with_fun f g a = record {
  exprs = λ id l. refl;
  stmts = λ id l. refl;
  funs = λ id l. fun_stays f (with_fun f g) id a l (found_front f.funs g id.number l) (λ e m. refl) (λ s m. refl);
}

found_here : {N : Type 0} (ns : List N) (n : N) → slice_get (ns ++ n ∷ []) (length ns) ≡ Some n
found_here [] n = refl
found_here (x ∷ ns) n = found_here ns n

pub fun_made : (f : Forest) (g : Fun) (id : FunId) → id.number ≡ length f.funs → fun_at (with_fun f g) id ≡ fun_grown (expr_at f) (stmt_at f) g
fun_made f g id h = ap (grown_or (with_fun f g)) (ap (λ k. slice_get (f.funs ++ g ∷ []) k) h ∙ found_here f.funs g)

pub nothing_there : IsArena (record { exprs = []; stmts = []; funs = [] })
nothing_there = record {
  exprs_below = λ n e h. cc;
  stmt_exprs_below = λ n s h. cc;
  stmts_below = λ n s h. cc;
  fun_exprs_below = λ n g h. cc;
  fun_stmts_below = λ n g h. cc;
  exprs_have_first = λ n e h. cc;
  stmts_have_first = λ n s h. cc;
  one_expr_parent = λ id. omega arith;
  one_stmt_parent = λ id. omega arith;
}
