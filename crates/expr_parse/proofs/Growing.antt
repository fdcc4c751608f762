-- How arenas grow, step after step.
use Rattle.std.proofs.Common.{◌≡◌, ℕ, zero, suc, ◌+◌, ◌<◌, ◌≤◌, ◌⊎◌, inl, inr, List, [], ◌∷◌, ◌++◌, Some, slice_get, sum_by, length, refl, ◌∙◌, arith, length-append}
use Rattle.std.proofs.lemmas.Bool.Decides.{nat_tests}
use Rattle.std.proofs.lemmas.List.Sums.{sum_by-append, sum_by-cons}
use Rattle.silq_tree.specs.declared.node.ExprId.{ExprId}
use Rattle.silq_tree.specs.declared.node.StmtId.{StmtId}
use Rattle.silq_tree.specs.declared.node.Expr.{Expr}
use Rattle.silq_tree.specs.declared.node.Stmt.{Stmt}
use Rattle.silq_tree.specs.Standing.{expressions_of, statements_of}
use Rattle.silq_tree.specs.Children.{expr_exprs, stmt_exprs, fun_exprs, stmt_stmts, fun_stmts, AreExprsBelow, AreStmtsBelow, expr_count, stmt_count}
use Rattle.silq_tree.specs.Arena.{Forest, expr_at, stmt_at, expr_parents, stmt_parents, IsArena, with_expr, with_stmt, KeepsTrees}
use Rattle.silq_tree.proofs.Lists.{exprs_below_more, stmts_below_more}
use Rattle.silq_tree.proofs.Arenas.{expr_parents-with_expr, expr_parents-with_stmt, stmt_parents-with_stmt, kept_with_expr, kept_with_stmt}
use Rattle.expr_parse.specs.Grown.{Grew}
use Rattle.expr_parse.specs.Added.{AreFree}

-- counts
expr_count-append : (id : ExprId) (xs ys : List ExprId) → expr_count id (xs ++ ys) ≡ expr_count id xs + expr_count id ys
expr_count-append id xs ys = sum_by-append _ xs ys

stmt_count-append : (id : StmtId) (xs ys : List StmtId) → stmt_count id (xs ++ ys) ≡ stmt_count id xs + stmt_count id ys
stmt_count-append id xs ys = sum_by-append _ xs ys

-- ids that are there do not count one that is not
expr_count_above : (n : ℕ) (id : ExprId) (ids : List ExprId) → n ≤ id.number → AreExprsBelow n ids → expr_count id ids ≡ 0
expr_count_above n id [] l b = refl
expr_count_above n id (x ∷ ids) l b = let h = expr_count_above n id ids l b.1 in let k : x.number < id.number = omega (arith, b.0) in grind (arith, nat_tests, h)

stmt_count_above : (n : ℕ) (id : StmtId) (ids : List StmtId) → n ≤ id.number → AreStmtsBelow n ids → stmt_count id ids ≡ 0
stmt_count_above n id [] l b = refl
stmt_count_above n id (x ∷ ids) l b = let h = stmt_count_above n id ids l b.1 in let k : x.number < id.number = omega (arith, b.0) in grind (arith, nat_tests, h)

expr_here : (x id : ExprId) → x.number ≡ id.number → expr_count id (x ∷ []) ≡ 1
expr_here x id e = grind (arith, nat_tests)

expr_elsewhere : (x id : ExprId) → id.number < x.number → expr_count id (x ∷ []) ≡ 0
expr_elsewhere x id l = grind (arith, nat_tests)

stmt_here : (x id : StmtId) → x.number ≡ id.number → stmt_count id (x ∷ []) ≡ 1
stmt_here x id e = grind (arith, nat_tests)

stmt_elsewhere : (x id : StmtId) → id.number < x.number → stmt_count id (x ∷ []) ≡ 0
stmt_elsewhere x id l = grind (arith, nat_tests)

exprs_below-append : (n : ℕ) (xs ys : List ExprId) → AreExprsBelow n xs → AreExprsBelow n ys → AreExprsBelow n (xs ++ ys)
exprs_below-append n [] ys a b = b
exprs_below-append n (x ∷ xs) ys a b = (a.0, exprs_below-append n xs ys a.1 b)

stmts_below-append : (n : ℕ) (xs ys : List StmtId) → AreStmtsBelow n xs → AreStmtsBelow n ys → AreStmtsBelow n (xs ++ ys)
stmts_below-append n [] ys a b = b
stmts_below-append n (x ∷ xs) ys a b = (a.0, stmts_below-append n xs ys a.1 b)

-- a sum in which nothing counts
nothing_counts : {N : Type 0} (w : N → ℕ) (ns : List N) → ((k : ℕ) (n : N) → slice_get ns k ≡ Some n → w n ≡ 0) → sum_by w ns ≡ 0
nothing_counts w [] h = refl
nothing_counts w (n ∷ ns) h = let e = h zero n refl in let f = nothing_counts w ns (λ k m g. h (suc k) m g) in let s = sum_by-cons w n ns in omega (arith, e, f, s)

there : {N : Type 0} (ns : List N) (k : ℕ) (n : N) → slice_get ns k ≡ Some n → k < length ns
there [] k n e = cc
there (x ∷ ns) zero n e = omega arith
there (x ∷ ns) (suc k) n e = omega (arith, there ns k n e)

-- no node names one that is not there
pub no_expr_parents : (f : Forest) (id : ExprId) → IsArena f → length f.exprs ≤ id.number → expr_parents f id ≡ 0
no_expr_parents f id a l =
    let e = nothing_counts (λ e. expr_count id (expr_exprs e)) f.exprs (λ k e h. let m : k < length f.exprs = there f.exprs k e h in expr_count_above k id (expr_exprs e) (omega arith) (a.exprs_below k e h)) in
    let s = nothing_counts (λ s. expr_count id (stmt_exprs s)) f.stmts (λ k s h. expr_count_above (length f.exprs) id (stmt_exprs s) l (a.stmt_exprs_below k s h)) in
    let g = nothing_counts (λ g. expr_count id (fun_exprs g)) f.funs (λ k g h. expr_count_above (length f.exprs) id (fun_exprs g) l (a.fun_exprs_below k g h)) in
    omega (arith, e, s, g)

pub no_stmt_parents : (f : Forest) (id : StmtId) → IsArena f → length f.stmts ≤ id.number → stmt_parents f id ≡ 0
no_stmt_parents f id a l =
    let s = nothing_counts (λ s. stmt_count id (stmt_stmts s)) f.stmts (λ k s h. let m : k < length f.stmts = there f.stmts k s h in stmt_count_above k id (stmt_stmts s) (omega arith) (a.stmts_below k s h)) in
    let g = nothing_counts (λ g. stmt_count id (fun_stmts g)) f.funs (λ k g h. stmt_count_above (length f.stmts) id (fun_stmts g) l (a.fun_stmts_below k g h)) in
    omega (arith, s, g)

-- the nodes of the old arena stand for the same trees after both steps
pub kept_then : (a b c : Forest) → length a.exprs ≤ length b.exprs → length a.stmts ≤ length b.stmts → b.funs ≡ a.funs → KeepsTrees a b → KeepsTrees b c → KeepsTrees a c
kept_then a b c le ls lf h k = record {
  exprs = λ id l. k.exprs id (omega arith) ∙ h.exprs id l;
  stmts = λ id l. k.stmts id (omega arith) ∙ h.stmts id l;
  funs = λ id l. k.funs id (rw lf l) ∙ h.funs id l;
}

-- nothing grew
pub grew_nothing : (f : Forest) → Grew f f [] []
grew_nothing f = record {
  trees = record { exprs = λ id l. refl; stmts = λ id l. refl; funs = λ id l. refl };
  funs = refl;
  more_exprs = omega arith;
  more_stmts = omega arith;
  exprs_there = tt;
  stmts_there = tt;
  old_exprs = λ id l. refl;
  old_stmts = λ id l. refl;
  old_expr_parents = λ id l. refl;
  old_stmt_parents = λ id l. refl;
  new_exprs = λ id l m. absurd (omega arith);
  new_stmts = λ id l m. absurd (omega arith);
}

split_at : (m n : ℕ) → (n < m) ⊎ (m ≤ n)
split_at zero n = inr (omega arith)
split_at (suc m) zero = inl (omega arith)
split_at (suc m) (suc n) = of (split_at m n)
  where
    of : (n < m) ⊎ (m ≤ n) → (suc n < suc m) ⊎ (suc m ≤ suc n)
    of (inl l) = inl (omega arith)
    of (inr l) = inr (omega arith)

-- one step after another
pub grew_then : {a b c : Forest} {xs ys : List ExprId} {ss ts : List StmtId} → Grew a b xs ss → Grew b c ys ts → Grew a c (xs ++ ys) (ss ++ ts)
grew_then {a} {b} {c} {xs} {ys} {ss} {ts} g h = record {
  trees = kept_then a b c g.more_exprs g.more_stmts g.funs g.trees h.trees;
  funs = h.funs ∙ g.funs;
  more_exprs = omega (arith, g.more_exprs, h.more_exprs);
  more_stmts = omega (arith, g.more_stmts, h.more_stmts);
  exprs_there = exprs_below-append _ xs ys (exprs_below_more _ _ xs h.more_exprs g.exprs_there) h.exprs_there;
  stmts_there = stmts_below-append _ ss ts (stmts_below_more _ _ ss h.more_stmts g.stmts_there) h.stmts_there;
  old_exprs = λ id l. let m : id.number < length b.exprs = omega (arith, g.more_exprs) in omega (arith, expr_count-append id xs ys, g.old_exprs id l, h.old_exprs id m);
  old_stmts = λ id l. let m : id.number < length b.stmts = omega (arith, g.more_stmts) in omega (arith, stmt_count-append id ss ts, g.old_stmts id l, h.old_stmts id m);
  old_expr_parents = λ id l. let m : id.number < length b.exprs = omega (arith, g.more_exprs) in h.old_expr_parents id m ∙ g.old_expr_parents id l;
  old_stmt_parents = λ id l. let m : id.number < length b.stmts = omega (arith, g.more_stmts) in h.old_stmt_parents id m ∙ g.old_stmt_parents id l;
  new_exprs = λ id l m. new_expr id l m (split_at (length b.exprs) id.number);
  new_stmts = λ id l m. new_stmt id l m (split_at (length b.stmts) id.number);
}
  where
    new_expr : (id : ExprId) → length a.exprs ≤ id.number → id.number < length c.exprs → (id.number < length b.exprs) ⊎ (length b.exprs ≤ id.number)
        → expr_parents c id + expr_count id (xs ++ ys) ≡ 1
    new_expr id l m (inl k) = omega (arith, expr_count-append id xs ys, g.new_exprs id l k, h.old_expr_parents id k, h.old_exprs id k)
    new_expr id l m (inr k) = omega (arith, expr_count-append id xs ys, h.new_exprs id k m, expr_count_above _ id xs k g.exprs_there)

    new_stmt : (id : StmtId) → length a.stmts ≤ id.number → id.number < length c.stmts → (id.number < length b.stmts) ⊎ (length b.stmts ≤ id.number)
        → stmt_parents c id + stmt_count id (ss ++ ts) ≡ 1
    new_stmt id l m (inl k) = omega (arith, stmt_count-append id ss ts, g.new_stmts id l k, h.old_stmt_parents id k, h.old_stmts id k)
    new_stmt id l m (inr k) = omega (arith, stmt_count-append id ss ts, h.new_stmts id k m, stmt_count_above _ id ss k g.stmts_there)

longer : {N : Type 0} (ns : List N) (n : N) → length (ns ++ n ∷ []) ≡ length ns + 1
longer ns n = length-append ns (n ∷ [])

-- a new expression may name the roots so far
pub may_name : {old mid : Forest} {xs : List ExprId} {ss : List StmtId} → IsArena mid → Grew old mid xs ss → (id : ExprId) → expr_parents mid id + expr_count id xs ≤ 1
may_name {old} {mid} {xs} {ss} a g id = of (split_at (length old.exprs) id.number) (split_at (length mid.exprs) id.number)
  where
    of : (id.number < length old.exprs) ⊎ (length old.exprs ≤ id.number) → (id.number < length mid.exprs) ⊎ (length mid.exprs ≤ id.number) → expr_parents mid id + expr_count id xs ≤ 1
    of (inl l) _ = omega (arith, a.one_expr_parent id, g.old_exprs id l)
    of (inr l) (inl m) = omega (arith, g.new_exprs id l m)
    of (inr l) (inr m) = omega (arith, a.one_expr_parent id, expr_count_above _ id xs m g.exprs_there)

-- a new statement may name the roots so far
pub may_name_stmts : {old mid : Forest} {xs : List ExprId} {ss : List StmtId} → IsArena mid → Grew old mid xs ss → (id : StmtId) → stmt_parents mid id + stmt_count id ss ≤ 1
may_name_stmts {old} {mid} {xs} {ss} a g id = of (split_at (length old.stmts) id.number) (split_at (length mid.stmts) id.number)
  where
    of : (id.number < length old.stmts) ⊎ (length old.stmts ≤ id.number) → (id.number < length mid.stmts) ⊎ (length mid.stmts ≤ id.number) → stmt_parents mid id + stmt_count id ss ≤ 1
    of (inl l) _ = omega (arith, a.one_stmt_parent id, g.old_stmts id l)
    of (inr l) (inl m) = omega (arith, g.new_stmts id l m)
    of (inr l) (inr m) = omega (arith, a.one_stmt_parent id, stmt_count_above _ id ss m g.stmts_there)

-- an expression that names the roots so far is the one root
pub grew_expr : {old mid : Forest} (e : Expr) (id : ExprId) → IsArena mid → Grew old mid (expr_exprs e) [] → id.number ≡ length mid.exprs → Grew old (with_expr mid e) (id ∷ []) []
grew_expr {old} {mid} e id a g is = record {
  trees = kept_then old mid (with_expr mid e) g.more_exprs g.more_stmts g.funs g.trees (kept_with_expr mid e a);
  funs = g.funs;
  more_exprs = omega (arith, g.more_exprs, longer mid.exprs e);
  more_stmts = g.more_stmts;
  exprs_there = (omega (arith, longer mid.exprs e), tt);
  stmts_there = tt;
  old_exprs = λ x l. let m : x.number < id.number = omega (arith, g.more_exprs) in expr_elsewhere id x m;
  old_stmts = λ x l. refl;
  old_expr_parents = λ x l. omega (arith, expr_parents-with_expr mid e x, g.old_expr_parents x l, g.old_exprs x l);
  old_stmt_parents = λ x l. g.old_stmt_parents x l;
  new_exprs = λ x l m. of x l (split_at (length mid.exprs) x.number) (omega (arith, longer mid.exprs e));
  new_stmts = λ x l m. g.new_stmts x l m;
}
  where
    of : (x : ExprId) → length old.exprs ≤ x.number → (x.number < length mid.exprs) ⊎ (length mid.exprs ≤ x.number) → x.number ≤ length mid.exprs
        → expr_parents (with_expr mid e) x + expr_count x (id ∷ []) ≡ 1
    of x l (inl m) n = let k : x.number < id.number = omega arith in omega (arith, expr_parents-with_expr mid e x, g.new_exprs x l m, expr_elsewhere id x k)
    of x l (inr m) n =
        let k : id.number ≡ x.number = omega arith in
        omega (arith, expr_parents-with_expr mid e x, no_expr_parents mid x a m, expr_count_above _ x (expr_exprs e) m g.exprs_there, expr_here id x k)

-- a statement that names the roots so far is the one root
pub grew_stmt : {old mid : Forest} (s : Stmt) (id : StmtId) → IsArena mid → Grew old mid (stmt_exprs s) (stmt_stmts s) → id.number ≡ length mid.stmts → Grew old (with_stmt mid s) [] (id ∷ [])
grew_stmt {old} {mid} s id a g is = record {
  trees = kept_then old mid (with_stmt mid s) g.more_exprs g.more_stmts g.funs g.trees (kept_with_stmt mid s a);
  funs = g.funs;
  more_exprs = g.more_exprs;
  more_stmts = omega (arith, g.more_stmts, longer mid.stmts s);
  exprs_there = tt;
  stmts_there = (omega (arith, longer mid.stmts s), tt);
  old_exprs = λ x l. refl;
  old_stmts = λ x l. let m : x.number < id.number = omega (arith, g.more_stmts) in stmt_elsewhere id x m;
  old_expr_parents = λ x l. omega (arith, expr_parents-with_stmt mid s x, g.old_expr_parents x l, g.old_exprs x l);
  old_stmt_parents = λ x l. omega (arith, stmt_parents-with_stmt mid s x, g.old_stmt_parents x l, g.old_stmts x l);
  new_exprs = λ x l m. omega (arith, expr_parents-with_stmt mid s x, g.new_exprs x l m);
  new_stmts = λ x l m. of x l (split_at (length mid.stmts) x.number) (omega (arith, longer mid.stmts s));
}
  where
    of : (x : StmtId) → length old.stmts ≤ x.number → (x.number < length mid.stmts) ⊎ (length mid.stmts ≤ x.number) → x.number ≤ length mid.stmts
        → stmt_parents (with_stmt mid s) x + stmt_count x (id ∷ []) ≡ 1
    of x l (inl m) n = let k : x.number < id.number = omega arith in omega (arith, stmt_parents-with_stmt mid s x, g.new_stmts x l m, stmt_elsewhere id x k)
    of x l (inr m) n =
        let k : id.number ≡ x.number = omega arith in
        omega (arith, stmt_parents-with_stmt mid s x, no_stmt_parents mid x a m, stmt_count_above _ x (stmt_stmts s) m g.stmts_there, stmt_here id x k)

-- the trees of lists of nodes that were there
pub expressions_kept : {old new : Forest} (ids : List ExprId) → KeepsTrees old new → AreExprsBelow (length old.exprs) ids
    → expressions_of (expr_at new) ids ≡ expressions_of (expr_at old) ids
expressions_kept [] k b = refl
expressions_kept (id ∷ ids) k b = let e = k.exprs id b.0 in let f = expressions_kept ids k b.1 in cc

pub statements_kept : {old new : Forest} (ids : List StmtId) → KeepsTrees old new → AreStmtsBelow (length old.stmts) ids
    → statements_of (expr_at new) (stmt_at new) ids ≡ statements_of (expr_at old) (stmt_at old) ids
statements_kept [] k b = refl
statements_kept (id ∷ ids) k b = let e = k.stmts id b.0 in let f = statements_kept ids k b.1 in cc

-- the roots so far may get a parent
pub free : {old mid : Forest} {xs : List ExprId} {ss : List StmtId} → IsArena mid → Grew old mid xs ss → AreFree mid xs
free a g = record { there = g.exprs_there; parents = may_name a g }

-- those that were free, and new ones
pub free_then : {old mid : Forest} {xs ys : List ExprId} {ss : List StmtId} → IsArena mid → AreFree old xs → Grew old mid ys ss → AreFree mid (xs ++ ys)
free_then {old} {mid} {xs} {ys} a f g = record {
  there = exprs_below-append _ xs ys (exprs_below_more _ _ xs g.more_exprs f.there) g.exprs_there;
  parents = λ id. of id (split_at (length old.exprs) id.number);
}
  where
    of : (id : ExprId) → (id.number < length old.exprs) ⊎ (length old.exprs ≤ id.number) → expr_parents mid id + expr_count id (xs ++ ys) ≤ 1
    of id (inl l) = omega (arith, expr_count-append id xs ys, g.old_exprs id l, g.old_expr_parents id l, f.parents id)
    of id (inr l) = omega (arith, expr_count-append id xs ys, expr_count_above _ id xs l f.there, may_name a g id)
