-- For functions that recurse over the ids in a node. One over an id has the measure 2 * id.number + 1, one over several,
-- with a loop, 2 * exprs_top ids, where exprs_top is one more than the greatest number. `using(silq_tree::proofs::Lists::ids)` lists the lemmas.
use Rattle.std.proofs.Common.{◌≡◌, ℕ, zero, suc, ◌+◌, ◌<◌, ◌≤◌, max, List, [], ◌∷◌, ◌++◌, drop, get_or, length, refl, arith}
use Rattle.silq_tree.specs.declared.node.ExprId.{ExprId}
use Rattle.silq_tree.specs.declared.node.StmtId.{StmtId}
use Rattle.silq_tree.specs.Syntax.{Expression, Statement, none, more, done, next}
use Rattle.silq_tree.specs.Standing.{expressions_of, statements_of}
use Rattle.silq_tree.specs.Children.{AreExprsBelow, AreStmtsBelow}

abbrev pub exprs_top : List ExprId → ℕ
exprs_top [] = 0
exprs_top (id ∷ ids) = max (id.number + 1) (exprs_top ids)

abbrev pub stmts_top : List StmtId → ℕ
stmts_top [] = 0
stmts_top (id ∷ ids) = max (id.number + 1) (stmts_top ids)

-- expressions
pub exprs_top_le : (n : ℕ) (ids : List ExprId) → AreExprsBelow n ids → exprs_top ids ≤ n
exprs_top_le n [] b = omega arith
exprs_top_le n (id ∷ ids) b = omega (arith, b.0, exprs_top_le n ids b.1)

pub expr_below_top : (ids : List ExprId) (i : ℕ) (d : ExprId) → i < length ids → (get_or ids i d).number < exprs_top ids
expr_below_top [] i d l = absurd (omega arith)
expr_below_top (x ∷ ids) zero d l = omega arith
expr_below_top (x ∷ ids) (suc i) d l = omega (arith, expr_below_top ids i d (omega arith))

pub expr_below : (n : ℕ) (ids : List ExprId) (i : ℕ) (d : ExprId) → AreExprsBelow n ids → i < length ids → (get_or ids i d).number < n
expr_below n ids i d b l = omega (arith, exprs_top_le n ids b, expr_below_top ids i d l)

pub exprs_below_front : (n : ℕ) (xs ys : List ExprId) → AreExprsBelow n (xs ++ ys) → AreExprsBelow n xs
exprs_below_front n [] ys b = tt
exprs_below_front n (x ∷ xs) ys b = (b.0, exprs_below_front n xs ys b.1)

pub exprs_below_back : (n : ℕ) (xs ys : List ExprId) → AreExprsBelow n (xs ++ ys) → AreExprsBelow n ys
exprs_below_back n [] ys b = b
exprs_below_back n (x ∷ xs) ys b = exprs_below_back n xs ys b.1

pub exprs_below_more : (m n : ℕ) (ids : List ExprId) → m ≤ n → AreExprsBelow m ids → AreExprsBelow n ids
exprs_below_more m n [] l b = tt
exprs_below_more m n (id ∷ ids) l b = (omega (arith, b.0), exprs_below_more m n ids l b.1)

pub expressions_of-drop : (at : ExprId → Expression) (ids : List ExprId) (i : ℕ) (d : ExprId) → i < length ids
    → expressions_of at (drop i ids) ≡ more (at (get_or ids i d)) (expressions_of at (drop (i + 1) ids))
expressions_of-drop at [] i d l = absurd (omega arith)
expressions_of-drop at (x ∷ ids) zero d l = refl
expressions_of-drop at (x ∷ ids) (suc i) d l = let e : suc i + 1 ≡ suc (i + 1) = omega arith in rw e (expressions_of-drop at ids i d (omega arith))

pub expressions_of-end : (at : ExprId → Expression) (ids : List ExprId) (i : ℕ) → length ids ≤ i → expressions_of at (drop i ids) ≡ none
expressions_of-end at [] zero l = refl
expressions_of-end at [] (suc i) l = refl
expressions_of-end at (x ∷ ids) zero l = absurd (omega arith)
expressions_of-end at (x ∷ ids) (suc i) l = expressions_of-end at ids i (omega arith)

-- statements
pub stmts_top_le : (n : ℕ) (ids : List StmtId) → AreStmtsBelow n ids → stmts_top ids ≤ n
stmts_top_le n [] b = omega arith
stmts_top_le n (id ∷ ids) b = omega (arith, b.0, stmts_top_le n ids b.1)

pub stmt_below_top : (ids : List StmtId) (i : ℕ) (d : StmtId) → i < length ids → (get_or ids i d).number < stmts_top ids
stmt_below_top [] i d l = absurd (omega arith)
stmt_below_top (x ∷ ids) zero d l = omega arith
stmt_below_top (x ∷ ids) (suc i) d l = omega (arith, stmt_below_top ids i d (omega arith))

pub stmt_below : (n : ℕ) (ids : List StmtId) (i : ℕ) (d : StmtId) → AreStmtsBelow n ids → i < length ids → (get_or ids i d).number < n
stmt_below n ids i d b l = omega (arith, stmts_top_le n ids b, stmt_below_top ids i d l)

pub stmts_below_front : (n : ℕ) (xs ys : List StmtId) → AreStmtsBelow n (xs ++ ys) → AreStmtsBelow n xs
stmts_below_front n [] ys b = tt
stmts_below_front n (x ∷ xs) ys b = (b.0, stmts_below_front n xs ys b.1)

pub stmts_below_back : (n : ℕ) (xs ys : List StmtId) → AreStmtsBelow n (xs ++ ys) → AreStmtsBelow n ys
stmts_below_back n [] ys b = b
stmts_below_back n (x ∷ xs) ys b = stmts_below_back n xs ys b.1

pub stmts_below_more : (m n : ℕ) (ids : List StmtId) → m ≤ n → AreStmtsBelow m ids → AreStmtsBelow n ids
stmts_below_more m n [] l b = tt
stmts_below_more m n (id ∷ ids) l b = (omega (arith, b.0), stmts_below_more m n ids l b.1)

module _ (at : ExprId → Expression) (stmt : StmtId → Statement) where
  pub statements_of-drop : (ids : List StmtId) (i : ℕ) (d : StmtId) → i < length ids
      → statements_of at stmt (drop i ids) ≡ next (stmt (get_or ids i d)) (statements_of at stmt (drop (i + 1) ids))
  statements_of-drop [] i d l = absurd (omega arith)
  statements_of-drop (x ∷ ids) zero d l = refl
  statements_of-drop (x ∷ ids) (suc i) d l = let e : suc i + 1 ≡ suc (i + 1) = omega arith in rw e (statements_of-drop ids i d (omega arith))

  pub statements_of-end : (ids : List StmtId) (i : ℕ) → length ids ≤ i → statements_of at stmt (drop i ids) ≡ done
  statements_of-end [] zero l = refl
  statements_of-end [] (suc i) l = refl
  statements_of-end (x ∷ ids) zero l = absurd (omega arith)
  statements_of-end (x ∷ ids) (suc i) l = statements_of-end ids i (omega arith)

pub ruleset ids = (exprs_top_le, expr_below_top, expr_below, exprs_below_front, exprs_below_back, exprs_below_more, expressions_of-drop, expressions_of-end, stmts_top_le, stmt_below_top, stmt_below, stmts_below_front, stmts_below_back, stmts_below_more, statements_of-drop, statements_of-end)
