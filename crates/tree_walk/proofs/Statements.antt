-- Statements, each on its line, and in turn.
use Rattle.std.proofs.Common.{◌≡◌, ℕ, ◌+◌, ◌<◌, List, [], ◌∷◌, ◌++◌, map, length, take, drop, get_or, refl, ap, ◌∙◌}
use Rattle.std.proofs.lemmas.List.{take_more}
use Rattle.silq_tree.specs.declared.node.NameId.{NameId}
use Rattle.silq_tree.specs.declared.node.StmtId.{StmtId}
use Rattle.silq_tree.specs.Arena.{expr_at, stmt_at}
use Rattle.silq_tree.specs.Syntax.{Statement, Statements, assign, spread, update, forget, forget_value, phase, choice, loop, return_nothing, return_value, call}
use Rattle.silq_tree.proofs.Lists.{statements_of-drop}
use Rattle.check_scope.specs.Library.{Shelf}
use Rattle.silq_mean.specs.declared.receiver.Receiver.{Receiver}
use Rattle.silq_mean.specs.declared.receiver.Receiver.TheVariants.{Variable}
use Rattle.silq_mean.specs.Effect.{◌>>◌, statement}
use Rattle.silq_mean.specs.Meaning.{Scope, stmt, stmts}
use Rattle.tree_walk.specs.declared.body.Body.{Body}
use Rattle.tree_walk.specs.Seen.{seen_in, stmt_in, stmts_in, line_in, acts}

-- each statement is one on its line
pub on_its_line : (st : Statement) (sc : Scope) → stmt st sc ≡ statement (line_in (stmt st sc)) (acts (stmt st sc))
on_its_line (assign p e s) sc = refl
on_its_line (spread xs e s) sc = refl
on_its_line (update p op e s) sc = refl
on_its_line (forget x s) sc = refl
on_its_line (forget_value x e s) sc = refl
on_its_line (phase e s) sc = refl
on_its_line (choice e b other s) sc = refl
on_its_line (loop x low high b s) sc = refl
on_its_line (return_nothing s) sc = refl
on_its_line (return_value e s) sc = refl
on_its_line (call e s) sc = refl

-- a variable for each name
abbrev taker : NameId → Receiver
taker x = Variable

each_more : (xs ys : List NameId) → map taker (xs ++ ys) ≡ map taker xs ++ map taker ys
each_more [] ys = refl
each_more (x ∷ xs) ys = ap (λ ts. Variable ∷ ts) (each_more xs ys)

pub variables_more : (xs : List NameId) (i : ℕ) → i < length xs
    → map (λ (x : NameId). Variable) (take (i + 1) xs) ≡ map (λ (x : NameId). Variable) (take i xs) ++ Variable ∷ []
variables_more xs i lt =
    ap (λ ys. map taker ys) (take_more xs i (record { number = 0 }) lt) ∙ each_more (take i xs) (get_or xs i (record { number = 0 }) ∷ [])

-- statements in turn
pub stmts_at : (l : Shelf) (b : Body) (ids : List StmtId) (i : ℕ) (d : StmtId) → i < length ids
    → stmts_in l b (drop i ids) ≡ stmt_in l b (get_or ids i d) >> stmts_in l b (drop (i + 1) ids)
stmts_at l b ids i d lt = ap (λ (ss : Statements). stmts ss (seen_in l b)) (statements_of-drop (expr_at l.nodes) (stmt_at l.nodes) ids i d lt)
