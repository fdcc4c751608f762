-- A statement on its line, and `forget`.
use Rattle.std.proofs.Common.{◌≡◌, ℕ, Option, Some, None, sym, ap, ◌∙◌, subst}
use Rattle.silq_io.specs.declared.limit.LimitFault.{LimitFault}
use Rattle.silq_tree.specs.declared.node.NameId.{NameId}
use Rattle.silq_tree.specs.declared.node.ExprId.{ExprId}
use Rattle.silq_tree.specs.declared.node.StmtId.{StmtId}
use Rattle.silq_tree.specs.declared.node.Spot.{Spot}
use Rattle.silq_tree.specs.declared.node.Stmt.{Stmt}
use Rattle.silq_tree.specs.declared.node.Stmt.TheVariants as nodes
use Rattle.silq_tree.specs.Arena.{Forest, expr_at, stmt_at}
use Rattle.silq_tree.specs.Standing.{stmt_grown}
use Rattle.check_scope.specs.Library.{Shelf}
use Rattle.silq_mean.specs.Effect.{statement}
use Rattle.bit_arith.specs.Calls.{Refused}
use Rattle.flat_form.specs.State.{Flattening}
use Rattle.flat_form.specs.Flat.{flat, count_statement, on_line}
use Rattle.flat_steps.specs.Ready.{Ready}
use Rattle.tree_walk.specs.declared.body.Body.{Body}
use Rattle.tree_walk.specs.Seen.{seen_in, stmt_in, forget_in, line_in, acts}
use Rattle.tree_walk.proofs.Acts.{told_forget}
use Rattle.tree_walk.proofs.Statements.{on_its_line}
use Rattle.flat_build.proofs.Carrying.{refused_as}

-- ---- a statement on its line

module _ (l : Shelf) (b : Body) (id : StmtId) (s t : Flattening) (line : ℕ) (h : line ≡ line_in (stmt_in l b id)) (k : t ≡ on_line line (count_statement s)) where
  at_it : t ≡ on_line (line_in (stmt_in l b id)) (count_statement s)
  at_it = k ∙ ap (λ n. on_line n (count_statement s)) h

  pub act_refused : (f : LimitFault) → Refused f (flat (acts (stmt_in l b id)) t).built → Refused f (flat (stmt_in l b id) s).built
  act_refused f r =
      refused_as f (statement (line_in (stmt_in l b id)) (acts (stmt_in l b id))) (stmt_in l b id) s (sym (on_its_line (stmt_at l.nodes id) (seen_in l b)))
      (subst (λ u. Refused f (flat (acts (stmt_in l b id)) u).built) at_it r)

  pub statement_done : (v x : Flattening) (outer : ℕ) → outer ≡ s.setting.line → v ≡ flat (acts (stmt_in l b id)) t → x ≡ on_line outer v → x ≡ flat (stmt_in l b id) s
  statement_done v x outer o p q =
      q
      ∙ (ap (λ n. on_line n v) o
      ∙ (ap (λ u. on_line s.setting.line u) (p ∙ ap (λ u. flat (acts (stmt_in l b id)) u) at_it)
      ∙ sym (ap (λ e. flat e s) (on_its_line (stmt_at l.nodes id) (seen_in l b)))))

-- ---- `forget`

module _ (l : Shelf) (b : Body) (id : StmtId) (n : Forest) (node : Stmt) (h : n ≡ l.nodes) (g : stmt_at n id ≡ stmt_grown (expr_at n) (stmt_at n) node) where
  pub forget_ready : (x : NameId) (v : Option ExprId) (s : Spot) (t : Flattening) → node ≡ nodes.Forget x v s → Ready (acts (stmt_in l b id)) t → Ready (forget_in l b 0 x v) t
  forget_ready x None s t q r = subst (λ e. Ready e t) (told_forget l b id n node h g x None s q) r
  forget_ready x (Some e) s t q r = let k : Ready (forget_in l b s.line x (Some e)) t = subst (λ e. Ready e t) (told_forget l b id n node h g x (Some e) s q) r in record { good = k.good; fine = k.fine }

  pub forget_flat : (x : NameId) (v : Option ExprId) (s : Spot) (t : Flattening) → node ≡ nodes.Forget x v s → flat (forget_in l b 0 x v) t ≡ flat (acts (stmt_in l b id)) t
  forget_flat x None s t q = sym (ap (λ e. flat e t) (told_forget l b id n node h g x None s q))
  forget_flat x (Some e) s t q = sym (ap (λ e. flat e t) (told_forget l b id n node h g x (Some e) s q))
