-- Statements, each on its line.
use Rattle.std.proofs.Common.{◌≡◌, ℕ, List, Result, Ok, Err, IfErr, OnOk, sym, ap, ◌∙◌, subst}
use Rattle.std.specs.Result.{IsErrAnd}
use Rattle.silq_tree.specs.declared.node.ExprId.{ExprId}
use Rattle.silq_tree.specs.declared.node.StmtId.{StmtId}
use Rattle.silq_tree.specs.Arena.{stmt_at}
use Rattle.check_scope.specs.Library.{Shelf}
use Rattle.silq_types.specs.declared.need.Need.TheVariants.{Consumed}
use Rattle.silq_mean.specs.declared.receiver.Receiver.{Receiver}
use Rattle.silq_mean.specs.Effect.{Effect, ◌>>◌, statement}
use Rattle.silq_mean.specs.Meaning.{taken_by}
use Rattle.run_stage.specs.declared.stage.Stage.{Stage}
use Rattle.run_stage.specs.declared.stop.WalkStop.{WalkStop}
use Rattle.run_stage.specs.Stages.{carried}
use Rattle.run_stage.specs.Stops.{IsStop}
use Rattle.run_stage.proofs.Composing.{turn_refused_first}
use Rattle.tree_walk.specs.declared.body.Body.{Body}
use Rattle.tree_walk.specs.Seen.{seen_in, expr_in, items_in, stmt_in, line_in, acts}
use Rattle.tree_walk.proofs.Statements.{on_its_line}
use Rattle.run_walk.proofs.Carrying.{carried_after, stop_as}

module _ (l : Shelf) (b : Body) (id : StmtId) (s : Stage) where
  on_line : carried (stmt_in l b id) s ≡ carried (statement (line_in (stmt_in l b id)) (acts (stmt_in l b id))) s
  on_line = ap (λ e. carried e s) (on_its_line (stmt_at l.nodes id) (seen_in l b))

  -- what refuses the count of a statement refuses the statement
  pub count_refused : (f : WalkStop) → ((line : ℕ) (e : Effect) → IsStop f (carried (statement line e) s)) → IsStop f (carried (stmt_in l b id) s)
  count_refused f h =
      stop_as f (carried (statement (line_in (stmt_in l b id)) (acts (stmt_in l b id))) s) (carried (stmt_in l b id) s) (sym on_line)
      (h (line_in (stmt_in l b id)) (acts (stmt_in l b id)))

  -- a statement that was counted goes on with what it does on its line
  pub counted_is : (t : Stage) → ((line : ℕ) (e : Effect) → carried (statement line e) s ≡ carried e t)
      → carried (stmt_in l b id) s ≡ carried (acts (stmt_in l b id)) t
  counted_is t h = on_line ∙ h (line_in (stmt_in l b id)) (acts (stmt_in l b id))

-- one value that is returned, taken over
module _ (l : Shelf) (b : Body) (e : ExprId) (takers : List Receiver) (s : Stage)
    (h : items_in l b e takers ≡ expr_in l b e Consumed >> taken_by takers) where
  single : carried (items_in l b e takers) s ≡ carried (expr_in l b e Consumed >> taken_by takers) s
  single = ap (λ x. carried x s) h

  pub single_is : (t : Stage) → carried (expr_in l b e Consumed) s ≡ Ok t → carried (items_in l b e takers) s ≡ carried (taken_by takers) t
  single_is t k = single ∙ carried_after (expr_in l b e Consumed) (taken_by takers) s t k

  pub single_refused : (r : Result (Unit {0}) WalkStop) (f : WalkStop) → IsErrAnd r (λ g. g ≡ f) → (t : Stage)
      → IsStop f (carried (expr_in l b e Consumed) s)
      → record {
        ok : OnOk r (carried (items_in l b e takers) s ≡ Ok t);
        refused : IfErr r (λ g. IsStop g (carried (items_in l b e takers) s));
      }
  single_refused (Ok u) f is t k = absurd (is)
  single_refused (Err g) f is t k = record {
    ok = tt;
    refused = subst (λ x. IsStop x (carried (items_in l b e takers) s)) (sym is)
        (stop_as f (carried (expr_in l b e Consumed >> taken_by takers) s) (carried (items_in l b e takers) s) (sym single)
        (turn_refused_first (expr_in l b e Consumed) (taken_by takers) s f k));
  }
