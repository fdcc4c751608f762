-- Calls of earlier functions.
use Rattle.std.proofs.Common.{◌≡◌, ℕ, List, Ok, sym, ap, ◌∙◌}
use Rattle.silq_tree.specs.declared.node.ExprId.{ExprId}
use Rattle.check_scope.specs.Library.{Shelf}
use Rattle.silq_mean.specs.Effect.{Effect, ◌>>◌, step, leave_body}
use Rattle.run_stage.specs.declared.stage.Stage.{Stage}
use Rattle.run_stage.specs.declared.stop.WalkStop.{WalkStop}
use Rattle.run_stage.specs.Stages.{carried}
use Rattle.run_stage.specs.Stops.{IsStop}
use Rattle.run_stage.proofs.Composing.{turn_refused_first}
use Rattle.tree_walk.specs.declared.body.Body.{Body}
use Rattle.tree_walk.specs.Seen.{callee_in, arguments_in, own_call_in, run_in}
use Rattle.tree_walk.proofs.Owning.{told_own_call}
use Rattle.run_walk.proofs.Carrying.{carried_after, stop_as}

module _ (l : Shelf) (b : Body) (m : ℕ) (ss args : List ExprId) (inner : Body) (h : inner ≡ callee_in l b m ss) (s : Stage) where
  abbrev given : Effect
  given = arguments_in l b inner args

  abbrev behind : Effect
  behind = run_in l inner >> step leave_body

  told : carried (own_call_in l b m ss args) s ≡ carried (given >> behind) s
  told = ap (λ e. carried e s) (told_own_call l b m ss args inner h)

  pub arguments_refused : (f : WalkStop) → IsStop f (carried given s) → IsStop f (carried (own_call_in l b m ss args) s)
  arguments_refused f r =
      stop_as f (carried (given >> behind) s) (carried (own_call_in l b m ss args) s) (sym told) (turn_refused_first given behind s f r)

  module _ (t : Stage) (e : carried given s ≡ Ok t) where
    behind_is : carried (own_call_in l b m ss args) s ≡ carried behind t
    behind_is = told ∙ carried_after given behind s t e

    pub run_refused : (f : WalkStop) → IsStop f (carried (run_in l inner) t) → IsStop f (carried (own_call_in l b m ss args) s)
    run_refused f r =
        stop_as f (carried behind t) (carried (own_call_in l b m ss args) s) (sym behind_is) (turn_refused_first (run_in l inner) (step leave_body) t f r)

    pub leave_is : (u : Stage) → carried (run_in l inner) t ≡ Ok u → carried (own_call_in l b m ss args) s ≡ carried (step leave_body) u
    leave_is u k = behind_is ∙ carried_after (run_in l inner) (step leave_body) t u k
