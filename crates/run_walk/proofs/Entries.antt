-- Bodies, and entries.
use Rattle.std.proofs.Common.{◌≡◌, List, Ok, ap, ◌∙◌}
use Rattle.silq_tree.specs.declared.node.NameId.{NameId}
use Rattle.silq_tree.specs.declared.node.StmtId.{StmtId}
use Rattle.check_scope.specs.Library.{Shelf, function_at}
use Rattle.silq_mean.specs.Effect.{◌>>◌, step, enter_body}
use Rattle.silq_mean.specs.Meaning.{params_of, give_held}
use Rattle.run_stage.specs.declared.stage.Stage.{Stage}
use Rattle.run_stage.specs.Stages.{carried}
use Rattle.tree_walk.specs.declared.body.Body.{Body}
use Rattle.tree_walk.specs.Seen.{stmts_in, run_in, entry_in}
use Rattle.tree_walk.specs.Written.{give_names, held_names}
use Rattle.tree_walk.proofs.WrittenLists.{told_held}
use Rattle.run_walk.proofs.Carrying.{carried_after}

-- once a body is entered, its statements are left
pub body_is : (l : Shelf) (b : Body) (xs : List NameId) (ids : List StmtId) (s t : Stage) → run_in l b ≡ step (enter_body xs) >> stmts_in l b ids
    → carried (step (enter_body xs)) s ≡ Ok t → carried (run_in l b) s ≡ carried (stmts_in l b ids) t
body_is l b xs ids s t e h = ap (λ x. carried x s) e ∙ carried_after (step (enter_body xs)) (stmts_in l b ids) s t h

-- once the body of an entry is carried out, the values of its const parameters are left
pub held_is : (l : Shelf) (b : Body) (xs : List NameId) (s t : Stage) → xs ≡ held_names (params_of (function_at l b.this) b.statics)
    → carried (run_in l b) s ≡ Ok t → carried (entry_in l b) s ≡ carried (give_names xs) t
held_is l b xs s t e h =
    carried_after (run_in l b) (give_held (params_of (function_at l b.this) b.statics)) s t h
    ∙ ap (λ x. carried x t) (told_held (params_of (function_at l b.this) b.statics) xs e)
