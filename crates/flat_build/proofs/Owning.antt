-- Calls of earlier functions.
use Rattle.std.proofs.Common.{◌≡◌, ℕ, List, sym, ap, ◌∙◌}
use Rattle.silq_io.specs.declared.limit.LimitFault.{LimitFault}
use Rattle.silq_tree.specs.declared.node.ExprId.{ExprId}
use Rattle.check_scope.specs.Library.{Shelf}
use Rattle.silq_mean.specs.Effect.{◌>>◌, step, leave_body}
use Rattle.bit_arith.specs.Calls.{Refused}
use Rattle.flat_form.specs.State.{Flattening}
use Rattle.flat_form.specs.Flat.{flat}
use Rattle.flat_steps.specs.Ready.{Ready}
use Rattle.flat_steps.proofs.Stays.{refused_first}
use Rattle.tree_walk.specs.declared.body.Body.{Body}
use Rattle.tree_walk.specs.Seen.{callee_in, arguments_in, own_call_in, run_in}
use Rattle.tree_walk.proofs.Owning.{told_own_call}
use Rattle.flat_build.proofs.Carrying.{ready_first, ready_after, ready_as, refused_after, refused_as}

module _ (l : Shelf) (b : Body) (m : ℕ) (ss args : List ExprId) (inner : Body) (h : inner ≡ callee_in l b m ss) (s : Flattening) where
  told : own_call_in l b m ss args ≡ arguments_in l b inner args >> (run_in l inner >> step leave_body)
  told = told_own_call l b m ss args inner h

  ready_told : Ready (own_call_in l b m ss args) s → Ready (arguments_in l b inner args >> (run_in l inner >> step leave_body)) s
  ready_told r = ready_as (own_call_in l b m ss args) (arguments_in l b inner args >> (run_in l inner >> step leave_body)) s told r

  refused_told : (f : LimitFault) → Refused f (flat (arguments_in l b inner args >> (run_in l inner >> step leave_body)) s).built → Refused f (flat (own_call_in l b m ss args) s).built
  refused_told f r = refused_as f (arguments_in l b inner args >> (run_in l inner >> step leave_body)) (own_call_in l b m ss args) s (sym told) r

  pub arguments_ready : Ready (own_call_in l b m ss args) s → Ready (arguments_in l b inner args) s
  arguments_ready r = ready_first (arguments_in l b inner args) (run_in l inner >> step leave_body) s (ready_told r)

  pub arguments_refused : (f : LimitFault) → Refused f (flat (arguments_in l b inner args) s).built → Refused f (flat (own_call_in l b m ss args) s).built
  arguments_refused f r = refused_told f (refused_first f (arguments_in l b inner args) (run_in l inner >> step leave_body) s r)

  module _ (t : Flattening) (e : t ≡ flat (arguments_in l b inner args) s) where
    pub run_ready : Ready (own_call_in l b m ss args) s → Ready (run_in l inner) t
    run_ready r =
        ready_first (run_in l inner) (step leave_body) t
        (ready_after (arguments_in l b inner args) (run_in l inner >> step leave_body) s t e (ready_told r))

    pub run_refused : (f : LimitFault) → Refused f (flat (run_in l inner) t).built → Refused f (flat (own_call_in l b m ss args) s).built
    run_refused f r =
        refused_told f (refused_after f (arguments_in l b inner args) (run_in l inner >> step leave_body) s t e (refused_first f (run_in l inner) (step leave_body) t r))

    pub leave_is : (u : Flattening) → u ≡ flat (run_in l inner) t → flat (step leave_body) u ≡ flat (own_call_in l b m ss args) s
    leave_is u k =
        ap (λ x. flat (step leave_body) x) (k ∙ ap (λ x. flat (run_in l inner) x) e) ∙ sym (ap (λ x. flat x s) told)
