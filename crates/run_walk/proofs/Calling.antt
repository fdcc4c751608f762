-- Calls, by name, and built-in functions.
use Rattle.std.proofs.Common.{◌≡◌, List, [], None, Result, Ok, Err, refl, sym, ap, ◌∙◌}
use Rattle.silq_tree.specs.declared.node.NameId.{NameId}
use Rattle.silq_tree.specs.declared.node.ExprId.{ExprId}
use Rattle.check_scope.specs.Library.{Shelf, before_at}
use Rattle.silq_types.specs.Calls.{built_in, find_fun, needs_of_built_in}
use Rattle.silq_types.specs.Rules.{and_then}
use Rattle.silq_types.specs.declared.built_in.BuiltIn.{BuiltIn}
use Rattle.silq_types.specs.declared.need.Need.{Need}
use Rattle.silq_types.specs.declared.need.Need.TheVariants.{Held}
use Rattle.silq_mean.specs.Effect.{Effect, nothing, ◌>>◌}
use Rattle.silq_mean.specs.Meaning.{gate}
use Rattle.silq_mean.specs.Table.{MeanFault}
use Rattle.run_stage.specs.declared.stage.Stage.{Stage}
use Rattle.run_stage.specs.declared.stop.WalkStop.{WalkStop}
use Rattle.run_stage.specs.Stages.{carried}
use Rattle.run_stage.specs.Stops.{IsStop}
use Rattle.run_stage.proofs.Sequences.{in_turn, nothing_to_do}
use Rattle.run_stage.proofs.Composing.{turn_refused_first}
use Rattle.tree_walk.specs.declared.body.Body.{Body}
use Rattle.tree_walk.specs.Seen.{exprs_in, call_in, built_in_call_in}
use Rattle.tree_walk.proofs.Calling.{call_none}
use Rattle.run_walk.proofs.Carrying.{carried_after, stop_as}

-- nothing behind a part
pub nothing_behind : (a : Effect) (s : Stage) → carried (a >> nothing) s ≡ carried a s
nothing_behind a s = in_turn a nothing s ∙ pick (carried a s)
  where
    pick : (r : Result Stage MeanFault) → and_then r (carried nothing) ≡ r
    pick (Ok t) = nothing_to_do t
    pick (Err f) = refl

module _ (l : Shelf) (b : Body) (args : List ExprId) (s : Stage) where
  -- a call of no function gives its arguments alone
  pub none_is : (g : NameId) (ss : List ExprId) → built_in l.words g ≡ None → find_fun (before_at l b.this) g ≡ None
      → carried (call_in l b g ss args) s ≡ carried (exprs_in l b args Held [] []) s
  none_is g ss e h = ap (λ x. carried x s) (call_none l b g ss args e h) ∙ nothing_behind (exprs_in l b args Held [] []) s

  -- a call of a built-in function
  module _ (word : BuiltIn) (ns : List Need) (e : ns ≡ needs_of_built_in word) where
    abbrev given : List Need → Effect
    given ms = exprs_in l b args Held ms []

    given_is : carried (given ns) s ≡ carried (given (needs_of_built_in word)) s
    given_is = ap (λ ms. carried (given ms) s) e

    pub word_refused : (f : WalkStop) → IsStop f (carried (given ns) s) → IsStop f (carried (built_in_call_in l b word args) s)
    word_refused f h =
        turn_refused_first (given (needs_of_built_in word)) (gate word) s f
        (stop_as f (carried (given ns) s) (carried (given (needs_of_built_in word)) s) given_is h)

    pub gate_is : (t : Stage) → carried (given ns) s ≡ Ok t → carried (built_in_call_in l b word args) s ≡ carried (gate word) t
    gate_is t h = carried_after (given (needs_of_built_in word)) (gate word) s t (sym given_is ∙ h)
