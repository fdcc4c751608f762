-- Expressions in turn.
use Rattle.std.proofs.Common.{◌≡◌, ℕ, ◌+◌, ◌<◌, List, length, drop, get_or, Result, Ok, sym, subst}
use Rattle.silq_tree.specs.declared.node.ExprId.{ExprId}
use Rattle.check_scope.specs.Library.{Shelf}
use Rattle.silq_types.specs.declared.need.Need.{Need}
use Rattle.silq_mean.specs.declared.receiver.Receiver.{Receiver}
use Rattle.silq_mean.specs.Effect.{Effect, ◌>>◌}
use Rattle.silq_mean.specs.Meaning.{need_or, taken_by}
use Rattle.silq_mean.specs.Table.{MeanFault}
use Rattle.run_stage.specs.declared.stage.Stage.{Stage}
use Rattle.run_stage.specs.declared.stop.WalkStop.{WalkStop}
use Rattle.run_stage.specs.Stages.{carried}
use Rattle.run_stage.specs.Stops.{IsStop}
use Rattle.run_stage.proofs.Composing.{turn_both, turn_refused_first}
use Rattle.tree_walk.specs.declared.body.Body.{Body}
use Rattle.tree_walk.specs.Seen.{expr_in, exprs_in}
use Rattle.tree_walk.proofs.Items.{items_at}
use Rattle.run_walk.proofs.Carrying.{Onward, onward_as, onward_step, onward_refused}

module _ (l : Shelf) (b : Body) (ids : List ExprId) (i : ℕ) (d : ExprId) (other : Need) (asked : List Need) (receivers : List Receiver) where
  abbrev one : Need → Effect
  one n = expr_in l b (get_or ids i d) n

  abbrev both : Need → Effect
  both n = one n >> taken_by receivers

  abbrev behind : List Need → List Receiver → Effect
  behind ns rs = exprs_in l b (drop (i + 1) ids) other ns rs

  abbrev rest : Effect
  rest = behind (drop 1 asked) (drop 1 receivers)

  module _ (n : Need) (whole : Result Stage MeanFault) (now : Stage) (lt : i < length ids) (e : n ≡ need_or other asked)
      (o : Onward (exprs_in l b (drop i ids) other asked receivers) whole now) where
    opened : Onward (both n >> rest) whole now
    opened =
        subst (λ m. Onward (both m >> rest) whole now) (sym e)
        (onward_as (exprs_in l b (drop i ids) other asked receivers) (both (need_or other asked) >> rest) whole now
        (items_at l b ids i d other asked receivers lt) o)

    pub item_refused : (f : WalkStop) → IsStop f (carried (one n) now) → IsStop f whole
    item_refused f h = onward_refused f (both n) rest whole now opened (turn_refused_first (one n) (taken_by receivers) now f h)

    pub items_more : (t u : Stage) (ns : List Need) (rs : List Receiver) → carried (one n) now ≡ Ok t → carried (taken_by receivers) t ≡ Ok u
        → ns ≡ drop 1 asked → rs ≡ drop 1 receivers → Onward (behind ns rs) whole u
    items_more t u ns rs h k p q =
        subst (λ x. Onward (behind x rs) whole u) (sym p)
        (subst (λ x. Onward (behind (drop 1 asked) x) whole u) (sym q)
        (onward_step (both n) rest whole now u opened (turn_both (one n) (taken_by receivers) now t u h k)))
