-- Expressions in turn.
use Rattle.std.proofs.Common.{◌≡◌, ℕ, ◌+◌, ◌<◌, List, length, drop, get_or, sym, ap, ◌∙◌, subst}
use Rattle.silq_io.specs.declared.limit.LimitFault.{LimitFault}
use Rattle.silq_tree.specs.declared.node.ExprId.{ExprId}
use Rattle.check_scope.specs.Library.{Shelf}
use Rattle.silq_types.specs.declared.need.Need.{Need}
use Rattle.silq_mean.specs.declared.receiver.Receiver.{Receiver}
use Rattle.silq_mean.specs.Effect.{Effect, ◌>>◌}
use Rattle.silq_mean.specs.Meaning.{need_or, taken_by}
use Rattle.bit_arith.specs.Calls.{Refused}
use Rattle.flat_form.specs.State.{Flattening}
use Rattle.flat_form.specs.Flat.{flat}
use Rattle.flat_steps.specs.Ready.{Ready}
use Rattle.tree_walk.specs.declared.body.Body.{Body}
use Rattle.tree_walk.specs.Seen.{expr_in, exprs_in}
use Rattle.tree_walk.proofs.Items.{items_at}
use Rattle.flat_build.proofs.Carrying.{ready_first, ready_after, Onward, onward_as, onward_step, onward_refused}
use Rattle.flat_steps.proofs.Stays.{refused_first}

module _ (l : Shelf) (b : Body) (ids : List ExprId) (i : ℕ) (d : ExprId) (other : Need) (asked : List Need) (receivers : List Receiver) where
  abbrev one : Need → Effect
  one n = expr_in l b (get_or ids i d) n

  abbrev behind : List Need → List Receiver → Effect
  behind ns rs = exprs_in l b (drop (i + 1) ids) other ns rs

  opened : (n : Need) (whole now : Flattening) → i < length ids → n ≡ need_or other asked → Onward (exprs_in l b (drop i ids) other asked receivers) whole now → Onward (one n >> taken_by receivers >> behind (drop 1 asked) (drop 1 receivers)) whole now
  opened n whole now lt e o =
      subst (λ m. Onward (one m >> taken_by receivers >> behind (drop 1 asked) (drop 1 receivers)) whole now) (sym e)
      (onward_as (exprs_in l b (drop i ids) other asked receivers) (one (need_or other asked) >> taken_by receivers >> behind (drop 1 asked) (drop 1 receivers)) whole now (items_at l b ids i d other asked receivers lt) o)

  module _ (n : Need) (whole now : Flattening) (lt : i < length ids) (e : n ≡ need_or other asked) (o : Onward (exprs_in l b (drop i ids) other asked receivers) whole now) where
    both_ready : Ready (one n >> taken_by receivers) now
    both_ready = ready_first (one n >> taken_by receivers) (behind (drop 1 asked) (drop 1 receivers)) now (opened n whole now lt e o).ready

    pub item_ready : Ready (one n) now
    item_ready = ready_first (one n) (taken_by receivers) now both_ready

    pub item_refused : (f : LimitFault) → Refused f (flat (one n) now).built → Refused f whole.built
    item_refused f r =
        onward_refused f (one n >> taken_by receivers) (behind (drop 1 asked) (drop 1 receivers)) whole now (opened n whole now lt e o)
        (refused_first f (one n) (taken_by receivers) now r)

    pub taken_ready : (t : Flattening) → t ≡ flat (one n) now → Ready (taken_by receivers) t
    taken_ready t h = ready_after (one n) (taken_by receivers) now t h both_ready

    pub taken_refused : (f : LimitFault) (t : Flattening) → t ≡ flat (one n) now → Refused f (flat (taken_by receivers) t).built → Refused f whole.built
    taken_refused f t h r =
        onward_refused f (one n >> taken_by receivers) (behind (drop 1 asked) (drop 1 receivers)) whole now (opened n whole now lt e o)
        (subst (λ u. Refused f (flat (taken_by receivers) u).built) h r)

    pub items_more : (t u : Flattening) (ns : List Need) (rs : List Receiver) → t ≡ flat (one n) now → u ≡ flat (taken_by receivers) t → ns ≡ drop 1 asked → rs ≡ drop 1 receivers → Onward (behind ns rs) whole u
    items_more t u ns rs h k p q =
        subst (λ x. Onward (behind x rs) whole u) (sym p)
        (subst (λ x. Onward (behind (drop 1 asked) x) whole u) (sym q)
        (onward_step (one n >> taken_by receivers) (behind (drop 1 asked) (drop 1 receivers)) whole now u (opened n whole now lt e o) (k ∙ ap (λ x. flat (taken_by receivers) x) h)))
