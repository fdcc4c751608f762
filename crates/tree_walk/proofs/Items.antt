-- Expressions in turn.
use Rattle.std.proofs.Common.{◌≡◌, ℕ, ◌+◌, ◌<◌, List, length, drop, get_or, ap}
use Rattle.silq_tree.specs.declared.node.ExprId.{ExprId}
use Rattle.silq_tree.specs.Arena.{expr_at}
use Rattle.silq_tree.specs.Syntax.{Expressions}
use Rattle.silq_tree.proofs.Lists.{expressions_of-drop}
use Rattle.check_scope.specs.Library.{Shelf}
use Rattle.silq_types.specs.declared.need.Need.{Need}
use Rattle.silq_mean.specs.declared.receiver.Receiver.{Receiver}
use Rattle.silq_mean.specs.Effect.{◌>>◌}
use Rattle.silq_mean.specs.Meaning.{exprs, need_or, taken_by}
use Rattle.tree_walk.specs.declared.body.Body.{Body}
use Rattle.tree_walk.specs.Seen.{seen_in, expr_in, exprs_in}

pub items_at : (l : Shelf) (b : Body) (ids : List ExprId) (i : ℕ) (d : ExprId) (other : Need) (asked : List Need) (receivers : List Receiver) → i < length ids
    → exprs_in l b (drop i ids) other asked receivers
    ≡ expr_in l b (get_or ids i d) (need_or other asked) >> taken_by receivers >> exprs_in l b (drop (i + 1) ids) other (drop 1 asked) (drop 1 receivers)
items_at l b ids i d other asked receivers lt =
    ap (λ (es : Expressions). exprs es (seen_in l b) other asked receivers) (expressions_of-drop (expr_at l.nodes) ids i d lt)
