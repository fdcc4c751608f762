use Rattle.std.proofs.Common.{◌≡◌, ◌+◌, ◌*◌, drop}
use Rattle.silq_tree.proofs.Lists.{exprs_top}
use Rattle.silq_tree.specs.Arena.{expr_at}
use Rattle.silq_tree.specs.Children.{listed}
use Rattle.silq_tree.specs.Standing.{expressions_of}
use Rattle.silq_types.specs.Types.{all_names}
use Rattle.check_fun.specs.Statement.{has_name}
use Rattle.check_fun.proofs.named.+naming.Given as goal

abbrev pub decreases-is_named_at : goal.decreases-is_named_at
decreases-is_named_at l = 3 * l.e.number + 2

abbrev pub decreases-is_index_named : goal.decreases-is_index_named
decreases-is_index_named l = 3 * exprs_top (listed l.index) + 1

abbrev pub decreases-is_named_in : goal.decreases-is_named_in
decreases-is_named_in l = 3 * exprs_top l.items.now

-- the rest tells
abbrev pub invariant-is_named_in-loop-item : goal.invariant-is_named_in-loop-item
invariant-is_named_in-loop-item l = has_name l.name (all_names (expressions_of (expr_at l.tree) (drop l.item-index l.items))) ≡ has_name l.name (all_names (expressions_of (expr_at l.tree) l.items))
