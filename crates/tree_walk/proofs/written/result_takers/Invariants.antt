use Rattle.std.proofs.Common.{◌≡◌, ◌++◌, drop, map, cond}
use Rattle.silq_tree.specs.Arena.{expr_at}
use Rattle.silq_mean.specs.declared.receiver.Receiver.TheVariants.{CallResult, EntryOutput}
use Rattle.tree_walk.specs.Written.{node_type}
use Rattle.tree_walk.proofs.written.result_takers.Given as goal

-- what the items that are left give stands behind
abbrev pub invariant-loop-ty : goal.invariant-loop-ty
invariant-loop-ty l =
    l.takers ++ map (λ t. cond l.fn.entry EntryOutput CallResult (node_type l.fn.statics (expr_at l.fn.tree) t)) (drop l.ty-index l.fn.results)
    ≡ map (λ t. cond l.fn.entry EntryOutput CallResult (node_type l.fn.statics (expr_at l.fn.tree) t)) l.fn.results
