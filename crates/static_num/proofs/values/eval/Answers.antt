use Rattle.std.proofs.Common.{◌≡◌, true}
use Rattle.silq_tree.specs.Arena.{expr_at}
use Rattle.static_num.specs.Static.{is_static}
use Rattle.static_num.proofs.Known.{value_told}
use Rattle.static_num.proofs.values.eval.Goals as goal

pub returns-then-is_static_at-clause-not_static : goal.returns-then-is_static_at-clause-not_static
returns-then-is_static_at-clause-not_static c =
    let s : is_static c.args.statics.now (expr_at c.args.tree.now c.args.e) ≡ true = cc in
    rw c.value_at.ensures (value_told _ _ s)
