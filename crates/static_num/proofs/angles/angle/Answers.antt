use Rattle.std.proofs.Common.{◌≡◌, true}
use Rattle.silq_tree.specs.Arena.{expr_at}
use Rattle.static_num.specs.Static.{is_static}
use Rattle.static_num.specs.Angle.{is_turn}
use Rattle.static_num.proofs.Told.{number_told, fraction_told}
use Rattle.static_num.proofs.angles.angle.Goals as goal

pub returns-then-is_static_at-clause-not_static : goal.returns-then-is_static_at-clause-not_static
returns-then-is_static_at-clause-not_static c =
    let s : is_static c.args.statics.now (expr_at c.args.tree.now c.args.e) ≡ true = cc in
    rw c.number_turn.ensures (number_told _ _ s)

pub returns-then-is_turn_at-clause-not_static : goal.returns-then-is_turn_at-clause-not_static
returns-then-is_turn_at-clause-not_static c =
    let t : is_turn c.args.statics.now (expr_at c.args.tree.now c.args.e) ≡ true = cc in
    rw c.turn.ensures (fraction_told _ _ t)
