-- What is placed can be emitted, whatever the places are.
use Rattle.std.proofs.Common.{sym, subst}
use Rattle.plan_gates.specs.PlacedMoves.{CanBeEmitted}
use Rattle.plan_gates.proofs.Emitted.{can_be_emitted}
use Rattle.plan_gates.proofs.next_gates.emit_next.Goals as goal

pub emit_placed-requires : goal.emit_placed-requires
emit_placed-requires c =
    let made = c.requires.made in
    subst CanBeEmitted (sym (c.place-placed.ensures.told made.place made.tells)) (can_be_emitted c.args.flat.now _ made.place c.args.mv c.steps-steps.ensures.sound c.requires.stands)
