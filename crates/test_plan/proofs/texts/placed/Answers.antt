-- The moves go on within the width.
use Rattle.std.proofs.Common.{◌≤◌, [], subst, arith}
use Rattle.std.proofs.lemmas.List.{drop_all}
use Rattle.move_plan.specs.Live.{live_at_end, count_wires, width_from}
use Rattle.qubit_alloc.specs.State.{progress_of}
use Rattle.qubit_alloc.proofs.ApartLaws.{width_from-end}
use Rattle.plan_gates.proofs.Loops.{GoesOn, inputs_fit, first_move, next_move, move_made}
use Rattle.test_plan.proofs.texts.placed.Goals as goal

pub new-requires-clause-inputs : goal.new-requires-clause-inputs
new-requires-clause-inputs c = inputs_fit c.args.flat.now c.args.moves.now c.args.row.now.width c.requires.fits

pub loop-mv-init : goal.loop-mv-init
loop-mv-init c = record {
  made = c.in_ok-placer.ensures.made;
  going = c.in_ok-placer.ensures.going;
  goes_on = first_move c.args.flat.now _ c.args.moves.now c.args.row.now.width _ c.in_ok-placer.ensures.progress c.in_ok-placer.ensures.width c.requires.plan c.requires.fits;
}

pub emit_next-next-requires-clause-stands : goal.emit_next-next-requires-clause-stands
emit_next-next-requires-clause-stands c =
    (next_move c.args.flat.now _ c.args.moves.now c.loop-mv.mv-index _ _ c.loop-mv-test.true c.loop-mv.invariant.goes_on).stands

pub emit_next-next-requires-clause-fits : goal.emit_next-next-requires-clause-fits
emit_next-next-requires-clause-fits c =
    (next_move c.args.flat.now _ c.args.moves.now c.loop-mv.mv-index _ _ c.loop-mv-test.true c.loop-mv.invariant.goes_on).fits

pub loop-mv-preserved : goal.loop-mv-preserved
loop-mv-preserved c = record {
  made = c.emit_next-next.ensures.made;
  going = c.emit_next-next.ensures.going;
  goes_on = move_made c.args.flat.now _ _ _ _ _ _ c.emit_next-next.ensures.progress c.emit_next-next.ensures.width
      (next_move c.args.flat.now _ c.args.moves.now c.loop-mv.mv-index _ _ c.loop-mv-test.true c.loop-mv.invariant.goes_on);
}

pub finish-requires-clause-fits : goal.finish-requires-clause-fits
finish-requires-clause-fits c =
    let f = c.args.flat.now in
    let p = progress_of c.loop-mv.placer in
    let room = c.loop-mv.placer.width in
    let nothing : GoesOn f p [] room = subst (λ rest. GoesOn f p rest room) (drop_all c.loop-mv.mv-index c.args.moves.now c.loop-mv-test.false) c.loop-mv.invariant.goes_on in
    let least : count_wires f (live_at_end f p) ≤ width_from f p [] = width_from-end f p [] in
    let most : width_from f p [] ≤ room = nothing.fits in
    omega (arith, least, most)
