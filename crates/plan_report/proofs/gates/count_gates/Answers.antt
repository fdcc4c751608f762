-- Each move may come, and its gates are counted to those before it.
use Rattle.std.proofs.Common.{length, refl, ap, ◌∙◌, arith}
use Rattle.qubit_alloc.specs.Place.{first_place, place_move}
use Rattle.qubit_alloc.specs.State.{progress_of}
use Rattle.plan_gates.proofs.Loops.{first_move, next_move, move_made}
use Rattle.plan_report.proofs.Count.{first_count, next_count, last_count}
use Rattle.plan_report.proofs.gates.count_gates.Goals as goal

pub loop-mv-init : goal.loop-mv-init
loop-mv-init c =
    let left = first_count c.args.flat.now _ c.args.moves.now c.requires.begins in
    record {
      made = c.requires.made;
      going = c.requires.going;
      goes_on = first_move c.args.flat.now _ c.args.moves.now _ _ c.requires.begins refl c.requires.plan c.requires.fits;
      place = first_place c.args.flat.now;
      tells = c.requires.places;
      counted = omega (arith, left);
      few = omega arith;
    }

pub emit_next-row-requires-clause-stands : goal.emit_next-row-requires-clause-stands
emit_next-row-requires-clause-stands c =
    (next_move c.args.flat.now _ c.args.moves.now c.loop-mv.mv-index _ _ c.loop-mv-test.true c.loop-mv.invariant.goes_on).stands

pub emit_next-row-requires-clause-fits : goal.emit_next-row-requires-clause-fits
emit_next-row-requires-clause-fits c =
    (next_move c.args.flat.now _ c.args.moves.now c.loop-mv.mv-index _ _ c.loop-mv-test.true c.loop-mv.invariant.goes_on).fits

pub loop-mv-preserved : goal.loop-mv-preserved
loop-mv-preserved c =
    let inv = c.loop-mv.invariant in
    let left = next_count c.args.flat.now _ _ inv.place c.args.moves.now c.loop-mv.mv-index _ c.loop-mv-test.true c.emit_next-row.ensures.progress in
    let row = ap length (c.as_slice.ensures.gates ∙ c.emit_next-row.ensures.gates inv.place inv.tells) in
    record {
      made = c.emit_next-row.ensures.made;
      going = c.emit_next-row.ensures.going;
      goes_on = move_made c.args.flat.now _ _ _ _ _ _ c.emit_next-row.ensures.progress c.emit_next-row.ensures.width
          (next_move c.args.flat.now _ c.args.moves.now c.loop-mv.mv-index _ _ c.loop-mv-test.true inv.goes_on);
      place = place_move c.args.flat.now (progress_of c.loop-mv.placer) inv.place _;
      tells = c.emit_next-row.ensures.places inv.place inv.tells;
      counted = omega (arith, inv.counted, left, row);
      few = omega (arith, inv.few, c.as_slice.ensures.few);
    }

pub returns : goal.returns
returns c =
    let inv = c.loop-mv.invariant in
    let none = last_count c.args.flat.now (progress_of c.loop-mv.placer) inv.place c.args.moves.now c.loop-mv.mv-index c.loop-mv-test.false in
    omega (arith, inv.counted, none)
