-- The moves go on within the width, and lead to the end.
use Rattle.std.proofs.Common.{subst, ◌∙◌, refl}
use Rattle.qubit_alloc.specs.Place.{first_place, place_move}
use Rattle.qubit_alloc.specs.State.{Tells, progress_of}
use Rattle.plan_gates.proofs.Loops.{first_move, next_move, move_made, first_leads, next_leads, last_leads}
use Rattle.plan_gates.proofs.plan_ends.place_moves.Goals as goal

pub loop-mv-init : goal.loop-mv-init
loop-mv-init c = record {
  made = c.requires.made;
  going = c.requires.going;
  width = refl;
  goes_on = first_move c.args.flat.now _ c.args.moves.now _ _ c.requires.begins refl c.requires.plan c.requires.fits;
  place = first_place c.args.flat.now;
  tells = c.requires.places;
  leads = first_leads c.args.flat.now _ _ c.args.moves.now c.requires.begins;
}

pub place-requires-clause-stands : goal.place-requires-clause-stands
place-requires-clause-stands c =
    (next_move c.args.flat.now _ c.args.moves.now c.loop-mv.mv-index _ _ c.loop-mv-test.true c.loop-mv.invariant.goes_on).stands

pub place-requires-clause-fits : goal.place-requires-clause-fits
place-requires-clause-fits c =
    (next_move c.args.flat.now _ c.args.moves.now c.loop-mv.mv-index _ _ c.loop-mv-test.true c.loop-mv.invariant.goes_on).fits

pub loop-mv-preserved : goal.loop-mv-preserved
loop-mv-preserved c = record {
  made = c.place.ensures.made;
  going = c.place.ensures.going;
  width = c.place.ensures.width ∙ c.loop-mv.invariant.width;
  goes_on = move_made c.args.flat.now _ _ _ _ _ _ c.place.ensures.progress c.place.ensures.width
      (next_move c.args.flat.now _ c.args.moves.now c.loop-mv.mv-index _ _ c.loop-mv-test.true c.loop-mv.invariant.goes_on);
  place = place_move c.args.flat.now (progress_of c.loop-mv.placer) c.loop-mv.invariant.place _;
  tells = c.place.ensures.places c.loop-mv.invariant.place c.loop-mv.invariant.tells;
  leads = next_leads c.args.flat.now _ _ c.loop-mv.invariant.place c.args.moves.now c.loop-mv.mv-index _ _ _ c.loop-mv-test.true c.place.ensures.progress c.loop-mv.invariant.leads;
}

pub returns-clause-progress : goal.returns-clause-progress
returns-clause-progress c =
    (last_leads c.args.flat.now _ c.loop-mv.invariant.place c.args.moves.now c.loop-mv.mv-index _ _ c.loop-mv-test.false c.loop-mv.invariant.leads).0

pub returns-clause-places : goal.returns-clause-places
returns-clause-places c =
    let inv = c.loop-mv.invariant in
    subst (Tells c.args.flat.now c.loop-mv.placer)
    (last_leads c.args.flat.now _ inv.place c.args.moves.now c.loop-mv.mv-index _ _ c.loop-mv-test.false inv.leads).1
    inv.tells
