-- The moves go on within the width, and the wires of the parameters and of the results are on qubits.
use Rattle.std.proofs.Common.{All, IsSome, List, sym, ◌∙◌, subst}
use Rattle.flat_core.specs.declared.step.WireId.{WireId}
use Rattle.qubit_alloc.specs.Place.{first_place, place_move}
use Rattle.qubit_alloc.specs.State.{Tells, qubit_told, progress_of}
use Rattle.plan_gates.proofs.Loops.{inputs_fit, first_move, next_move, move_made, first_leads, next_leads, last_leads, end_fits}
use Rattle.plan_gates.proofs.Told.{placers_tell_lists, places_at_end}
use Rattle.bench_place.proofs.write_plan.Goals as goal

pub new-requires-clause-inputs : goal.new-requires-clause-inputs
new-requires-clause-inputs g c = inputs_fit c.args.flat.now c.args.moves.now c.args.width c.requires.fits

pub qubit_lists-requires : goal.qubit_lists-requires
qubit_lists-requires g c =
    let e = c.in_ok-placer.ensures in
    subst (λ (lists : List (List WireId)). All (All (λ w. IsSome (qubit_told c.in_ok-placer.placer w))) lists) (sym c.ins.ensures)
    (placers_tell_lists.of_parameters c.args.flat.now c.in_ok-placer.placer c.steps-steps.ensures.sound e.going e.progress e.places).on_qubits

pub loop-mv-init : goal.loop-mv-init
loop-mv-init g c =
    let e = c.in_ok-placer.ensures in
    record {
      made = e.made;
      going = e.going;
      width = e.width;
      goes_on = first_move c.args.flat.now _ c.args.moves.now c.args.width _ e.progress e.width c.requires.plan c.requires.fits;
      place = first_place c.args.flat.now;
      tells = e.places;
      leads = first_leads c.args.flat.now _ _ c.args.moves.now e.progress;
    }

pub emit_next-row-requires-clause-stands : goal.emit_next-row-requires-clause-stands
emit_next-row-requires-clause-stands g c =
    (next_move c.args.flat.now _ c.args.moves.now c.loop-mv.mv-index _ _ c.loop-mv-test.true c.loop-mv.invariant.goes_on).stands

pub emit_next-row-requires-clause-fits : goal.emit_next-row-requires-clause-fits
emit_next-row-requires-clause-fits g c =
    (next_move c.args.flat.now _ c.args.moves.now c.loop-mv.mv-index _ _ c.loop-mv-test.true c.loop-mv.invariant.goes_on).fits

pub loop-mv-preserved : goal.loop-mv-preserved
loop-mv-preserved g c =
    let e = c.emit_next-row.ensures in
    let inv = c.loop-mv.invariant in
    record {
      made = e.made;
      going = e.going;
      width = e.width ∙ inv.width;
      goes_on = move_made c.args.flat.now _ _ _ _ _ _ e.progress e.width (next_move c.args.flat.now _ c.args.moves.now c.loop-mv.mv-index _ _ c.loop-mv-test.true inv.goes_on);
      place = place_move c.args.flat.now (progress_of c.loop-mv.placer) inv.place _;
      tells = e.places inv.place inv.tells;
      leads = next_leads c.args.flat.now _ _ inv.place c.args.moves.now c.loop-mv.mv-index _ _ _ c.loop-mv-test.true e.progress inv.leads;
    }

pub finish-requires-clause-fits : goal.finish-requires-clause-fits
finish-requires-clause-fits g c =
    let inv = c.loop-mv.invariant in
    end_fits c.args.flat.now (progress_of c.loop-mv.placer) c.args.moves.now c.args.width c.loop-mv.placer.width
    (last_leads c.args.flat.now _ inv.place c.args.moves.now c.loop-mv.mv-index _ _ c.loop-mv-test.false inv.leads).0
    inv.width c.requires.fits

pub qubit_lists-requires-2 : goal.qubit_lists-requires-2
qubit_lists-requires-2 g c =
    let inv = c.loop-mv.invariant in
    let last = last_leads c.args.flat.now _ inv.place c.args.moves.now c.loop-mv.mv-index _ _ c.loop-mv-test.false inv.leads in
    subst (λ (lists : List (List WireId)). All (All (λ w. IsSome (qubit_told c.finish.new.self w))) lists) (sym c.outs.ensures)
    (placers_tell_lists.of_results c.args.flat.now c.args.moves.now c.finish.new.self c.steps-steps.ensures.sound c.finish.ensures.finished
    (places_at_end c.args.flat.now c.args.moves.now (progress_of c.loop-mv.placer) c.loop-mv.placer c.finish.new.self last.0 c.finish.ensures.places
    (subst (Tells c.args.flat.now c.loop-mv.placer) last.1 inv.tells))).on_qubits
