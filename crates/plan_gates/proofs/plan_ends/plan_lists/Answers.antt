-- What is told before and after the moves are the qubits of the circuit.
use Rattle.std.proofs.Common.{All, IsSome, List, map, sym, ◌∙◌, ap, subst}
use Rattle.flat_core.specs.declared.step.WireId.{WireId}
use Rattle.qubit_alloc.specs.State.{qubit_told, progress_of}
use Rattle.plan_gates.proofs.Loops.{inputs_fit, end_fits}
use Rattle.plan_gates.proofs.Told.{placers_tell_lists, places_at_end}
use Rattle.plan_gates.proofs.plan_ends.plan_lists.Goals as goal

pub new-requires-clause-inputs : goal.new-requires-clause-inputs
new-requires-clause-inputs c = inputs_fit c.args.flat.now c.args.moves.now c.args.width c.requires.fits

pub qubit_lists-requires : goal.qubit_lists-requires
qubit_lists-requires c =
    let e = c.in_ok-placer.ensures in
    subst (λ (lists : List (List WireId)). All (All (λ w. IsSome (qubit_told c.in_ok-placer.placer w))) lists) (sym c.ins.ensures)
    (placers_tell_lists.of_parameters c.args.flat.now c.in_ok-placer.placer c.steps-steps.ensures.sound e.going e.progress e.places).on_qubits

pub finish-requires-clause-fits : goal.finish-requires-clause-fits
finish-requires-clause-fits c =
    end_fits c.args.flat.now (progress_of c.place_moves.new.placer) c.args.moves.now c.args.width c.place_moves.new.placer.width c.place_moves.ensures.progress (c.place_moves.ensures.width ∙ c.in_ok-placer.ensures.width) c.requires.fits

pub qubit_lists-requires-2 : goal.qubit_lists-requires-2
qubit_lists-requires-2 c =
    subst (λ (lists : List (List WireId)). All (All (λ w. IsSome (qubit_told c.finish.new.self w))) lists) (sym c.outs.ensures)
    (placers_tell_lists.of_results c.args.flat.now c.args.moves.now c.finish.new.self c.steps-steps.ensures.sound c.finish.ensures.finished
    (places_at_end c.args.flat.now c.args.moves.now (progress_of c.place_moves.new.placer) c.place_moves.new.placer c.finish.new.self c.place_moves.ensures.progress c.finish.ensures.places c.place_moves.ensures.places)).on_qubits

pub returns-clause-parameters : goal.returns-clause-parameters
returns-clause-parameters c =
    let e = c.in_ok-placer.ensures in
    (placers_tell_lists.of_parameters c.args.flat.now c.in_ok-placer.placer c.steps-steps.ensures.sound e.going e.progress e.places).only _
    (c.in_ok-ins.ensures ∙ ap (map (map (qubit_told c.in_ok-placer.placer))) c.ins.ensures)

pub returns-clause-results : goal.returns-clause-results
returns-clause-results c =
    (placers_tell_lists.of_results c.args.flat.now c.args.moves.now c.finish.new.self c.steps-steps.ensures.sound c.finish.ensures.finished
    (places_at_end c.args.flat.now c.args.moves.now (progress_of c.place_moves.new.placer) c.place_moves.new.placer c.finish.new.self c.place_moves.ensures.progress c.finish.ensures.places c.place_moves.ensures.places)).only _
    (c.in_ok-outs.ensures ∙ ap (map (map (qubit_told c.finish.new.self))) c.outs.ensures)
