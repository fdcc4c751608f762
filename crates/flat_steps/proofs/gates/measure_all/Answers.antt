use Rattle.std.proofs.Common.{◌∙◌}
use Rattle.flat_core.specs.declared.step.WireId.{WireId}
use Rattle.bit_arith.proofs.Going.{refused_out}
use Rattle.flat_steps.proofs.Measures.{from_place, measure_target, measure_more, measure_left, measure_apart, measure_stops}
use Rattle.flat_steps.proofs.gates.measure_all.Goals as goal

pub measure-requires : goal.measure-requires
measure-requires c =
    measure_target c.args.builder.now c.loop-wire.builder _ _ _ (from_place c.args.wires.now c.loop-wire.wire-index _ c.loop-wire-test.true) c.loop-wire.invariant.kept c.loop-wire.invariant.targets

pub returns-in_err-measure-clause-refused : goal.returns-in_err-measure-clause-refused
returns-in_err-measure-clause-refused c =
    refused_out _ _ _ c.from_residual.ensures.1
    (measure_stops c.args.builder.now c.loop-wire.builder _ _ _ (from_place c.args.wires.now c.loop-wire.wire-index _ c.loop-wire-test.true) c.loop-wire.invariant.kept
    _ _ c.loop-wire.invariant.same c.in_err-measure.ensures.refused)

pub loop-wire-preserved : goal.loop-wire-preserved
loop-wire-preserved c =
    let none : WireId = record { number = 0 } in
    let is = from_place c.args.wires.now c.loop-wire.wire-index none c.loop-wire-test.true in
    record {
      same = measure_more c.args.builder.now c.loop-wire.builder _ _ _ is c.loop-wire.invariant.kept c.measure.new.self c.in_ok-measure.ensures.ok ∙ c.loop-wire.invariant.same;
      kept = c.in_ok-measure.ensures.ok.kept ∙ c.loop-wire.invariant.kept;
      targets = measure_left c.args.builder.now c.loop-wire.builder _ _ _ is c.loop-wire.invariant.kept c.measure.new.self c.in_ok-measure.ensures.ok c.loop-wire.invariant.distinct c.loop-wire.invariant.targets;
      distinct = measure_apart c.args.builder.now c.loop-wire.builder _ _ _ is c.loop-wire.invariant.kept c.loop-wire.invariant.distinct;
    }
