use Rattle.std.proofs.Common.{ap, ◌∙◌, arith}
use Rattle.flat_form.specs.State.{wires_in}
use Rattle.flat_steps.proofs.Endings.{next_ended}
use Rattle.flat_steps.proofs.outputs.end_values.Goals as goal

pub loop-value-preserved : goal.loop-value-preserved
loop-value-preserved c =
    let named = c.as_slice.ensures.value ∙ c.in_ok-wires.ensures ∙ ap wires_in c.operands_of.ensures in
    let r = next_ended c.args.end c.args.values.now c.loop-value.value-index c.value-item.result c.loop-value.builder c.end_all.new.builder c.as_slice.result.now (omega arith) c.value-item.is named c.end_all.ensures in record {
      built = r.built ∙ c.loop-value.invariant.built;
      kept = r.kept ∙ c.loop-value.invariant.kept;
      below = r.below c.loop-value.invariant.below;
    }
