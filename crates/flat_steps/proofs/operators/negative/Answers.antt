use Rattle.std.proofs.Common.{length, ◌∙◌}
use Rattle.flat_steps.proofs.Joining.{zeros_safe}
use Rattle.flat_steps.proofs.operators.negative.Goals as goal

pub difference-requires-clause-safe : goal.difference-requires-clause-safe
difference-requires-clause-safe c =
    zeros_safe (length c.args.builder.now.draft.wires) (length c.args.operands.now) c.args.builder.now.setting c.as_slice.result.now c.args.operands.now
    (c.as_slice.ensures.value ∙ c.in_ok-zeros.ensures.items_if_clones_equal (λ y e. e)) c.requires
