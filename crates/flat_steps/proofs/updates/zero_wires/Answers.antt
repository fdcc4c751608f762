use Rattle.bit_arith.specs.Built.{begun}
use Rattle.bit_arith.specs.Rows.{flip_each}
use Rattle.flat_core.specs.declared.step.End.TheVariants.{Zeroed}
use Rattle.bit_arith.proofs.Going.{refused_out}
use Rattle.flat_steps.proofs.Stays.{end_all_stays, refused_on}
use Rattle.flat_steps.proofs.Changing.{below_zeroed, went_zeroed}
use Rattle.flat_steps.proofs.updates.zero_wires.Goals as goal

pub returns-in_err-flip_each-clause-refused : goal.returns-in_err-flip_each-clause-refused
returns-in_err-flip_each-clause-refused c =
    refused_out _ _ _ c.from_residual.ensures.1
    (refused_on _ _ _ (end_all_stays Zeroed c.args.wires.now (flip_each c.args.builder.now.setting c.args.wires.now c.args.operands.now (begun c.args.builder.now.draft))) c.in_err-flip_each.ensures.refused)

pub end_all-requires : goal.end_all-requires
end_all-requires c = below_zeroed c.args.builder.now c.flip_each.new.self c.args.wires.now c.args.operands.now c.requires c.in_ok-flip_each.ensures.ok

pub returns-clause-ok : goal.returns-clause-ok
returns-clause-ok c = went_zeroed c.args.builder.now c.flip_each.new.self c.end_all.new.builder c.args.wires.now c.args.operands.now c.in_ok-flip_each.ensures.ok c.end_all.ensures
