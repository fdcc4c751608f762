use Rattle.std.proofs.Common.{◌≡◌, take}
use Rattle.silq_run.proofs.variables.Variables.copied.Given as goal

abbrev pub invariant-loop-block : goal.invariant-loop-block
invariant-loop-block l = l.blocks.items ≡ take l.block-index l.block-items
