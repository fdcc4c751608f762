use Rattle.std.proofs.Common.{◌≡◌, ◌++◌, drop, reverse}
use Rattle.silq_mean.specs.Table.{inputs}
use Rattle.silq_run.proofs.start.inputs.Given as goal

abbrev pub invariant-loop-shape : goal.invariant-loop-shape
invariant-loop-shape l = reverse l.values ++ inputs (drop l.shape-index l.shapes) l.rest ≡ inputs l.shapes l.input
