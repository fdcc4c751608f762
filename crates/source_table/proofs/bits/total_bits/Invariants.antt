use Rattle.std.proofs.Common.{◌≡◌, ◌+◌, drop}
use Rattle.silq_mean.specs.Table.{total_size}
use Rattle.source_table.proofs.bits.total_bits.Given as goal

-- what is left makes up the sum
abbrev pub invariant-loop-shape : goal.invariant-loop-shape
invariant-loop-shape l = l.total + total_size (drop l.shape-index l.shapes) ≡ total_size l.shapes
