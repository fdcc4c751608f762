use Rattle.std.proofs.Common.{◌≡◌, ◌≤◌, drop}
use Rattle.silq_print.specs.Depths.{lesser, least_of}
use Rattle.silq_print.proofs.depth.least.Given as goal

-- the least so far, with what is left
abbrev pub invariant-loop-depth : goal.invariant-loop-depth
invariant-loop-depth l = (lesser l.low (least_of (drop l.depth-index l.depths)) ≡ least_of l.fn.depths) × (l.low ≤ 65)
