use Rattle.std.proofs.Common.{◌≡◌, ◌≤◌, false, length, drop, reverse}
use Rattle.silq_mean.specs.Env.{is_in_reach}
use Rattle.silq_run.proofs.variables.innermost.Given as goal

abbrev pub invariant-loop-i : goal.invariant-loop-i
invariant-loop-i l = (l.i ≤ length l.blocks) × (is_in_reach (reverse (drop l.i l.blocks)) l.name ≡ false)

abbrev pub decreases-loop-i : goal.decreases-loop-i
decreases-loop-i l = l.i
