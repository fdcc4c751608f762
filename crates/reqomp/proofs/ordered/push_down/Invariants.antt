-- The last steps are undone.
use Rattle.std.proofs.Common.{◌≡◌, ◌≤◌, ◌++◌, length, map, drop, reverse}
use Rattle.move_plan.specs.declared.moves.Move.TheVariants.{Down}
use Rattle.reqomp.proofs.ordered.push_down.Given as goal

abbrev pub invariant-loop-i : goal.invariant-loop-i
invariant-loop-i l = record {
  within : l.i ≤ length l.steps;
  moves_are : l.moves ≡ l.fn.moves ++ map Down (reverse (drop l.i l.steps));
}

abbrev pub decreases-loop-i : goal.decreases-loop-i
decreases-loop-i l = l.i
