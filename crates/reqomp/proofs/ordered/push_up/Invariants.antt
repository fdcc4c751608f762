-- The first steps are done.
use Rattle.std.proofs.Common.{◌≡◌, ◌++◌, map, take}
use Rattle.move_plan.specs.declared.moves.Move.TheVariants.{Up}
use Rattle.reqomp.proofs.ordered.push_up.Given as goal

abbrev pub invariant-loop-s : goal.invariant-loop-s
invariant-loop-s l = l.moves ≡ l.fn.moves ++ map Up (take l.s-index l.steps)
