use Rattle.std.proofs.Common.{◌≡◌, take}
use Rattle.tree_walk.proofs.body.copied.Given as goal

abbrev pub invariant-loop-taker : goal.invariant-loop-taker
invariant-loop-taker l = l.copy ≡ take l.taker-index l.takers
