use Rattle.std.proofs.Common.{◌≡◌, take}
use Rattle.tree_walk.proofs.body.copied_statics.Given as goal

abbrev pub invariant-loop-pair : goal.invariant-loop-pair
invariant-loop-pair l = l.copy ≡ take l.pair-index l.pair-items
