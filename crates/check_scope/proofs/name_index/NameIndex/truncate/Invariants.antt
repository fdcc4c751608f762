use Rattle.std.proofs.Common.{◌≡◌, length, take}
use Rattle.check_scope.proofs.name_index.NameIndex.truncate.Given as goal

-- the first n are those of the beginning
abbrev pub invariant-loop-self : goal.invariant-loop-self
invariant-loop-self l = take l.n l.self ≡ take l.n l.fn.self

abbrev pub decreases-loop-self : goal.decreases-loop-self
decreases-loop-self l = length l.self
