use Rattle.std.proofs.Common.{◌≡◌, length, drop, ◌++◌}
use Rattle.silq_types.specs.Programs.{paired}
use Rattle.tree_walk.proofs.written.paired.Given as goal

-- what is done, and the rest
abbrev pub invariant-loop-name : goal.invariant-loop-name
invariant-loop-name l = l.statics ++ paired (drop (length l.yielded) l.names) (drop (length l.yielded) l.values) ≡ paired l.names l.values
